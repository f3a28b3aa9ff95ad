-- The changes passed are written.
use Rattle.std.proofs.Common.{◌≡◌, ◌++◌, List, take}
use Rattle.vcd_copy.specs.Copied.{copied_pieces}
use Rattle.vcd_text.specs.EmittedText.{Emits}
use Rattle.vcd_copy.specs.Pieces.{Piece}
use Rattle.vcd_amend.specs.inside.amending.FileAmender.{HasSeen}
use Rattle.vcd_amend.specs.inside.amending.HeldChanges.{ArePieces}
use Rattle.vcd_amend.specs.inside.amending.CutAmender.{rules_of}
use Rattle.vcd_amend.proofs.amending.cut_amender.put_changes.Given as goal

abbrev pub invariant-loop-change : goal.invariant-loop-change
invariant-loop-change g l = record {
  same : l.inner.amendment.now ≡ l.initial.inner.amendment.now;
  each : (r ps : List Piece) → HasSeen l.initial.inner r → ArePieces l.held ps
      → Emits g.W.Sink l.initial.output l.output
      (copied_pieces (rules_of l.initial.inner) r (take l.change-index ps))
      × HasSeen l.inner (r ++ take l.change-index ps);
}
