use Rattle.std.proofs.Common.{◌≡◌, ◌-◌, ◌≤◌, pos, map}
use Rattle.std.specs.Prelude.{neg_ℤ}
use Rattle.vcd_core.specs.Contents.{Contents}
use Rattle.vcd_core.specs.CaptureContents.{signal_contents}
use Rattle.vcd_core.specs.Sound.{IsSound}
use Rattle.vcd_edit.specs.Effect.{signal_after_cut}
use Rattle.vcd_edit.specs.Records.{piece_view}
use Rattle.vcd_edit.specs.inside.plans.Plan.{PiecesForEach}
use Rattle.vcd_edit.proofs.plans.cut.cut_pieces.Given as goal

-- the pieces cut the signals so far
abbrev pub invariant-loop-position : goal.invariant-loop-position
invariant-loop-position l = (c : Contents) → c.signals ≡ map signal_contents l.signals → IsSound c → l.to ≤ c.end
    → PiecesForEach c (neg_ℤ (pos (l.to - l.from))) (signal_after_cut (c.end - (l.to - l.from)) l.from l.to) l.position
    (map piece_view l.pieces.items)
