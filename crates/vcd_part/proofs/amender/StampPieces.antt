-- What is put in the place of a stamp: the pieces of tick 0, if they are due, and the stamp itself.
use Rattle.std.proofs.Common.{◌≡◌, ◌∙◌, ◌&&◌, ◌∷◌, [], ◌++◌, ℕ, Bool, List, not, ap, nat_le, nat_lt, if◌then◌else◌}
use Rattle.vcd_core.specs.declared.device.Sink as sinks
use Rattle.vcd_text.specs.Grammar.{ParseState}
use Rattle.vcd_copy.specs.Pieces.{Piece}
use Rattle.vcd_text.specs.declared.writing.output.Output.{Output}
use Rattle.vcd_text.specs.declared.reading.choice.TickRange.{TickRange}
use Rattle.vcd_part.specs.declared.request.Request.{Request}
use Rattle.vcd_part.specs.PartPieces.{first_pieces, is_up_to_first, is_within, stamp_in_part, last_stamp, stamp_pieces}
use Rattle.vcd_part.specs.inside.PartCopy.{IsPut}
use Rattle.vcd_part.proofs.shared.PutPieces.{both_put, put_as}

pub stamp_put : {W : Type 0} (sink : sinks.Ghosts W) (o0 o1 o2 : Output W) (held0 held1 held2 : List ℕ) (r : Request)
    (s : ParseState) (before : List Piece) (p : Piece) (w : TickRange) (earlier t : ℕ) (due : Bool) → earlier ≡ s.tick
    → due ≡ (is_up_to_first w earlier && not (is_up_to_first w t))
    → IsPut sink o0 o1 held0 held1 (if due then first_pieces r s.declared before else [])
    → IsPut sink o1 o2 held1 held2 (if is_within w t then stamp_in_part w p t ∷ []
    else (if nat_le earlier w.last && nat_lt w.last t then last_stamp w earlier else []))
    → IsPut sink o0 o2 held0 held2 (stamp_pieces r w s before p t)
stamp_put sink o0 o1 o2 held0 held1 held2 r s before p w earlier t due same due_is first alone =
    let stamp_at : ℕ → List Piece = λ (u : ℕ). if is_within w t then stamp_in_part w p t ∷ []
    else (if nat_le u w.last && nat_lt w.last t then last_stamp w u else []) in
    let first_if : Bool → List Piece = λ (b : Bool). if b then first_pieces r s.declared before else [] in
    put_as sink o0 o2 held0 held2 (first_if due ++ stamp_at earlier) (stamp_pieces r w s before p t)
    (ap (λ (b : Bool). first_if b ++ stamp_at earlier) due_is
    ∙ ap (λ (u : ℕ). first_if (is_up_to_first w u && not (is_up_to_first w t)) ++ stamp_at u) same)
    (both_put sink o0 o1 o2 held0 held1 held2 (first_if due) (stamp_at earlier) first alone)
