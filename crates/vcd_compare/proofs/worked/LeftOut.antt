-- Worked cases of what a comparison leaves out.
use Rattle.std.proofs.Common.{◌≡◌, ℕ, [], ◌∷◌, codes, refl}
use Rattle.vcd_text.specs.HeardChanges.{HeardChange}
use Rattle.vcd_text.specs.declared.reading.heard_changes.ChangeTarget.{ChangeTarget}
use Rattle.vcd_text.specs.declared.reading.heard_changes.ChangeTarget.TheVariants.{Kept, Skipped}
use Rattle.vcd_compare.specs.LeftOut.{replaced_of, left_out_of}

abbrev to_one : (tick : ℕ) → ChangeTarget → HeardChange
to_one tick target = record { tick = tick; target = target; text = codes "1" }

-- of three changes of a signal at a tick two are replaced, whatever is between them
all_but_the_last : left_out_of (to_one 5 (Kept 0) ∷ to_one 5 (Kept 1) ∷ to_one 5 (Kept 0) ∷ to_one 5 (Kept 0) ∷ [])
    ≡ record { replaced = 2 }
unfolding replaced_of
all_but_the_last = refl

-- none is replaced by one at another tick, or of another variable with the same position
others_stay : left_out_of (to_one 5 (Kept 0) ∷ to_one 5 (Skipped 0) ∷ to_one 6 (Kept 0) ∷ []) ≡ record { replaced = 0 }
unfolding replaced_of
others_stay = refl
