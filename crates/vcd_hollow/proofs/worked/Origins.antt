-- Worked cases: which signals are left after edits, and which ticks.
use Rattle.std.proofs.Common.{◌≡◌, refl}
use Rattle.std.specs.Prelude.{List, [], ◌∷◌, Some, None, codes}
use Rattle.vcd_edit.specs.declared.edit.Edit.{Edit}
use Rattle.vcd_edit.specs.declared.edit.Edit.TheVariants.{Rename, Remove, Cut, Derive}
use Rattle.vcd_edit.specs.declared.edit.Rule.TheVariants.{Not}
use Rattle.vcd_edit.proofs.worked.Effects.{lent}
use Rattle.vcd_hollow.specs.Origins.{origins, origin}
use Rattle.vcd_hollow.specs.Cuts.{cuts, tick_before_cuts}

-- the last one made is the first: b is removed, `n` is derived from c, ticks are cut out, a gets
-- another name
abbrev pub four_edits : List Edit
four_edits = Rename 0 (lent (codes "d")) ∷ Cut 1 3 ∷ Derive (lent (codes "n")) (Not 1) ∷ Remove 1 ∷ []

which_are_left : origins 3 four_edits ≡ 0 ∷ 2 ∷ []
unfolding origins
which_are_left = refl

where_from : (origin 3 four_edits 0 ≡ Some 0) × (origin 3 four_edits 1 ≡ Some 2) × (origin 3 four_edits 2 ≡ None)
unfolding origin
where_from = (refl, refl, refl)

-- a signal stands one position lower after one before it is removed
two_removed : origins 4 (Remove 1 ∷ Remove 0 ∷ []) ≡ 1 ∷ 3 ∷ []
unfolding origins
two_removed = refl

-- ---- cuts

one_cut : cuts four_edits ≡ Cut 1 3 ∷ []
unfolding cuts
one_cut = refl

ticks_before : (tick_before_cuts four_edits 0 ≡ 0) × (tick_before_cuts four_edits 1 ≡ 3)
    × (tick_before_cuts four_edits 4 ≡ 6)
unfolding tick_before_cuts
ticks_before = (refl, refl, refl)

-- a second cut counts the ticks that the first has left: 2 and 3 are cut out, then 1, 4 and 5
two_cuts : (tick_before_cuts (Cut 1 4 ∷ Cut 2 4 ∷ []) 0 ≡ 0) × (tick_before_cuts (Cut 1 4 ∷ Cut 2 4 ∷ []) 1 ≡ 6)
unfolding tick_before_cuts
two_cuts = (refl, refl)
