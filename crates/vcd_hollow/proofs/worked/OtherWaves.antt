-- Worked cases: which waves an edit reads, and what it makes of a capture with other waves.
use Rattle.std.proofs.Common.{◌≡◌, refl}
use Rattle.std.specs.Prelude.{List, [], ◌∷◌, Some, None, codes, pos}
use Rattle.vcd_core.specs.declared.bit.Bit.TheVariants.{Zero, One}
use Rattle.vcd_core.specs.Wave.{value_from, changes_from}
use Rattle.vcd_edit.specs.declared.edit.Edit.TheVariants.{Rename, Remove, Shift, Cut, Force, Derive}
use Rattle.vcd_edit.specs.declared.edit.Rule.TheVariants.{BitOf, And}
use Rattle.vcd_edit.specs.Effect.{effect}
use Rattle.vcd_hollow.specs.OtherWaves.{OtherChanges, with_others, waves_read, others_after}
use Rattle.vcd_edit.proofs.worked.Records.{from}
use Rattle.vcd_edit.proofs.worked.Effects.{lent, two_signals, three_signals}

-- a name is given, a signal removed and time cut out without any wave
what_is_read : (waves_read (Rename 2 (lent (codes "d"))) ≡ []) × (waves_read (Remove 2) ≡ [])
    × (waves_read (Cut 1 4) ≡ []) × (waves_read (Shift 2 (pos 1)) ≡ 2 ∷ [])
    × (waves_read (Force 2 0 1 (One ∷ [])) ≡ 2 ∷ []) × (waves_read (Derive (lent (codes "d")) (And 2 0)) ≡ 2 ∷ 0 ∷ [])
    × (waves_read (Derive (lent (codes "d")) (BitOf 1 7)) ≡ 1 ∷ [])
what_is_read = (refl, refl, refl, refl, refl, refl, refl)

-- a has no change in place of its own, b has its own
abbrev a_without : List OtherChanges
a_without = Some [] ∷ None ∷ []

-- the others go with a
without_a : (effect (Remove 0) (with_others a_without three_signals)
    ≡ with_others (None ∷ []) (effect (Remove 0) three_signals))
    × (others_after (Remove 0) three_signals a_without ≡ None ∷ [])
unfolding effect
without_a = (refl, refl)

-- a has other changes, which a cut moves as it moves those of b
abbrev a_other : List OtherChanges
a_other = Some (from 1 One ∷ from 6 Zero ∷ []) ∷ []

cut_with_other : (others_after (Cut 2 4) two_signals a_other ≡ Some (from 1 One ∷ from 4 Zero ∷ []) ∷ [])
    × (effect (Cut 2 4) (with_others a_other two_signals)
    ≡ with_others (Some (from 1 One ∷ from 4 Zero ∷ []) ∷ []) (effect (Cut 2 4) two_signals))
unfolding effect value_from changes_from
cut_with_other = (refl, refl)
