-- Worked cases: what edits are to one signal, and where they leave it.
use Rattle.std.proofs.Common.{◌≡◌, refl}
use Rattle.std.specs.Prelude.{List, [], ◌∷◌, Some, None, codes}
use Rattle.vcd_edit.specs.declared.edit.Edit.{Edit}
use Rattle.vcd_edit.specs.declared.edit.Edit.TheVariants.{Remove, Derive, Invert}
use Rattle.vcd_edit.specs.declared.edit.Edit.TheVariants as edits
use Rattle.vcd_edit.specs.declared.edit.Rule.TheVariants.{Not}
use Rattle.vcd_edit.proofs.worked.Effects.{lent}
use Rattle.vcd_stream.specs.declared.wave_edit.WaveEdit.TheVariants as waves
use Rattle.vcd_stream.specs.SignalEdits.{wave_edit_of, position_after_all}

-- a signal sees the edits of its own and the cuts
what_is_seen : (wave_edit_of (Invert 1) 1 ≡ Some waves.Invert) × (wave_edit_of (Invert 1) 2 ≡ None)
    × (wave_edit_of (edits.Cut 3 5) 2 ≡ Some (waves.Cut 3 5)) × (wave_edit_of (Remove 1) 1 ≡ None)
what_is_seen = (refl, refl, refl, refl)

-- of four signals the first goes, then the one that stands second; a derived one comes last
abbrev three_edits : List Edit
three_edits = Remove 0 ∷ Derive (lent (codes "n")) (Not 1) ∷ Remove 1 ∷ []

where_left : (position_after_all three_edits 0 ≡ None) × (position_after_all three_edits 1 ≡ Some 0)
    × (position_after_all three_edits 2 ≡ None) × (position_after_all three_edits 3 ≡ Some 1)
where_left = (refl, refl, refl, refl)
