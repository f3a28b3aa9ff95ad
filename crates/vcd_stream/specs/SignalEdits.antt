-- What edits of a capture are to one of its signals, and where they leave it. The project's own.
use Rattle.std.specs.Prelude.{◌≡◌, ℕ, ◌-◌, ◌==◌, nat_lt, if◌then◌else◌, List, [], ◌∷◌}
use Rattle.std.specs.Prelude.{Option, Some, None}
use Rattle.std.specs.Bool.{then_some}
use Rattle.std.specs.Option.{option_and_then}
use Rattle.vcd_core.specs.Contents.{Contents}
use Rattle.vcd_edit.specs.declared.edit.Edit.{Edit}
use Rattle.vcd_edit.specs.declared.edit.Edit.TheVariants as edits
use Rattle.vcd_edit.specs.Effect.{effect}
use Rattle.vcd_edit.specs.EditFaults.{edit_fault}
use Rattle.vcd_stream.specs.declared.wave_edit.WaveEdit.{WaveEdit}
use Rattle.vcd_stream.specs.declared.wave_edit.WaveEdit.TheVariants.{Invert, Deglitch, Shift}
use Rattle.vcd_stream.specs.declared.wave_edit.WaveEdit.TheVariants.{Force, Cut}

-- the edit as the signal at a position sees it, or none if it leaves the wave
abbrev pub wave_edit_of : Edit → ℕ → Option WaveEdit
wave_edit_of (edits.Invert j) k = then_some (j == k) Invert
wave_edit_of (edits.Deglitch j ticks) k = then_some (j == k) (Deglitch ticks)
wave_edit_of (edits.Shift j by) k = then_some (j == k) (Shift by)
wave_edit_of (edits.Force j from to value) k = then_some (j == k) (Force from to value)
wave_edit_of (edits.Cut from to) k = Some (Cut from to)
wave_edit_of e k = None

-- where an edit leaves the signal at a position, if it does not remove it
abbrev pub position_after : Edit → ℕ → Option ℕ
position_after (edits.Remove j) k =
    if j == k then None else Some (if nat_lt j k then k - 1 else k)
position_after e k = Some k

-- ---- edits one after another, the first one made first

-- where they leave the signal at a position, if none removes it
abbrev pub position_after_all : List Edit → ℕ → Option ℕ
position_after_all [] k = Some k
position_after_all (e ∷ es) k = option_and_then (position_after_all es) (position_after e k)

-- what they make of a capture
abbrev pub effect_of_all : List Edit → Contents → Contents
effect_of_all [] c = c
effect_of_all (e ∷ es) c = effect_of_all es (effect e c)

-- none has a fault on what those before it make of a capture
abbrev pub HaveNoFault : List Edit → Contents → Type 0
HaveNoFault [] c = Unit {0}
HaveNoFault (e ∷ es) c = (edit_fault e c ≡ None) × HaveNoFault es (effect e c)
