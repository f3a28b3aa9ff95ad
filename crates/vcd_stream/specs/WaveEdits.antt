-- Edits as the signal sees them that they are made of.
use Rattle.std.specs.Prelude.{◌≡◌, ℕ, ◌+◌, ◌-◌, ◌<◌, ◌≤◌, List, length}
use Rattle.vcd_core.specs.declared.bit.Bit.{Bit}
use Rattle.vcd_core.specs.Wave.{IsWave, AllUpTo, changes_of}
use Rattle.vcd_core.specs.Contents.{SignalContents, signal_value}
use Rattle.vcd_edit.specs.declared.edit.Edit.{Edit}
use Rattle.vcd_edit.specs.declared.edit.Edit.TheVariants as edits
use Rattle.vcd_edit.specs.Effect.{inverse_value, shift_value, steady_value, force_value, cut_value}
use Rattle.vcd_stream.specs.declared.stage.Stage.{Stage}
use Rattle.vcd_stream.specs.declared.wave_edit.WaveEdit.{WaveEdit}
use Rattle.vcd_stream.specs.declared.wave_edit.WaveEdit.TheVariants.{Invert, Deglitch, Shift}
use Rattle.vcd_stream.specs.declared.wave_edit.WaveEdit.TheVariants.{Force, Cut}
use Rattle.vcd_stream.specs.Stages.{given}

-- the edit of the signal at a position; a cut is one of all signals
abbrev pub edit_of : ℕ → WaveEdit → Edit
edit_of k Invert = edits.Invert k
edit_of k (Deglitch ticks) = edits.Deglitch k ticks
edit_of k (Shift by) = edits.Shift k by
edit_of k (Force from to value) = edits.Force k from to value
edit_of k (Cut from to) = edits.Cut from to

-- what an edit needs besides its signal, in a capture up to this end
abbrev pub IsAllowed : (end width : ℕ) → WaveEdit → Type 0
IsAllowed end width (Force from to value) = (from < to) × (to ≤ end + 1) × (length value ≡ width)
IsAllowed end width (Cut from to) = (from < to) × (to ≤ end)
IsAllowed end width e = Unit {0}

-- the end of the capture after it
abbrev pub end_after : WaveEdit → ℕ → ℕ
end_after (Cut from to) end = end - (to - from)
end_after e end = end

-- the values that it gives a signal of a capture up to this end
abbrev pub edited_value : WaveEdit → (end : ℕ) → SignalContents → ℕ → List Bit
edited_value Invert end s = inverse_value s
edited_value (Deglitch ticks) end s = steady_value ticks end (signal_value s)
edited_value (Shift by) end s = shift_value end by s
edited_value (Force from to value) end s = force_value from to value s
edited_value (Cut from to) end s = cut_value from to s

-- fed with the changes of a wave, a stage gives those of the edited wave
abbrev pub IsStageOf : {V : Type 0} → (V → List Bit) → WaveEdit → (end width : ℕ) → Stage V → Type 0
IsStageOf letters e end width stage =
    (s : SignalContents) → s.width ≡ width → IsWave s.width s.changes → AllUpTo end s.changes
    → given letters stage s.changes ≡ changes_of s.width (end_after e end) (edited_value e end s)
