-- The changes that edits make of a wave that is x before its first change.
use Rattle.std.specs.Prelude.{ℕ, suc, ◌-◌, ℤ, pos, negsuc, List, ◌∷◌, map}
use Rattle.vcd_core.specs.declared.bit.Bit.{Bit}
use Rattle.vcd_core.specs.declared.wave.Change.{Change}
use Rattle.vcd_core.specs.Wave.{change}
use Rattle.vcd_edit.specs.Operators.{not_bit}
use Rattle.vcd_edit.specs.inside.plans.RemainingChanges.{mapped_change, steady_changes}
use Rattle.vcd_stream.specs.declared.stage.ReplacedTicks.{ReplacedTicks}
use Rattle.vcd_stream.specs.declared.wave_edit.WaveEdit.{WaveEdit}
use Rattle.vcd_stream.specs.declared.wave_edit.WaveEdit.TheVariants.{Invert, Deglitch, Shift}
use Rattle.vcd_stream.specs.declared.wave_edit.WaveEdit.TheVariants.{Force, Cut}
use Rattle.vcd_stream.specs.Stages.{later_changes, replaced_changes}

-- the ticks that a force replaces, and those that are cut out up to before `to`, by the end that is
-- left
abbrev pub forced_ticks : (from to end : ℕ) → ReplacedTicks
forced_ticks from to end = record { from = from; until = to; by = 0; end = end }

abbrev pub cut_ticks : (from to end : ℕ) → ReplacedTicks
cut_ticks from to end = record { from = from; until = from; by = to - from; end = end }

-- a shift
abbrev pub shifted_changes : ℤ → (end : ℕ) → List Bit → List Change → List Change
shifted_changes (pos by) end x cs = later_changes by end cs
shifted_changes (negsuc n) end x cs = replaced_changes (cut_ticks 0 (suc n) end) x x cs

-- any edit of a wave in a capture up to this end
abbrev pub made_by : WaveEdit → (end : ℕ) → List Bit → List Change → List Change
made_by Invert end x cs = map (mapped_change (map not_bit)) cs
made_by (Deglitch ticks) end x cs = steady_changes ticks (change 0 x ∷ cs)
made_by (Shift by) end x cs = shifted_changes by end x cs
made_by (Force from to value) end x cs = replaced_changes (forced_ticks from to end) value x cs
made_by (Cut from to) end x cs = replaced_changes (cut_ticks from to (end - (to - from))) x x cs
