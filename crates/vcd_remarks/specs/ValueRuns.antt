-- The runs of one value of a signal: which there are, how many ticks they have, and which are
-- pulses. The project's own.
use Rattle.std.specs.Prelude.{ℕ, ◌+◌, ◌-◌, ◌==◌, ◌&&◌, nat_lt, Bool, if◌then◌else◌, List, [], ◌∷◌}
use Rattle.vcd_core.specs.declared.bit.Bit.{Bit}
use Rattle.vcd_core.specs.declared.wave.Change.{Change}
use Rattle.vcd_core.specs.Value.{all_x}
use Rattle.vcd_core.specs.Wave.{change}
use Rattle.vcd_core.specs.Contents.{SignalContents}

-- a run of one value of a signal: its first and its last tick
pub record ValueRun : Type 0 where
  pub first : ℕ
  pub last : ℕ
  pub value : List Bit

-- the last tick before these changes, in a capture up to this end
abbrev pub tick_before : (end : ℕ) → List Change → ℕ
tick_before end [] = end
tick_before end (c ∷ cs) = c.tick - 1

-- the run that a change begins, given the changes after it
abbrev pub run_begun : (end : ℕ) → Change → (later : List Change) → ValueRun
run_begun end c later =
    record { first = c.tick; last = tick_before end later; value = c.value }

-- the runs that changes begin
unfoldable pub runs_begun : (end : ℕ) → List Change → List ValueRun
runs_begun end [] = []
runs_begun end (c ∷ cs) = run_begun end c cs ∷ runs_begun end cs

-- the changes of a signal from tick 0 on, where it is x unless a change gives it a value
abbrev pub changes_from_zero : (width : ℕ) → List Change → List Change
changes_from_zero width [] = change 0 (all_x width) ∷ []
changes_from_zero width (c ∷ cs) =
    if c.tick == 0 then c ∷ cs else change 0 (all_x width) ∷ c ∷ cs

-- all runs of a signal
abbrev pub value_runs : (end : ℕ) → SignalContents → List ValueRun
value_runs end s = runs_begun end (changes_from_zero s.width s.changes)

-- how many ticks a run has
abbrev pub ticks_of_run : ValueRun → ℕ
ticks_of_run r = r.last - r.first + 1

-- whether `deglitch` takes a run out: it contains neither tick 0 nor the end, and has fewer ticks.
-- That is, its ticks are not steady (`Effect` of vcd_edit)
abbrev pub is_pulse : (ticks end : ℕ) → ValueRun → Bool
is_pulse ticks end r = nat_lt 0 r.first && nat_lt r.last end && nat_lt (ticks_of_run r) ticks
