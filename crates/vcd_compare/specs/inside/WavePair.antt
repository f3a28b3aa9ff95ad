-- Two waves up to a tick: what was found of them, and their values from the tick on.
use Rattle.std.specs.Prelude.{◌≡◌, ◌⊎◌, ℕ, ◌≤◌, ◌<◌, Bool}
use Rattle.vcd_compare.specs.Differences.{WaveByTicks}
use Rattle.vcd_compare.specs.inside.WaveComparison.{KeepsUntil, HasCompared}
use Rattle.vcd_compare.specs.inside.ShortestRun.{HasSeenRuns}
use Rattle.vcd_compare.specs.declared.pairs.Which.{Which}
use Rattle.vcd_compare.specs.declared.pairs.Which.TheVariants.{First, Second}
use Rattle.vcd_compare.specs.declared.wave_pair.WaveFindings.{WaveFindings}
use Rattle.vcd_compare.specs.declared.wave_pair.WavePair.{WavePair}

-- a wave has a value at all ticks before one, from another on
abbrev pub HasValueUntil : {V : Type 0} → WaveByTicks V → (from until : ℕ) → V → Type 0
HasValueUntil wave from until v = (s : ℕ) → from ≤ s → s < until → wave s ≡ v

-- from the first tick of a window to t, this was found of two waves
pub record HasFound {V : Type 0} (same : V → V → Bool) (tolerance : ℕ) (a b : WaveByTicks V)
    (first t : ℕ) (f : WaveFindings V) : Type 0 where
  pub compared : HasCompared same tolerance a b first t f.comparison
  pub runs_of_a : HasSeenRuns same a first t f.runs_of_a
  pub runs_of_b : HasSeenRuns same b first t f.runs_of_b

-- all was found of two waves before the tick of a pair; nothing is to be found before the first one
-- of the window
pub record HasFoundBefore {V : Type 0} (same : V → V → Bool) (tolerance : ℕ) (a b : WaveByTicks V)
    (first : ℕ) (p : WavePair V) : Type 0 where
  pub from : first ≤ p.tick
  pub upto : (p.tick ≡ first) ⊎ ((t : ℕ) × (t < p.tick)
      × HasFound same tolerance a b first t p.findings
      × KeepsUntil a t p.tick × KeepsUntil b t p.tick)

-- the value of the first wave, and of the second, after a change of one of them to a value
abbrev pub first_after : {V : Type 0} → Which → (value before : V) → V
first_after First value before = value
first_after Second value before = before

abbrev pub second_after : {V : Type 0} → Which → (value before : V) → V
second_after First value before = before
second_after Second value before = value
