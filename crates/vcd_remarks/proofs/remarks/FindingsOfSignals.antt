-- What is found of the waves of signals.
use Rattle.std.proofs.Common.{◌≡◌, ℕ, ◌==◌, Bool, true, false, if◌then◌else◌, Option, Some, None, List, [], ◌∷◌, refl}
use Rattle.std.specs.Option.{option_map}
use Rattle.vcd_core.specs.declared.wave.Change.{Change}
use Rattle.vcd_core.specs.Contents.{Contents, SignalContents, signal_at, no_signal}
use Rattle.vcd_core.specs.Sound.{IsSound}
use Rattle.vcd_script.specs.CommandSignals.{IsScalarAt}
use Rattle.std.specs.Prelude.{IfSome, is_some}
use Rattle.vcd_core.specs.Value.{all_x}
use Rattle.vcd_core.specs.Wave.{change}
use Rattle.vcd_remarks.specs.DecoderFindings.{bit_line, IsSoundLine}
use Rattle.vcd_remarks.specs.UartLine.{runs_under}
use Rattle.vcd_remarks.specs.ValueRuns.{runs_begun, changes_from_zero}

-- the letters of a signal that may be absent
pub chip_line : (f : ℕ → SignalContents) (o : Option ℕ)
    → option_map (λ k. bit_line (f k)) o ≡ option_map bit_line (option_map f o)
chip_line f None = refl
chip_line f (Some k) = refl

-- it is there or not
pub same_presence : (f : ℕ → SignalContents) (o : Option ℕ) → is_some (option_map f o) ≡ is_some o
same_presence f None = refl
same_presence f (Some k) = refl

-- a signal of one bit of a sound capture is a sound line
pub line_sound : (c : Contents) → IsSound c → (k : ℕ) → IsScalarAt c k → IsSoundLine c.end (signal_at c k)
line_sound c sound k (within, one) = (sound.signals k no_signal within, one)

pub lines_sound : (c : Contents) → IsSound c → (o : Option ℕ) → IfSome o (IsScalarAt c)
    → IfSome (option_map (signal_at c) o) (IsSoundLine c.end)
lines_sound c sound None scalar = tt
lines_sound c sound (Some k) scalar = line_sound c sound k scalar

-- x before the first change contains tick 0
pub under_of : (ticks end width : ℕ) (cs : List Change) → runs_under ticks end (runs_begun end cs)
    ≡ runs_under ticks end (runs_begun end (changes_from_zero width cs))
unfolding runs_begun
under_of ticks end width [] = refl
under_of ticks end width (c ∷ cs) = by_first (c.tick == 0) where
  by_first : (b : Bool) → runs_under ticks end (runs_begun end (c ∷ cs))
      ≡ runs_under ticks end (runs_begun end (if b then c ∷ cs else change 0 (all_x width) ∷ c ∷ cs))
  by_first true = refl
  by_first false = refl
