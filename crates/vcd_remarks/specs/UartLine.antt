-- What is found of an asynchronous serial line. The project's own.
use Rattle.std.specs.Prelude.{ℕ, ◌+◌, ◌-◌, ◌*◌, ◌==◌, ◌&&◌, ◌||◌, nat_lt, if◌then◌else◌}
use Rattle.std.specs.Prelude.{List, [], ◌∷◌, map, length}
use Rattle.std.specs.Int.{div_ceil}
use Rattle.std.specs.List.{filter}
use Rattle.vcd_core.specs.declared.bit.Bit.{Bit}
use Rattle.vcd_core.specs.declared.wave.Change.{Change}
use Rattle.vcd_core.specs.Value.{letter_at}
use Rattle.vcd_decode.specs.Lines.{is_zero, is_one}
use Rattle.vcd_decode.specs.Uart.{last_bit, sample_offset}
use Rattle.vcd_decode.specs.UartSetup.{UartSetup}
use Rattle.vcd_remarks.specs.ValueRuns.{ValueRun, is_pulse}

-- the ticks of a frame, from its beginning to the sample of its last bit, both included
abbrev pub frame_ticks : UartSetup → ℕ
frame_ticks u = sample_offset u (last_bit u) + 1

-- the first tick at which a line falls from 1 to 0, if it was 1 for fewer ticks; before these
-- changes it has a letter from a tick on
unfoldable pub early_fall : (ticks : ℕ) → (from : ℕ) → (before : Bit) → List Change → List ℕ
early_fall ticks from before [] = []
early_fall ticks from before (c ∷ cs) =
    if is_one before && is_zero (letter_at c.value 0)
    then (if nat_lt (c.tick - from) ticks then c.tick ∷ [] else [])
    else early_fall ticks c.tick (letter_at c.value 0) cs

-- the same for a line that is 0 or 1 at tick 0: a frame may have begun before. Where it is x a
-- simulation had not begun
abbrev pub early_start : (ticks : ℕ) → List Change → List ℕ
early_start ticks [] = []
early_start ticks (c ∷ cs) =
    if c.tick == 0 && (is_zero (letter_at c.value 0) || is_one (letter_at c.value 0))
    then early_fall ticks 0 (letter_at c.value 0) cs else []

-- the least number of ticks that lasts as long as three halves of a bit
abbrev pub long_bit : UartSetup → ℕ
long_bit u = div_ceil (9 * u.numerator) (6 * u.denominator)

-- the first ticks of runs of fewer ticks that contain neither tick 0 nor the end
abbrev pub runs_under : (ticks end : ℕ) → List ValueRun → List ℕ
runs_under ticks end rs = map (λ r. r.first) (filter (is_pulse ticks end) rs)

-- those of any number of ticks, if all have so many
abbrev pub long_runs : (ticks end : ℕ) → List ValueRun → List ℕ
long_runs ticks end rs =
    if length (runs_under ticks end rs) == 0 then runs_under end end rs else []
