-- The line that a sender of frames drives (ISO 1177): what the frames of `Uart` are to give back.
use Rattle.std.specs.Prelude.{ℕ, suc, ◌+◌, ◌*◌, ◌-◌, ◌/◌, ◌^◌, ◌<◌, ◌≤◌, ◌≡◌, ◌≢◌, Bool, true}
use Rattle.std.specs.Prelude.{if◌then◌else◌, Option, Some, None, IfSome, is_some, List, [], ◌∷◌}
use Rattle.std.specs.Prelude.{◌++◌, replicate, get_or, set, count_by}
use Rattle.vcd_core.specs.declared.bit.Bit.{Bit}
use Rattle.vcd_core.specs.declared.bit.Bit.TheVariants.{Zero, One}
use Rattle.vcd_decode.specs.declared.annotation.Annotation.{Annotation}
use Rattle.vcd_decode.specs.declared.annotation.Kind.{Kind}
use Rattle.vcd_decode.specs.declared.annotation.Kind.TheVariants.{Byte, ParityError, FrameError}
use Rattle.vcd_decode.specs.declared.annotation.Kind.TheVariants.{Unknown}
use Rattle.vcd_decode.specs.declared.uart_setup.Parity.{Parity}
use Rattle.vcd_decode.specs.declared.uart_setup.Parity.TheVariants as parities
use Rattle.vcd_decode.specs.UartSetup.{UartSetup}
use Rattle.vcd_decode.specs.Lines.{is_one, is_unclear, annotation}
use Rattle.vcd_decode.specs.Uart.{parity_bits, last_bit, sample_tick}
use Rattle.vcd_decode.specs.SentLevels.{level, data_levels}

-- ---- the bits of a frame

-- what is wrong with a frame: whether the parity bit is; a stop bit that is 0, counted from 0; a
-- bit after the start bit that is x or z, counted from 0, with its letter
pub record Flaws : Type 0 where
  pub wrong_parity : Bool
  pub low_stop : Option ℕ
  pub unclear : Option (ℕ × Bit)

-- the parity bit makes the number of ones even, or odd
abbrev pub parity_levels : Parity → ℕ → List Bit
parity_levels parities.None ones = []
parity_levels parities.Even ones = level ones ∷ []
parity_levels parities.Odd ones = level (suc ones) ∷ []

-- the parity bit that is sent: a wrong one counts one more
abbrev pub sent_parity : Parity → (is_wrong : Bool) → ℕ → List Bit
sent_parity parity is_wrong ones = parity_levels parity (if is_wrong then suc ones else ones)

-- the stop bits: all are 1, but for a low one
abbrev pub stop_levels : ℕ → (low : Option ℕ) → List Bit
stop_levels count None = replicate count One
stop_levels count (Some k) = replicate k One ++ Zero ∷ replicate (count - suc k) One

-- bits of which one is unclear
abbrev pub with_unclear : Option (ℕ × Bit) → List Bit → List Bit
with_unclear None bits = bits
with_unclear (Some bit) bits = set bits bit.0 bit.1

-- a word, the tick at which its frame starts, and what is wrong with that
pub record SentFrame : Type 0 where
  pub start : ℕ
  pub word : ℕ
  pub flaws : Flaws

-- the bits of a frame: a start bit 0, the data, the parity bit, and the stop bits
abbrev pub frame_levels : UartSetup → SentFrame → List Bit
frame_levels u w =
    let data_bits = data_levels u.data_bits w.word in
    Zero ∷ with_unclear w.flaws.unclear (data_bits
    ++ sent_parity u.parity w.flaws.wrong_parity (count_by is_one data_bits)
    ++ stop_levels u.stop_bits w.flaws.low_stop)

-- a bit can be wrong, low or unclear if there is one
abbrev pub CanHaveFlaws : UartSetup → Flaws → Type 0
CanHaveFlaws u flaws = (flaws.wrong_parity ≡ true → parity_bits u.parity ≡ 1)
    × IfSome flaws.low_stop (λ k. k < u.stop_bits)
    × IfSome flaws.unclear (λ bit. (bit.0 < last_bit u) × (is_unclear bit.1 ≡ true))

-- ---- the line

-- the ticks from the start of a frame to the start of its bit k
abbrev pub bit_offset : UartSetup → ℕ → ℕ
bit_offset u k = k * u.numerator / u.denominator

-- the ticks of half a bit, rounded down
abbrev pub half_bit : UartSetup → ℕ
half_bit u = u.numerator / (2 * u.denominator)

-- the line has each bit of a frame in its middle: at the ticks that are at least half a bit after
-- its start, and at least as much before the start of the next. At other ticks after the frame's
-- start it may have any letter, so edges may be early or late
abbrev pub HasBits : UartSetup → (ℕ → Bit) → SentFrame → Type 0
HasBits u line w =
    (k t : ℕ) → k ≤ last_bit u → w.start + bit_offset u k + half_bit u ≤ t
    → t + half_bit u ≤ w.start + bit_offset u (suc k)
    → line t ≡ get_or (frame_levels u w) k One

-- the last tick in the middle of the last bit
abbrev pub last_middle : UartSetup → SentFrame → ℕ
last_middle u w = w.start + bit_offset u (suc (last_bit u)) - half_bit u

-- after the tick `from`, and before the tick `until`, the line begins no frame: if it falls from 1
-- to 0, it is not 0 half a bit later
abbrev pub IsIdle : UartSetup → (ℕ → Bit) → ℕ → ℕ → ℕ → Type 0
IsIdle u line from until end =
    (t : ℕ) → from ≤ t → suc t < until → line t ≡ One → line (suc t) ≡ Zero
    → (suc t + half_bit u ≤ end) × (line (suc t + half_bit u) ≢ Zero)

-- after the tick `from`, and up to `end`, a line sends these frames and no other; each begins with
-- a fall from 1 to 0
unfoldable pub SendsFrames : UartSetup → (ℕ → Bit) → ℕ → ℕ → List SentFrame → Type 0
SendsFrames u line from end [] = IsIdle u line from (suc end) end
SendsFrames u line from end (w ∷ ws) =
    (w.word < 2 ^ u.data_bits) × CanHaveFlaws u w.flaws
    × (from < w.start) × IsIdle u line from w.start end
    × (line (w.start - 1) ≡ One) × (line w.start ≡ Zero)
    × HasBits u line w × (last_middle u w ≤ end)
    × SendsFrames u line (last_middle u w) end ws

-- ---- what is to be found

-- the kind of a frame with this word: an unclear bit outranks a low stop bit, and that a wrong
-- parity
abbrev pub sent_kind : Flaws → ℕ → Kind
sent_kind flaws word = if is_some flaws.unclear then Unknown
    else (if is_some flaws.low_stop then FrameError
    else (if flaws.wrong_parity then ParityError word else Byte word))

-- the annotation of a frame: from its start to the sample of its last bit
abbrev pub sent_annotation : UartSetup → SentFrame → Annotation
sent_annotation u w =
    annotation w.start (sample_tick u w.start (last_bit u)) (sent_kind w.flaws w.word)
