-- The frames of an asynchronous serial line. A frame is a start bit 0, data bits, the least
-- significant first, perhaps a parity bit, and stop bits 1 (ISO 1177). Its beginning and its sample
-- ticks are the project's own.
use Rattle.std.specs.Prelude.{ℕ, suc, ◌+◌, ◌*◌, ◌/◌, ◌%◌, ◌==◌, ◌&&◌, nat_lt, nat_le, Bool, false}
use Rattle.std.specs.Prelude.{not, [], Option, Some, None, List, ◌∷◌, ◌++◌, map, filter, take, drop}
use Rattle.std.specs.Prelude.{count_by, if◌then◌else◌}
use Rattle.std.specs.List.{list_any, range_with_len}
use Rattle.std.specs.Option.{option_map_or, option_to_list}
use Rattle.vcd_core.specs.declared.bit.Bit.{Bit}
use Rattle.vcd_decode.specs.declared.annotation.Annotation.{Annotation}
use Rattle.vcd_decode.specs.declared.annotation.Kind.{Kind}
use Rattle.vcd_decode.specs.declared.annotation.Kind.TheVariants.{Byte, ParityError, FrameError}
use Rattle.vcd_decode.specs.declared.annotation.Kind.TheVariants.{Unknown, CutOff}
use Rattle.vcd_decode.specs.declared.uart_setup.Parity.{Parity}
use Rattle.vcd_decode.specs.declared.uart_setup.Parity.TheVariants as parities
use Rattle.vcd_decode.specs.UartSetup.{UartSetup}
use Rattle.vcd_decode.specs.Lines.{letter_before, is_zero, is_one, is_unclear, number_from_letters}
use Rattle.vcd_decode.specs.Lines.{annotation}

-- ---- where a frame is sampled

-- the number of parity bits in a frame
abbrev pub parity_bits : Parity → ℕ
parity_bits parities.None = 0
parity_bits parity = 1

-- the number of bits before the stop bits, without the start bit
abbrev pub checked_bits : UartSetup → ℕ
checked_bits u = u.data_bits + parity_bits u.parity

-- the position of the last bit of a frame, where the start bit is bit 0
abbrev pub last_bit : UartSetup → ℕ
last_bit u = checked_bits u + u.stop_bits

-- the ticks from the beginning of a frame to the sample of a bit: its middle, rounded down
unfoldable pub sample_offset : UartSetup → ℕ → ℕ
sample_offset u bit = (2 * bit + 1) * u.numerator / (2 * u.denominator)

-- the tick at which a bit of the frame that begins at `start` is sampled
abbrev pub sample_tick : UartSetup → ℕ → ℕ → ℕ
sample_tick u start bit = start + sample_offset u bit

-- ---- the kind of a frame

-- the letters of the frame after the start bit
abbrev pub frame_letters : (ℕ → Bit) → UartSetup → ℕ → List Bit
frame_letters f u start = map (λ bit. f (sample_tick u start bit)) (range_with_len 1 (last_bit u))

-- whether this number of ones among the data and the parity bit is wrong
abbrev pub is_parity_wrong : Parity → ℕ → Bool
is_parity_wrong parities.None ones = false
is_parity_wrong parities.Even ones = ones % 2 == 1
is_parity_wrong parities.Odd ones = ones % 2 == 0

-- the kind of a frame with these letters: `Unknown` outranks `FrameError`, and that outranks
-- `ParityError`
abbrev pub frame_kind : UartSetup → List Bit → Kind
frame_kind u letters =
    if list_any is_unclear letters then Unknown
    else (if list_any is_zero (drop (checked_bits u) letters) then FrameError
    else (if is_parity_wrong u.parity (count_by is_one (take (checked_bits u) letters))
    then ParityError (number_from_letters (take u.data_bits letters))
    else Byte (number_from_letters (take u.data_bits letters))))

-- the frame that a fall at the tick `start` begins, cut off at the capture's end; none if the line
-- is not 0 in the middle of the start bit
unfoldable pub begun_frame : (ℕ → Bit) → ℕ → UartSetup → ℕ → Option Annotation
begun_frame f end u start =
    if nat_lt end (sample_tick u start 0) then Some (annotation start end CutOff)
    else (if not (is_zero (f (sample_tick u start 0))) then None
    else (if nat_lt end (sample_tick u start (last_bit u)) then Some (annotation start end CutOff)
    else Some (annotation start (sample_tick u start (last_bit u))
    (frame_kind u (frame_letters f u start)))))

-- ---- all frames

-- the ticks 0 to `end` at which the line falls from 1 to 0
unfoldable pub falls : (ℕ → Bit) → ℕ → List ℕ
falls f end = filter (λ t. is_one (letter_before f t) && is_zero (f t)) (range_with_len 0 (suc end))

-- the frames that falls begin: a fall up to the tick `taken`, the end of the frame before, begins
-- none; at first this is 0, where no fall is, as the line is x before it
unfoldable pub frames : (ℕ → Option Annotation) → ℕ → List ℕ → List Annotation
frames frame_at taken [] = []
frames frame_at taken (start ∷ starts) =
    let frame = (if nat_le start taken then None else frame_at start) in
    option_to_list frame ++ frames frame_at (option_map_or (λ a. a.end) frame taken) starts

-- the annotations of a line with this letter at each tick, up to the capture's end
unfoldable pub uart_annotations : (ℕ → Bit) → ℕ → UartSetup → List Annotation
uart_annotations f end u = frames (begun_frame f end u) 0 (falls f end)
