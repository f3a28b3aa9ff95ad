-- The walk over the edges of a UART line: what a decoder holds between two edges, and the frames
-- that are left to give.
use Rattle.std.specs.Prelude.{ℕ, zero, suc, ◌+◌, ◌-◌, ◌==◌, ◌&&◌, nat_le, Bool, if◌then◌else◌}
use Rattle.std.specs.Prelude.{Option, Some, None, unwrap_or, List, [], ◌∷◌, ◌++◌, length}
use Rattle.std.specs.Option.{option_or, option_to_list}
use Rattle.vcd_core.specs.declared.bit.Bit.{Bit}
use Rattle.vcd_core.specs.declared.bit.Bit.TheVariants.{X}
use Rattle.vcd_core.specs.declared.bit_edges.BitEdge.{BitEdge}
use Rattle.vcd_decode.specs.declared.annotation.Annotation.{Annotation}
use Rattle.vcd_decode.specs.declared.annotation.Kind.TheVariants.{CutOff}
use Rattle.vcd_decode.specs.UartSetup.{UartSetup}
use Rattle.vcd_decode.specs.Lines.{letter_before, is_zero, is_one, annotation}
use Rattle.vcd_decode.specs.Uart.{sample_tick, last_bit, frame_kind}
use Rattle.vcd_decode.specs.inside.PartialWord.{line_bit}

-- whether the line falls from 1 to 0 at a tick
abbrev pub is_fall : (ℕ → Bit) → ℕ → Bool
is_fall f t = is_one (letter_before f t) && is_zero (f t)

-- whether a bit of the frame that begins at `start` is sampled at the tick `through` or before
abbrev pub is_sampled : UartSetup → (start bit through : ℕ) → Bool
is_sampled u start bit through = nat_le (sample_tick u start bit) through

-- ---- falls, on a line that keeps its letter up to the tick `through`

-- the first whose start bit is 0
unfoldable pub zero_start : UartSetup → Bit → (through : ℕ) → List ℕ → Option ℕ
zero_start u b through [] = None
zero_start u b through (s ∷ falls) =
    if is_sampled u s 0 through
    then (if is_zero b then Some s else zero_start u b through falls) else None

-- those that may still begin a frame
unfoldable pub open_falls : UartSetup → Bit → (through : ℕ) → List ℕ → List ℕ
open_falls u b through [] = []
open_falls u b through (s ∷ falls) =
    if is_sampled u s 0 through
    then (if is_zero b then [] else open_falls u b through falls) else s ∷ falls

-- ---- the letters of a frame

-- the letters of a frame with those of its next `bits` bits that are sampled through a tick
unfoldable pub more_letters : UartSetup → Bit → (start through bits : ℕ) → List Bit → List Bit
more_letters u b start through zero letters = letters
more_letters u b start through (suc bits) letters =
    if is_sampled u start (length letters + 1) through
    then more_letters u b start through bits (letters ++ b ∷ []) else letters

-- all that are sampled
abbrev pub letters_through : UartSetup → Bit → (start through : ℕ) → List Bit → List Bit
letters_through u b start through letters =
    more_letters u b start through (last_bit u - length letters) letters

-- the frame with these letters, if they are all of its letters
abbrev pub whole_frame : UartSetup → (start through : ℕ) → List Bit → Option Annotation
whole_frame u start through letters =
    if (length letters == last_bit u) && is_sampled u start (last_bit u) through
    then Some (annotation start (sample_tick u start (last_bit u)) (frame_kind u letters))
    else None

-- ---- what a decoder holds

-- the falls whose start bits are not sampled, and the beginning and the letters of a frame whose
-- start bit was 0
pub record UartState : Type 0 where
  pub setup : UartSetup
  pub end : ℕ
  pub letter : Bit
  pub falls : List ℕ
  pub start : Option ℕ
  pub letters : List Bit

-- before the first edge
abbrev pub first_state : (end : ℕ) → UartSetup → UartState
first_state end u =
    record { setup = u; end = end; letter = X; falls = []; start = None; letters = [] }

-- ---- what a decoder holds once its line has kept its letter up to the tick `through`

-- the beginning of the frame under way, or of the one that falls begin
abbrev pub start_among : UartSetup → Bit → (through : ℕ) → List ℕ → Option ℕ → Option ℕ
start_among u b through falls (Some start) = Some start
start_among u b through falls None = zero_start u b through falls

-- the falls that are left
abbrev pub falls_beside : UartSetup → Bit → (through : ℕ) → List ℕ → Option ℕ → List ℕ
falls_beside u b through falls (Some start) = falls
falls_beside u b through falls None = open_falls u b through falls

-- the frame that is then whole
abbrev pub frame_through : UartSetup → Bit → (through : ℕ) → List Bit → Option ℕ
    → Option Annotation
frame_through u b through letters None = None
frame_through u b through letters (Some start) =
    whole_frame u start through (letters_through u b start through letters)

-- the letters of the frame under way, if that is not whole
abbrev pub letters_unless_whole : Option Annotation → List Bit → List Bit
letters_unless_whole None letters = letters
letters_unless_whole (Some frame) letters = []

-- the letters that are held then
abbrev pub letters_beside : UartSetup → Bit → (through : ℕ) → List Bit → Option ℕ → List Bit
letters_beside u b through letters None = letters
letters_beside u b through letters (Some start) =
    letters_unless_whole (frame_through u b through letters (Some start))
    (letters_through u b start through letters)

-- its beginning, if it is not whole
abbrev pub start_unless_whole : Option Annotation → Option ℕ → Option ℕ
start_unless_whole None start = start
start_unless_whole (Some frame) start = None

-- the beginning of the frame under way
abbrev pub start_through : UartState → (through : ℕ) → Option ℕ
start_through d through = start_among d.setup d.letter through d.falls d.start

-- the frame that is then whole
abbrev pub frame_of : UartState → (through : ℕ) → Option Annotation
frame_of d through = frame_through d.setup d.letter through d.letters (start_through d through)

-- all that it holds
abbrev pub settled : UartState → (through : ℕ) → UartState
settled d through = record {
  setup = d.setup;
  end = d.end;
  letter = d.letter;
  falls = falls_beside d.setup d.letter through d.falls d.start;
  start = start_unless_whole (frame_of d through) (start_through d through);
  letters = letters_beside d.setup d.letter through d.letters (start_through d through);
}

-- ---- an edge

-- the letter of the line at an edge, x if the line is absent
abbrev pub letter_at_edge : BitEdge → Bit
letter_at_edge e = unwrap_or (line_bit e.at 0) X

-- the falls with a tick at which the line goes from one letter to another, if it falls there and no
-- frame is under way
abbrev pub falls_with : List ℕ → Option ℕ → (before letter : Bit) → (tick : ℕ) → List ℕ
falls_with falls (Some start) before letter tick = falls
falls_with falls None before letter tick =
    if is_one before && is_zero letter then falls ++ tick ∷ [] else falls

-- a decoder whose line goes to a letter at a tick
abbrev pub state_with_letter : UartState → Bit → (tick : ℕ) → UartState
state_with_letter d letter tick = record {
  setup = d.setup;
  end = d.end;
  letter = letter;
  falls = falls_with d.falls d.start d.letter letter tick;
  start = d.start;
  letters = d.letters;
}

-- the frame that is whole before an edge
abbrev pub frame_before : UartState → BitEdge → Option Annotation
frame_before d e = frame_of d (e.tick - 1)

-- a decoder after an edge
abbrev pub state_after : UartState → BitEdge → UartState
state_after d e = state_with_letter (settled d (e.tick - 1)) (letter_at_edge e) e.tick

-- ---- the frames that are left

-- the frame that the end cuts off
abbrev pub cut_off_frame : (end : ℕ) → List ℕ → Option ℕ → Option Annotation
cut_off_frame end falls (Some start) = Some (annotation start end CutOff)
cut_off_frame end [] None = None
cut_off_frame end (s ∷ falls) None = Some (annotation s end CutOff)

-- the frame of a decoder at whose line nothing changes up to the end
abbrev pub last_frame : UartState → Option Annotation
last_frame d = option_or (frame_of d d.end)
    (cut_off_frame d.end (settled d d.end).falls (settled d d.end).start)

-- the tick from which on frames may begin or have begun that are not given
abbrev pub pending_start : Option ℕ → List ℕ → Option ℕ
pending_start (Some start) falls = Some start
pending_start None [] = None
pending_start None (s ∷ falls) = Some s

-- the annotations that a decoder has left to give for the edges to come, up to the last
unfoldable pub uart_annotations_left : UartState → List BitEdge → List Annotation
uart_annotations_left d [] = option_to_list (last_frame d)
uart_annotations_left d (e ∷ es) =
    option_to_list (frame_before d e) ++ uart_annotations_left (state_after d e) es
