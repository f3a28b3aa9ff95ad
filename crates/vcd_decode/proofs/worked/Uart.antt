-- Worked cases: lines that send frames; one of them meets the premises of the law.
use Rattle.std.proofs.Common.{◌≡◌, suc, ◌+◌, ◌*◌, ◌≤◌, refl, sym, ap, ◌∙◌, arith}
use Rattle.std.specs.Prelude.{ℕ, ◌-◌, Bool, true, false, if◌then◌else◌, Option, None as none, Some as some, List, []}
use Rattle.std.specs.Prelude.{◌∷◌, map, get_or, nat_lt}
use Rattle.std.specs.List.{range_with_len}
use Rattle.std.proofs.lemmas.List.FromFn.{get_or-map-range_with_len}
use Rattle.vcd_core.specs.declared.bit.Bit.{Bit}
use Rattle.vcd_core.specs.declared.bit.Bit.TheVariants.{Zero, One, X, Z}
use Rattle.vcd_decode.specs.declared.annotation.Annotation.{Annotation}
use Rattle.vcd_decode.specs.declared.annotation.Kind.TheVariants.{Byte, ParityError, FrameError, Unknown}
use Rattle.vcd_decode.specs.declared.uart_setup.Parity.TheVariants.{None, Even, Odd}
use Rattle.vcd_decode.specs.UartSetup.{UartSetup, uart_setup}
use Rattle.vcd_decode.specs.Lines.{annotation}
use Rattle.vcd_decode.specs.Uart.{last_bit, uart_annotations, frames, falls, begun_frame, sample_offset}
use Rattle.vcd_decode.specs.SentLevels.{data_levels}
use Rattle.vcd_decode.specs.UartSent.{Flaws, SentFrame, SendsFrames, frame_levels, bit_offset}

sent : ℕ → ℕ → Flaws → SentFrame
sent start word flaws = record { start = start; word = word; flaws = flaws }

flawed : Bool → Option ℕ → Option (ℕ × Bit) → Flaws
flawed wrong_parity low_stop unclear = record { wrong_parity = wrong_parity; low_stop = low_stop; unclear = unclear }

flawless : Flaws
flawless = flawed false none none

-- bits one after the other, the first of them bit k: each lasts until the next starts, and the line is 1 after them
bits_line : UartSetup → ℕ → List Bit → ℕ → Bit
bits_line u k [] offset = One
bits_line u k (b ∷ bs) offset = if nat_lt offset (bit_offset u (suc k)) then b
    else bits_line u (suc k) bs offset

-- the line that sends these frames, and is 1 before, between and after them
sent_line : UartSetup → List SentFrame → ℕ → Bit
sent_line u [] t = One
sent_line u (w ∷ ws) t =
    if nat_lt t w.start then One
    else (if nat_lt t (w.start + bit_offset u (suc (last_bit u))) then bits_line u 0 (frame_levels u w) (t - w.start)
    else sent_line u ws t)

found : UartSetup → ℕ → List SentFrame → List Annotation
found u end ws = uart_annotations (sent_line u ws) end u

-- bits of two and a half ticks: 2, 3, 2, 3, ..
line : map (sent_line (uart_setup 5 2 5 Even 1) (sent 2 3 flawless ∷ [])) (range_with_len 0 24)
    ≡ One ∷ One ∷ Zero ∷ Zero ∷ One ∷ One ∷ One ∷ One ∷ One ∷ Zero ∷ Zero ∷ Zero ∷ Zero ∷ Zero ∷ Zero ∷ Zero ∷ Zero
    ∷ Zero ∷ Zero ∷ One ∷ One ∷ One ∷ One ∷ One ∷ []
unfolding sent flawed flawless sent_line bits_line data_levels
line = refl

-- the parity bit and the first of two stop bits
flawed_line : map (sent_line (uart_setup 2 1 5 Even 2)
    (sent 1 3 (flawed true none none) ∷ sent 19 3 (flawed false (some 0) none) ∷ []))
    (range_with_len 0 37)
    ≡ One ∷ Zero ∷ Zero ∷ One ∷ One ∷ One ∷ One ∷ Zero ∷ Zero ∷ Zero ∷ Zero ∷ Zero ∷ Zero ∷ One ∷ One ∷ One ∷ One ∷ One
    ∷ One ∷ Zero ∷ Zero ∷ One ∷ One ∷ One ∷ One ∷ Zero ∷ Zero ∷ Zero ∷ Zero ∷ Zero ∷ Zero ∷ Zero ∷ Zero ∷ Zero ∷ Zero
    ∷ One ∷ One ∷ []
unfolding sent flawed flawless sent_line bits_line data_levels
flawed_line = refl

eight_bits : found (uart_setup 10 1 8 None 1) 130 (sent 20 65 flawless ∷ []) ≡ annotation 20 115 (Byte 65) ∷ []
unfolding sent flawed flawless found uart_annotations frames falls begun_frame sample_offset sent_line bits_line
    data_levels
eight_bits = refl

two_words : found (uart_setup 5 2 5 Odd 2) 46 (sent 1 31 flawless ∷ sent 23 0 flawless ∷ [])
    ≡ annotation 1 22 (Byte 31) ∷ annotation 23 44 (Byte 0) ∷ []
unfolding sent flawed flawless found uart_annotations frames falls begun_frame sample_offset sent_line bits_line
    data_levels
two_words = refl

flaws : found (uart_setup 5 2 5 Odd 2) 70
    (sent 1 31 (flawed true none none) ∷ sent 23 0 (flawed false (some 1) none) ∷ sent 47 1 flawless ∷ [])
    ≡ annotation 1 22 (ParityError 31) ∷ annotation 23 44 FrameError ∷ annotation 47 68 (Byte 1) ∷ []
unfolding sent flawed flawless found uart_annotations frames falls begun_frame sample_offset sent_line bits_line
    data_levels
flaws = refl

-- a wrong parity bit and a low stop bit in one frame, and an unclear stop bit in the other
two_flaws : found (uart_setup 5 2 5 Odd 2) 70
    (sent 1 31 (flawed true (some 0) none) ∷ sent 47 1 (flawed true (some 1) (some (6, Z))) ∷ [])
    ≡ annotation 1 22 FrameError ∷ annotation 47 68 Unknown ∷ []
unfolding sent flawed flawless found uart_annotations frames falls begun_frame sample_offset sent_line bits_line
    data_levels
two_flaws = refl

-- a fall that is over half a bit later, and a frame whose bits are there in their middles alone
worn_line : List Bit
worn_line =
    One ∷ One ∷ Zero ∷ Zero ∷ One ∷ X ∷ One ∷ One ∷ One ∷ Zero ∷ Zero ∷ Zero ∷ Zero ∷ X ∷ One ∷ X ∷ X ∷ One
    ∷ One ∷ One ∷ Z ∷ Z ∷ X ∷ Z ∷ One ∷ Zero ∷ Zero ∷ X ∷ Z ∷ X ∷ Zero ∷ Z ∷ One ∷ One ∷ One ∷ One ∷ One ∷ One
    ∷ X ∷ One ∷ One ∷ X ∷ Zero ∷ Z ∷ Z ∷ X ∷ X ∷ X ∷ One ∷ One ∷ One ∷ []

worn : uart_annotations (λ t. get_or worn_line t One) 50 (uart_setup 6 1 5 None 1)
    ≡ annotation 9 48 (Byte 11) ∷ []
unfolding worn_line uart_annotations frames falls begun_frame sample_offset
worn = refl

-- ---- the law's premises can be met

two_ticks_a_bit : UartSetup
two_ticks_a_bit = uart_setup 2 1 5 None 1

one_frame : SentFrame
one_frame = sent 1 21 flawless

one_frame_line : ℕ → Bit
one_frame_line = sent_line two_ticks_a_bit (one_frame ∷ [])

-- the middle of bit k is the tick 2 * k + 2
middles : map (λ k. one_frame_line (2 * k + 2)) (range_with_len 0 7) ≡ frame_levels two_ticks_a_bit one_frame
unfolding sent flawed flawless two_ticks_a_bit one_frame one_frame_line sent_line bits_line data_levels
middles = refl

at_middle : (k : ℕ) → k ≤ 6 → one_frame_line (2 * k + 2) ≡ get_or (frame_levels two_ticks_a_bit one_frame) k One
at_middle k within =
    sym (get_or-map-range_with_len (λ k. one_frame_line (2 * k + 2)) 0 7 k k One (omega arith) (omega arith))
    ∙ ap (λ bits. get_or bits k One) middles

premises : SendsFrames two_ticks_a_bit one_frame_line 0 14 (one_frame ∷ [])
unfolding sent flawed flawless two_ticks_a_bit one_frame one_frame_line sent_line bits_line data_levels SendsFrames
premises = (
  omega arith,
  (λ none. absurd (cc), tt, tt),
  omega arith,
  (λ t late early. absurd (omega arith)),
  refl,
  refl,
  (λ k t within late early.
      ap one_frame_line {x = t} {y = 2 * k + 2} (omega (arith, late, early)) ∙ at_middle k within),
  omega arith,
  λ t late early. absurd (omega arith),
)
