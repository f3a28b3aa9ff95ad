-- Worked cases: lines of a serial peripheral interface that send words; some of them meet the premises of the law.
use Rattle.std.proofs.Common.{◌≡◌, ◌+◌, ◌*◌, ◌%◌, ◌==◌, refl, ap, ◌∙◌, arith}
use Rattle.std.specs.Prelude.{ℕ, ◌-◌, ◌/◌, nat_lt, List, [], ◌∷◌, Option, Some, None, get_or, if◌then◌else◌}
use Rattle.vcd_core.specs.declared.bit.Bit.{Bit}
use Rattle.vcd_core.specs.declared.bit.Bit.TheVariants.{Zero, One, X}
use Rattle.vcd_decode.specs.declared.annotation.Annotation.{Annotation}
use Rattle.vcd_decode.specs.declared.annotation.Kind.TheVariants.{Word, Unfinished}
use Rattle.vcd_decode.specs.declared.annotation.LineData.TheVariants.{Absent, Number}
use Rattle.vcd_decode.specs.declared.spi_setup.BitOrder.TheVariants.{Msb, Lsb}
use Rattle.vcd_decode.specs.SpiSetup.{SpiSetup, spi_setup}
use Rattle.vcd_decode.specs.Lines.{annotation}
use Rattle.vcd_decode.specs.Groups.{groups_of}
use Rattle.vcd_decode.specs.Spi.{spi_annotations}
use Rattle.vcd_decode.specs.SentLevels.{level, data_levels}
use Rattle.vcd_decode.specs.SpiSent.{SpiWord, WordsFit, SendsClock, SendsData, MaySendData, IsChipSelect}
use Rattle.vcd_decode.specs.SpiSent.{ordered_levels}

-- a word each way, and the tick at which its first bit starts
record EvenWord : Type 0 where
  start : ℕ
  out : ℕ
  back : ℕ

-- the clock of words whose bits have halves of `half` ticks
even_clock : SpiSetup → ℕ → List EvenWord → ℕ → Bit
even_clock u half [] t = level (u.mode / 2)
even_clock u half (w ∷ ws) t =
    if nat_lt t w.start then level (u.mode / 2)
    else (if nat_lt t (w.start + 2 * u.bits * half)
    then level (u.mode / 2 + u.mode % 2 + (t - w.start) / half)
    else even_clock u half ws t)

-- two words of three bits, each bit of four ticks
words : List EvenWord
words = record { start = 2; out = 4; back = 3 } ∷ record { start = 20; out = 1; back = 7 } ∷ []

-- a line with the bits of each of two words, and x elsewhere
line : SpiSetup → (EvenWord → ℕ) → ℕ → Bit
line u word_of t =
    if nat_lt t 2 then X
    else (if nat_lt t 14 then get_or (ordered_levels u.order 3 (word_of (get_or words 0 no_word))) ((t - 2) / 4) X
    else (if nat_lt t 20 then X
    else get_or (ordered_levels u.order 3 (word_of (get_or words 1 no_word))) ((t - 20) / 4) X))
  where
    no_word : EvenWord
    no_word = record { start = 0; out = 0; back = 0 }

-- the chip is selected before this tick
selected_before : ℕ → ℕ → Bit
selected_before release t = if nat_lt t release then Zero else One

found : SpiSetup → Option (ℕ → Bit) → List Annotation
found u cs = spi_annotations u (even_clock u 2 words) (Some (line u (λ w. w.out))) (Some (line u (λ w. w.back))) cs 40

mode_0 : found (spi_setup 0 3 Msb) None
    ≡ annotation 4 12 (Word (Number 4) (Number 3)) ∷ annotation 22 30 (Word (Number 1) (Number 7)) ∷ []
unfolding words line found spi_annotations groups_of even_clock data_levels
mode_0 = refl

mode_1 : found (spi_setup 1 3 Lsb) (Some (selected_before 35))
    ≡ annotation 4 12 (Word (Number 4) (Number 3)) ∷ annotation 22 30 (Word (Number 1) (Number 7)) ∷ []
unfolding words line selected_before found spi_annotations groups_of even_clock data_levels
mode_1 = refl

mode_2 : found (spi_setup 2 3 Lsb) None
    ≡ annotation 4 12 (Word (Number 4) (Number 3)) ∷ annotation 22 30 (Word (Number 1) (Number 7)) ∷ []
unfolding words line found spi_annotations groups_of even_clock data_levels
mode_2 = refl

mode_3 : found (spi_setup 3 3 Msb) None
    ≡ annotation 4 12 (Word (Number 4) (Number 3)) ∷ annotation 22 30 (Word (Number 1) (Number 7)) ∷ []
unfolding words line found spi_annotations groups_of even_clock data_levels
mode_3 = refl

-- the chip is released after two bits of the second word
released_in_word : found (spi_setup 0 3 Msb) (Some (selected_before 27))
    ≡ annotation 4 12 (Word (Number 4) (Number 3)) ∷ annotation 22 26 (Unfinished 2) ∷ []
unfolding words line selected_before found spi_annotations groups_of even_clock data_levels
released_in_word = refl

-- halves of one to four ticks, and a data line that is right at the sampling ticks alone
uneven : spi_annotations (spi_setup 0 3 Msb)
    (λ t. get_or (Zero ∷ Zero ∷ One ∷ Zero ∷ Zero ∷ Zero ∷ One ∷ One ∷ Zero ∷ One ∷ One ∷ One ∷ One ∷ Zero ∷ []) t Zero)
    (Some (λ t. get_or (X ∷ X ∷ One ∷ X ∷ X ∷ X ∷ Zero ∷ X ∷ X ∷ One ∷ []) t X)) None None 20
    ≡ annotation 2 9 (Word (Number 5) Absent) ∷ []
unfolding spi_annotations groups_of
uneven = refl

-- ---- the law's premises can be met

-- a word of three bits, each of two ticks
even_word : SpiWord
even_word = record { bit_start = λ k. 2 * k; bit_middle = λ k. 2 * k + 1; out = 5; back = 6 }

-- a data line with the bits of a number
even_line : ℕ → ℕ → Bit
even_line word t = get_or (ordered_levels Msb 3 word) (t / 2) X

-- the clock has one level in each half of a bit
halves : (k : ℕ) → (level (2 * k) ≡ Zero) × (level (2 * k + 1) ≡ One)
halves k = (
  ap (λ r. if r == 1 then One else Zero) {x = 2 * k % 2} {y = 0} (omega arith),
  ap (λ r. if r == 1 then One else Zero) {x = (2 * k + 1) % 2} {y = 1} (omega arith),
)

at_middle : (word k : ℕ) → even_line word (2 * k + 1) ≡ get_or (ordered_levels Msb 3 word) k X
unfolding even_line
at_middle word k = ap (λ i. get_or (ordered_levels Msb 3 word) i X) {x = (2 * k + 1) / 2} {y = k} (omega arith)

premises : let u = spi_setup 0 3 Msb in
    WordsFit u 0 6 (even_word ∷ []) × IsChipSelect None 0 6 5 × SendsClock u level 0 6 (even_word ∷ [])
    × MaySendData u (λ w. w.out) (Some (even_line 5)) (even_word ∷ [])
    × MaySendData u (λ w. w.back) (Some (even_line 6)) (even_word ∷ [])
unfolding even_word WordsFit SendsClock SendsData
premises = (
  (omega arith, omega arith, λ k. (omega arith, omega arith), omega arith, omega arith),
  (refl, refl),
  (
    λ t late before early. absurd (omega arith),
    λ k t within late before early. ap level {x = t} {y = 2 * k} (omega (arith, late, before)) ∙ (halves k).0,
    λ k t within late before early. ap level {x = t} {y = 2 * k + 1} (omega (arith, late, before)) ∙ (halves k).1,
    λ t late early. absurd (omega arith),
  ),
  (λ k within. at_middle 5 k, tt),
  (λ k within. at_middle 6 k, tt),
)
