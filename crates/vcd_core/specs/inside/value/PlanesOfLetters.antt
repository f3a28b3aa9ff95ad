-- The planes of the letters of a value are the value: its model needs this to restore its fields.
use Rattle.std.proofs.Common.{◌≡◌, ℕ, zero, suc, ◌+◌, ◌-◌, ◌*◌, ◌/◌, ◌%◌, ◌^◌, ◌<◌, ◌≤◌, nat_lt}
use Rattle.std.proofs.Common.{List, length, map, get_or, refl, sym, ap, pow-suc, ◌∙◌, arith, inl}
use Rattle.std.proofs.Common.{inr}
use Rattle.std.specs.List.{range_with_len}
use Rattle.std.specs.Int.{bit_at}
use Rattle.std.proofs.lemmas.Nat.Bits.{bit_at-lt, bit_at_cat_low, bit_at_cat_high}
use Rattle.std.proofs.lemmas.Nat.Bits.{same_from_bits_below, bit_at_lowest}
use Rattle.std.proofs.lemmas.List.FromFn.{get_or-map-range_with_len, length-map-range_with_len}
use Rattle.std.proofs.lemmas.Grind.{same_number_lists}
use Rattle.std.proofs.lemmas.Bool.{cases_lt, lt-ltb, le-ltb, cond_both}
use Rattle.vcd_core.specs.declared.bit.Bit.{Bit}
use Rattle.vcd_core.specs.declared.bit.Bit.TheVariants.{Zero, One, X, Z}
use Rattle.vcd_core.specs.declared.value.TheConstants.{BLOCKS}
use Rattle.vcd_core.specs.declared.value.Value.TheInside.{Inside}
use Rattle.vcd_core.specs.Value.{letter_at}
use Rattle.vcd_core.specs.BlockRows.{letter_of, low_of, high_of}
use Rattle.vcd_core.specs.inside.Planes.{plane_bit, letters_in, view_value, number, bit_in}
use Rattle.vcd_core.specs.inside.Planes.{bit_below, planes_of, value_of, ArePlanes, IsValue}

bit_times-≤ : (b m : ℕ) → b < 2 → b * m ≤ m
bit_times-≤ zero m small = omega arith
bit_times-≤ (suc zero) m small = omega arith
bit_times-≤ (suc (suc b)) m small = absurd (omega arith)

number-lt : (f : ℕ → ℕ) (n : ℕ) → ((i : ℕ) → f i < 2) → number f n < 2 ^ n
unfolding number
number-lt f zero small = omega arith
number-lt f (suc n) small =
    omega (arith, pow-suc 2 n, number-lt f n small, bit_times-≤ (f n) (2 ^ n) (small n))

-- bit i of the number is f i
pub bit_at-number : (f : ℕ → ℕ) (n i : ℕ) → ((i : ℕ) → f i < 2) → i < n
    → bit_at (number f n) i ≡ f i
unfolding number
bit_at-number f zero i small within = absurd (omega arith)
bit_at-number f (suc n) i small within =
    elim (cases_lt i n) [
      | inl below ↦ bit_at_cat_low (f n) n (number f n) i below ∙ bit_at-number f n i small below
      | inr from ↦
          let last : i ≡ n = omega arith in
          let none : i - n ≡ 0 = omega arith in
          let bit : f n % 2 ≡ f n = omega (arith, small n) in
          bit_at_cat_high (f n) n (number f n) i (number-lt f n small) from ∙ ap (bit_at (f n)) none
          ∙ bit_at_lowest (f n) ∙ bit ∙ ap f (sym last)
    ]

-- the bits of a letter give the letter, and the letter of two bits gives the bits
low_of-lt : (b : Bit) → low_of b < 2
low_of-lt Zero = omega arith
low_of-lt One = omega arith
low_of-lt X = omega arith
low_of-lt Z = omega arith

high_of-lt : (b : Bit) → high_of b < 2
high_of-lt Zero = omega arith
high_of-lt One = omega arith
high_of-lt X = omega arith
high_of-lt Z = omega arith

pub low_of-letter_of : (low high : ℕ) → low < 2 → low_of (letter_of low high) ≡ low
low_of-letter_of zero zero small = refl
low_of-letter_of zero (suc _) small = refl
low_of-letter_of (suc low) zero small = omega arith
low_of-letter_of (suc low) (suc _) small = omega arith

pub high_of-letter_of : (low high : ℕ) → high < 2 → high_of (letter_of low high) ≡ high
high_of-letter_of zero zero small = refl
high_of-letter_of zero (suc high) small = omega arith
high_of-letter_of (suc _) zero small = refl
high_of-letter_of (suc _) (suc high) small = omega arith

bit_in-lt : (plane : ℕ) (b : Bit) → bit_in plane b < 2
bit_in-lt zero b = low_of-lt b
bit_in-lt (suc _) b = high_of-lt b

-- the bit of a letter in its plane
pub bit_in-letter_of : (plane low high : ℕ) → low < 2 → high < 2 → plane < 2 → (bit : ℕ)
    → (plane ≡ 0 → bit ≡ low)
    → (plane ≡ 1 → bit ≡ high) → bit_in plane (letter_of low high) ≡ bit
bit_in-letter_of zero low high small_low small_high plane bit first second =
    low_of-letter_of low high small_low
    ∙ sym (first refl)
bit_in-letter_of (suc zero) low high small_low small_high plane bit first second =
    high_of-letter_of low high small_high
    ∙ sym (second refl)
bit_in-letter_of (suc (suc _)) low high small_low small_high plane bit first second =
    absurd (omega arith)

pub length-letters_in : (width : ℕ) (words : List ℕ) → length (letters_in width words) ≡ width
unfolding letters_in
length-letters_in width words = length-map-range_with_len _ 0 width

-- the letter at bit k, where a function of the bit gives the letters
pub letter_at-by_bit : (f : ℕ → Bit) (width k : ℕ) → k < width
    → letter_at (map (λ i. f (width - 1 - i)) (range_with_len 0 width)) k ≡ f k
letter_at-by_bit f width k within =
    let letters = map (λ i. f (width - 1 - i)) (range_with_len 0 width) in
    let index : length letters - 1 - k ≡ width - 1 - k =
    ap (λ n. n - 1 - k) (length-map-range_with_len _ 0 width) in
    let back : width - 1 - (width - 1 - k) ≡ k = omega arith in
    ap (λ i. get_or letters i X) index
    ∙ get_or-map-range_with_len (λ i. f (width - 1 - i)) 0 width (width - 1 - k) (width - 1 - k) X
    (omega arith) (omega arith)
    ∙ ap f back

-- the letter at bit k is that of the bits k of the planes
pub letter_at-letters_in : (width : ℕ) (words : List ℕ) (k : ℕ) → k < width
    → letter_at (letters_in width words) k ≡ letter_of (plane_bit 0 words k) (plane_bit 1 words k)
unfolding letters_in
letter_at-letters_in width words k within =
    letter_at-by_bit (λ k. letter_of (plane_bit 0 words k) (plane_bit 1 words k)) width k within

-- the planes are the bits of the letters
planes_are : (n width : ℕ) (words : List ℕ) (v : List Bit) → ArePlanes n width words
    → length v ≡ width
    → ((plane k : ℕ) → plane < 2 → k < width
    → bit_in plane (letter_at v k) ≡ plane_bit plane words k)
    → planes_of n v ≡ words
unfolding planes_of bit_below plane_bit
planes_are n width words v planes long same =
    let bit : ℕ → ℕ → ℕ = λ j i. bit_below (j % 2) v (64 * (j / 2) + i) in
    let bits : (j i : ℕ) → bit j i < 2 = λ j i. bit_below-lt (j % 2) (64 * (j / 2) + i) in
    let long_planes : length (planes_of n v) ≡ 2 * n = length-map-range_with_len _ 0 (2 * n) in
    same_number_lists _ _ (long_planes ∙ sym planes.sized) (λ j within.
    let below : j < 2 * n = omega arith in
    get_or-map-range_with_len (λ j. number (bit j) 64) 0 (2 * n) j j 0 below (omega arith)
    ∙ same_from_bits_below 64 _ _ (number-lt (bit j) 64 (bits j))
    (planes.small j 0 (omega (arith, planes.sized)))
    (λ i inside.
    let index : 2 * ((64 * (j / 2) + i) / 64) + j % 2 ≡ j = omega arith in
    let rest : (64 * (j / 2) + i) % 64 ≡ i = omega arith in
    let here : plane_bit (j % 2) words (64 * (j / 2) + i) ≡ bit_at (get_or words j 0) i =
    (λ p. bit_at (get_or words (index p) 0) (rest p)) in
    bit_at-number (bit j) 64 i (bits j) inside
    ∙ at_bit (j % 2) (64 * (j / 2) + i) (omega arith) (omega arith) ∙ here))
  where
    bit_below-lt : (plane k : ℕ) → bit_below plane v k < 2
    bit_below-lt plane k =
        cond_both (nat_lt k (length v)) _ _ (λ b. b < 2) (λ _. bit_in-lt plane _) (λ _. omega arith)

    at_bit : (plane k : ℕ) → plane < 2 → k < 64 * n → bit_below plane v k ≡ plane_bit plane words k
    at_bit plane k which inside = elim (cases_lt k (length v)) [
      | inl below ↦ rw (lt-ltb k (length v) below) (same plane k which (omega arith))
      | inr from ↦ rw (le-ltb k (length v) from)
          (sym (planes.clear plane k which (omega arith) inside))
    ]

-- the letters of a value give the value
pub value_of-view_value : (v : Inside) → IsValue v → value_of (view_value v) ≡ v
unfolding value_of view_value plane_bit
value_of-view_value v is =
    let long = length-letters_in v.width v.planes in
    let planes = planes_are BLOCKS v.width v.planes (view_value v) is.planes long
    (λ plane k which within. ap (bit_in plane) (letter_at-letters_in v.width v.planes k within)
    ∙ bit_in-letter_of plane _ _ (bit_at-lt _ _) (bit_at-lt _ _) which (plane_bit plane v.planes k)
    (ap (λ p. plane_bit p v.planes k)) (ap (λ p. plane_bit p v.planes k))) in
    λ p. record { width = long p; planes = planes p }
