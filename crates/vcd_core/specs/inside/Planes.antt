-- The two planes of bits that hold the letters of a value, in alternating words.
use Rattle.std.specs.Prelude.{ℕ, zero, suc, ◌+◌, ◌-◌, ◌*◌, ◌/◌, ◌%◌, ◌^◌, ◌≡◌, ◌<◌, ◌≤◌}
use Rattle.std.specs.Prelude.{if◌then◌else◌, nat_lt, List, length, map, slice_index, All}
use Rattle.std.specs.List.{range_with_len}
use Rattle.std.specs.Int.{bit_at}
use Rattle.vcd_core.specs.declared.bit.Bit.{Bit}
use Rattle.vcd_core.specs.declared.value.TheConstants.{BLOCKS, WIDTH_LIMIT}
use Rattle.vcd_core.specs.declared.value.Value.TheInside.{Inside}
use Rattle.vcd_core.specs.Value.{letter_at}
use Rattle.vcd_core.specs.BlockRows.{letter_of, low_of, high_of}

-- bit k of the low plane (0) or the high plane (1) among alternating words of the two
unfoldable pub plane_bit : ℕ → List ℕ → ℕ → ℕ
plane_bit plane words k = bit_at (slice_index words (2 * (k / 64) + plane)) (k % 64)

-- the letters of two planes, most significant first
unfoldable pub letters_in : ℕ → List ℕ → List Bit
letters_in width words =
    map (λ i. letter_of (plane_bit 0 words (width - 1 - i)) (plane_bit 1 words (width - 1 - i)))
    (range_with_len 0 width)

-- the letters of a value
unfoldable pub view_value : Inside → List Bit
view_value v = letters_in v.width v.planes

-- the number whose bits are f 0, f 1, .. f (n - 1)
unfoldable pub number : (ℕ → ℕ) → ℕ → ℕ
number f zero = 0
number f (suc n) = f n * 2 ^ n + number f n

-- the bit of a letter in the low plane (0) or the high plane (1)
abbrev pub bit_in : ℕ → Bit → ℕ
bit_in zero b = low_of b
bit_in (suc _) b = high_of b

-- the bit of the letter at k in a plane; 0 outside the value
unfoldable pub bit_below : ℕ → List Bit → ℕ → ℕ
bit_below plane v k = if nat_lt k (length v) then bit_in plane (letter_at v k) else 0

-- the n words of each of the two planes that hold the letters, alternating
unfoldable pub planes_of : ℕ → List Bit → List ℕ
planes_of n v =
    map (λ j. number (λ i. bit_below (j % 2) v (64 * (j / 2) + i)) 64) (range_with_len 0 (2 * n))

-- the value with these letters
unfoldable pub value_of : List Bit → Inside
value_of v = record { width = length v; planes = planes_of BLOCKS v }

-- two planes of n words, with no bit from `width` on
pub record ArePlanes (n width : ℕ) (words : List ℕ) : Type 0 where
  pub sized : length words ≡ 2 * n
  pub small : All (λ w. w < 2 ^ 64) words
  pub clear : (plane k : ℕ) → plane < 2 → width ≤ k → k < 64 * n → plane_bit plane words k ≡ 0

-- the planes of a value of 1 to the limit of bits
pub record IsValue (v : Inside) : Type 0 where
  pub least : 1 ≤ v.width
  pub most : v.width ≤ WIDTH_LIMIT
  pub planes : ArePlanes BLOCKS v.width v.planes
