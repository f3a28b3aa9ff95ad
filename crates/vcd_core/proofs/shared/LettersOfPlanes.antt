-- The letters that two planes show.
use Rattle.std.proofs.Common.{◌≡◌, ◌≢◌, ℕ, ◌+◌, ◌-◌, ◌*◌, ◌/◌, ◌%◌, ◌<◌, ◌≤◌, inl, inr, List, [], ◌∷◌, ◌↔◌, min, ◌^◌}
use Rattle.std.proofs.Common.{length, take, map, replicate, get_or, refl, sym, ap, ◌∙◌, arith}
use Rattle.std.proofs.Math.ListN.{set}
use Rattle.std.specs.Int.{bit_at}
use Rattle.std.specs.Int.Bits.{bit_and, mask_lt}
use Rattle.std.proofs.lemmas.List.{ext_get_or, get_or-set_same, get_or-set_other, get_or-replicate, get_or-take}
use Rattle.std.proofs.lemmas.List.{length-replicate, length-set}
use Rattle.std.proofs.lemmas.List.FromFn.{length-map-range_with_len}
use Rattle.std.proofs.lemmas.Nat.Bits.{bit_at-lt}
use Rattle.std.proofs.lemmas.List.Elements.{All-set, All-replicate}
use Rattle.std.specs.List.{range_with_len}
use Rattle.vcd_core.specs.declared.value.TheConstants.{BLOCKS}
use Rattle.std.proofs.lemmas.Bool.{cases_lt, lt-ltb, le-ltb}
use Rattle.std.proofs.Math.Pow.{pow_mono}
use Rattle.vcd_core.specs.declared.bit.Bit.{Bit}
use Rattle.vcd_core.specs.declared.bit.Bit.TheVariants.{Zero, One, X, Z}
use Rattle.vcd_core.specs.declared.value.Value.TheInside.{Inside}
use Rattle.vcd_core.specs.Value.{letter_at}
use Rattle.vcd_core.specs.declared.letter_block.LetterBlock.{LetterBlock}
use Rattle.vcd_core.specs.BlockRows.{letter_of, low_of, high_of, letter_in, block_at, letters_of, letter_or}
use Rattle.vcd_core.specs.inside.Planes.{plane_bit, letters_in, view_value, value_of, bit_in, IsValue}
use Rattle.vcd_core.specs.inside.value.PlanesOfLetters.{letter_at-letters_in, length-letters_in, bit_in-letter_of}
use Rattle.vcd_core.specs.inside.value.PlanesOfLetters.{letter_at-by_bit, value_of-view_value}
use Rattle.vcd_core.proofs.planes.WrittenBits.{HoldsBlocks, both_set, block_held}

pub letter_of-letter : (b : Bit) → letter_of (low_of b) (high_of b) ≡ b
letter_of-letter Zero = refl
letter_of-letter One = refl
letter_of-letter X = refl
letter_of-letter Z = refl

-- two values with the same letters are equal
pub same_letter_at : (v w : List Bit) → length v ≡ length w → ((k : ℕ) → k < length v → letter_at v k ≡ letter_at w k)
    → v ≡ w
same_letter_at v w long same = ext_get_or X v w long (λ i within.
    let k : ℕ = length v - 1 - i in
    let back : length v - 1 - k ≡ i = omega arith in
    let back' : length w - 1 - k ≡ i = omega arith in
    ap (λ j. get_or v j X) (sym back) ∙ same k (omega arith) ∙ ap (λ j. get_or w j X) back')

-- the letters of planes and of a row of blocks, by bit
abbrev plane_letter : List ℕ → ℕ → Bit
plane_letter words k = letter_of (plane_bit 0 words k) (plane_bit 1 words k)

abbrev row_letter : List LetterBlock → ℕ → Bit
row_letter blocks k = letter_in (block_at blocks (k / 64)) (k % 64)

-- a value whose letters a function of the bit gives
by_bit : (f : ℕ → Bit) (width : ℕ) (v : List Bit) → width ≡ length v → ((k : ℕ) → k < width → f k ≡ letter_at v k)
    → map (λ i. f (width - 1 - i)) (range_with_len 0 width) ≡ v
by_bit f width v long same =
    let wide = length-map-range_with_len (λ i. f (width - 1 - i)) 0 width in
    same_letter_at _ v (wide ∙ long) (λ k below.
    let within : k < width = omega (arith, wide) in letter_at-by_bit f width k within ∙ same k within)

-- the planes show the value whose letters have their bits
pub letters_in-shown : (v : List Bit) (width : ℕ) (words : List ℕ) → width ≡ length v
    → ((k : ℕ) → k < width → plane_bit 0 words k ≡ low_of (letter_at v k))
    → ((k : ℕ) → k < width → plane_bit 1 words k ≡ high_of (letter_at v k))
    → letters_in width words ≡ v
unfolding letters_in
letters_in-shown v width words long lows highs = by_bit (plane_letter words) width v long (λ k within.
    (λ p. letter_of (lows k within p) (highs k within p)) ∙ letter_of-letter (letter_at v k))

pub length-letters_of : (width : ℕ) (blocks : List LetterBlock) → length (letters_of width blocks) ≡ width
unfolding letters_of
length-letters_of width blocks = length-map-range_with_len _ 0 width

-- the letter at bit k is that of the block
pub letter_at-letters_of : (width : ℕ) (blocks : List LetterBlock) (k : ℕ) → k < width
    → letter_at (letters_of width blocks) k ≡ letter_in (block_at blocks (k / 64)) (k % 64)
unfolding letters_of
letter_at-letters_of width blocks k within = letter_at-by_bit (row_letter blocks) width k within

-- planes that hold the blocks show their letters
pub letters_in-blocks : (n width j : ℕ) (planes : List ℕ) (blocks : List LetterBlock)
    → HoldsBlocks n width j planes blocks → width ≤ 64 * j → letters_in width planes ≡ letters_of width blocks
unfolding letters_in
letters_in-blocks n width j planes blocks holds all =
    by_bit (plane_letter planes) width _ (sym (length-letters_of width blocks)) (λ k inside.
    (λ p. letter_of (holds.bits 0 k (omega arith) (omega arith) inside p)
    (holds.bits 1 k (omega arith) (omega arith) inside p)) ∙ sym (letter_at-letters_of width blocks k inside))

pub letter_at-replicate : (n k : ℕ) (b : Bit) → k < n → letter_at (replicate n b) k ≡ b
letter_at-replicate n k b within = get_or-replicate n _ b X (omega (arith, length-replicate n b))

-- the letters of a row that repeats a block of one letter
pub letters_of-replicate : (width n : ℕ) (block : LetterBlock) (b : Bit) → width ≤ 64 * n
    → ((i : ℕ) → i < 64 → letter_in block i ≡ b)
    → letters_of width (replicate n block) ≡ replicate width b
unfolding letters_of
letters_of-replicate width n block b within holds =
    by_bit (row_letter (replicate n block)) width _ (sym (length-replicate width b)) (λ k inside.
    ap (λ (w : LetterBlock). letter_in w (k % 64))
    (get_or-replicate n (k / 64) block (record { low = 0; high = 0 }) (omega arith))
    ∙ holds (k % 64) (omega arith) ∙ sym (letter_at-replicate width k b inside))

-- the letter that was written, and the others
pub letter_at-set_same : (v : List Bit) (k : ℕ) (b : Bit) → k < length v → letter_at (set v (length v - 1 - k) b) k ≡ b
letter_at-set_same v k b within =
    ap (λ n. get_or (set v (length v - 1 - k) b) (n - 1 - k) X) (length-set v _ b)
    ∙ get_or-set_same v (length v - 1 - k) b X (omega arith)

pub letter_at-set_other : (v : List Bit) (k i : ℕ) (b : Bit) → k < length v → i < length v → i ≢ k
    → letter_at (set v (length v - 1 - k) b) i ≡ letter_at v i
letter_at-set_other v k i b within inside apart =
    let differs : length v - 1 - i ≢ length v - 1 - k = omega arith in
    ap (λ n. get_or (set v (length v - 1 - k) b) (n - 1 - i) X) (length-set v _ b)
    ∙ get_or-set_other v (length v - 1 - k) (length v - 1 - i) b X differs

-- the words in use determine the letters
pub same_words : (width m : ℕ) (xs ys : List ℕ) → width ≤ 64 * m → take (2 * m) xs ≡ take (2 * m) ys
    → letters_in width xs ≡ letters_in width ys
unfolding letters_in plane_bit
same_words width m xs ys fits same =
    by_bit (plane_letter xs) width _ (sym (length-letters_in width ys)) (λ k inside.
    (λ p. letter_of (same_bit 0 k (omega arith) inside p) (same_bit 1 k (omega arith) inside p))
    ∙ sym (letter_at-letters_in width ys k inside))
  where
    same_bit : (plane k : ℕ) → plane < 2 → k < width → plane_bit plane xs k ≡ plane_bit plane ys k
    same_bit plane k which inside =
        let i : ℕ = 2 * (k / 64) + plane in
        let within : i < 2 * m = omega arith in
        ap (λ w. bit_at w (k % 64)) (sym (get_or-take (2 * m) xs i 0 within) ∙ ap (λ l. get_or l i 0) same
        ∙ get_or-take (2 * m) ys i 0 within)

-- a letter of a row of one block
pub one_block : (block : LetterBlock) (k : ℕ) → k < 64
    → letter_in (block_at (block ∷ []) (k / 64)) (k % 64) ≡ letter_in block k
one_block block k below =
    let none : k / 64 ≡ 0 = omega arith in
    let rest : k % 64 ≡ k = omega arith in
    (λ p. letter_in (block_at (block ∷ []) (none p)) (rest p))

-- values with the same letters have the same planes
pub same_planes : (a b : Inside) (v w : List Bit) → IsValue a → IsValue b → view_value a ≡ v → view_value b ≡ w → v ≡ w
    → a ≡ b
same_planes a b v w is_a is_b shows_a shows_b same =
    sym (value_of-view_value a is_a) ∙ ap value_of (shows_a ∙ same ∙ sym shows_b) ∙ value_of-view_value b is_b

first_two : (words : List ℕ) → 2 ≤ length words → take 2 words ≡ get_or words 0 0 ∷ get_or words 1 0 ∷ []
first_two (low ∷ high ∷ words) long = refl
first_two (low ∷ []) long = absurd (omega arith)
first_two [] long = absurd (omega arith)

-- the letters of a value, from its planes
module _ (v : List Bit) (inside : Inside) (is : IsValue inside) (shows : view_value inside ≡ v) where
  pub length-shown : length v ≡ inside.width
  unfolding view_value
  length-shown = ap length (sym shows) ∙ length-letters_in inside.width inside.planes

  pub letter_at-shown : (k : ℕ) → k < length v
      → letter_at v k ≡ letter_of (plane_bit 0 inside.planes k) (plane_bit 1 inside.planes k)
  unfolding view_value
  letter_at-shown k within = ap (λ w. letter_at w k) (sym shows)
      ∙ letter_at-letters_in inside.width inside.planes k (omega (arith, length-shown))

  -- a bit of the value is within its planes
  pub in_planes : (plane k : ℕ) → plane < 2 → k < length v → 2 * (k / 64) + plane < length inside.planes
  in_planes plane k which within = omega (arith, length-shown, is.most, is.planes.sized)

  pub bit-shown : (plane k : ℕ) → plane < 2 → k < length v
      → plane_bit plane inside.planes k ≡ bit_in plane (letter_at v k)
  unfolding plane_bit
  bit-shown plane k which within =
      sym (ap (bit_in plane) (letter_at-shown k within)
      ∙ bit_in-letter_of plane _ _ (bit_at-lt _ _) (bit_at-lt _ _) which (plane_bit plane inside.planes k)
      (ap (λ p. plane_bit p inside.planes k)) (ap (λ p. plane_bit p inside.planes k)))

  pub word_within : (plane k : ℕ) → plane < 2 → 64 * k < length v → 2 * k + plane < length inside.planes
  word_within plane k which within = omega (arith, length-shown, is.most, is.planes.sized)

  -- the letters of a block are those of the value, and 0 past it
  pub letter_in-shown : (k i : ℕ) → 64 * k < length v → i < 64
      → letter_of (bit_at (get_or inside.planes (2 * k + 0) 0) i) (bit_at (get_or inside.planes (2 * k + 1) 0) i)
      ≡ letter_or Zero v (64 * k + i)
  unfolding plane_bit
  letter_in-shown k i within below =
      let index : (64 * k + i) / 64 ≡ k = omega arith in
      let rest : (64 * k + i) % 64 ≡ i = omega arith in
      (λ p. letter_of (bit_at (get_or inside.planes (2 * sym index p + 0) 0) (sym rest p))
      (bit_at (get_or inside.planes (2 * sym index p + 1) 0) (sym rest p))) ∙ elim (cases_lt (64 * k + i) (length v)) [
        | inl in_value ↦ rw (lt-ltb (64 * k + i) (length v) in_value) (sym (letter_at-shown (64 * k + i) in_value))
        | inr past ↦ rw (le-ltb (64 * k + i) (length v) past) (λ p. letter_of (clear 0 (omega arith) past p)
            (clear 1 (omega arith) past p))
      ]
    where
      clear : (plane : ℕ) → plane < 2 → length v ≤ 64 * k + i → plane_bit plane inside.planes (64 * k + i) ≡ 0
      clear plane which past = is.planes.clear plane (64 * k + i) which (omega (arith, length-shown))
          (omega (arith, length-shown, is.most))

  -- a narrow value has the letters of a block where its first words are those of the block, cut at its width
  pub first_words-Decides : (block : LetterBlock) (mask : ℕ) → length v ≤ 64 → mask ≡ 2 ^ min inside.width 64 - 1
      → (get_or inside.planes 0 0 ≡ bit_and block.low mask)
      × (get_or inside.planes 1 0 ≡ bit_and block.high mask) ↔ (letters_of (length v) (block ∷ []) ≡ v)
  unfolding view_value
  first_words-Decides block mask narrow is_mask =
      let zeros : List ℕ = replicate (2 * BLOCKS) 0 in
      let low : ℕ = bit_and block.low mask in
      let high : ℕ = bit_and block.high mask in
      let words : List ℕ = both_set zeros 0 low high in
      let made : Inside = record { width = inside.width; planes = words } in
      let holds = block_held BLOCKS inside.width mask block (omega arith) is_mask in
      let letters : view_value made ≡ letters_of (length v) (block ∷ []) =
      letters_in-blocks BLOCKS inside.width 1 words (block ∷ []) holds (omega (arith, length-shown))
      ∙ ap (λ n. letters_of n (block ∷ [])) (sym length-shown) in
      let is_made : IsValue made = record {
        least = is.least;
        most = is.most;
        planes = record {
          sized = refl;
          small = All-set (λ w. w < 2 ^ 64) (set zeros 0 low) 1 high (small block.high)
              (All-set (λ w. w < 2 ^ 64) zeros 0 low (small block.low)
              (All-replicate (λ w. w < 2 ^ 64) (2 * BLOCKS) 0 (omega arith)));
          clear = holds.clear;
        };
      } in (
        (λ (first, second). sym letters ∙ same_words inside.width 1 words inside.planes (omega (arith, length-shown))
            ((λ p. sym first p ∷ sym second p ∷ []) ∙ sym (first_two inside.planes (omega (arith, is.planes.sized))))
            ∙ shows),
        (λ same.
            let planes : inside ≡ made = sym (same_planes made inside _ v is_made is letters shows same) in
            (ap (λ (w : Inside). get_or w.planes 0 0) planes, ap (λ (w : Inside). get_or w.planes 1 0) planes)),
      )
    where
      small : (w : ℕ) → bit_and w mask < 2 ^ 64
      small w = rw is_mask (omega (
        arith,
        mask_lt w (min inside.width 64),
        pow_mono {i = min inside.width 64} {j = 64} (omega arith),
      ))
