-- The letters of a block, and those that the extension restores from the next.
use Rattle.std.proofs.Common.{◌≡◌, ℕ, zero, suc, ◌+◌, ◌-◌, ◌*◌, ◌/◌, ◌%◌, ◌^◌, ◌<◌, ◌≤◌, min, max, Bool, true, false}
use Rattle.std.proofs.Common.{List, [], ◌∷◌, ◌++◌, length, drop, get_or, slice_range, if◌then◌else◌, pow-suc, sym, ap}
use Rattle.std.proofs.Common.{◌∙◌, arith, w64}
use Rattle.std.specs.Int.{bit_at, bit_not}
use lib.Bits.{and_le_r}
use Rattle.std.specs.Int.Bits.{bit_and, bit_or, bit_xor}
use Rattle.std.specs.Int.Count.{count_leading_zeros}
use Rattle.std.proofs.Math.ListN.{set}
use Rattle.std.proofs.lemmas.Bool.{cases_eq, cases_lt, lt-ltb}
use Rattle.std.proofs.lemmas.List.{ext_get_or, get_or-drop, get_or-map, get_or-set_other, get_or-set_same, get_or-take}
use Rattle.std.proofs.lemmas.List.{length-drop, length-map, length-set, length-take-le, map-append, take_all}
use Rattle.std.proofs.lemmas.List.Folds.{drop_split}
use Rattle.std.proofs.lemmas.Nat.{leading_length}
use Rattle.std.proofs.lemmas.Nat.Bits.{bit_at-lt, bit_at-suc, bit_at_above, bit_at_and, bit_at_cat_high, bit_at_not}
use Rattle.std.proofs.lemmas.Nat.Bits.{bit_at_ones, bit_at_ones_above, bit_at_or, bit_at_xor}
use Rattle.vcd_core.specs.declared.bit.Bit.{Bit}
use Rattle.vcd_core.specs.declared.bit.Bit.TheVariants.{Zero, X}
use Rattle.vcd_core.specs.declared.letter_block.LetterBlock.{LetterBlock}
use Rattle.vcd_core.specs.Value.{letter_at, printed_letter, same_letter}
use Rattle.vcd_core.specs.BlockRows.{letter_in, letter_of, letters_of, HoldsLetters}
use Rattle.vcd_core.proofs.shared.LettersOfPlanes.{letter_at-letters_of, length-letters_of, one_block, same_letter_at}
use Rattle.vcd_text.specs.Letters.{pad_letter, printed_letters}
use Rattle.vcd_text.specs.inside.writing.Values.{IsShortFormLen, is_redundant_above}

-- ---- the letters of blocks

pub held_letter : (v : List Bit) (from : ℕ) (block : LetterBlock) (i : ℕ) → HoldsLetters Zero v from block → i < 64
    → from + i < length v → letter_in block i ≡ letter_at v (from + i)
held_letter v from block i holds inside within = grind (arith, lt-ltb)

-- a letter of the value of a block
pub given_letter : (width : ℕ) (block : LetterBlock) (k : ℕ) → width ≤ 64 → k < width
    → letter_at (letters_of width (block ∷ [])) k ≡ letter_in block k
given_letter width block k narrow within = grind (arith, letter_at-letters_of, one_block)

-- ---- the lowest letters

-- the lowest letters of a value
abbrev pub lowest : ℕ → List Bit → List Bit
lowest n v = drop (length v - n) v

-- ---- letters in a row

-- two more letters, before those at the end of a row
pub pair_written : (f : ℕ → ℕ) (row : List ℕ) (k a b : ℕ) → length row ≡ 64 → k < 32
    → ((i : ℕ) → i < 2 * k → get_or row (63 - i) 0 ≡ f i) → a ≡ f (2 * k + 1) → b ≡ f (2 * k + 0) → (i : ℕ)
    → i < 2 * (k + 1) → get_or (set (set row (62 - 2 * k) a) (63 - 2 * k) b) (63 - i) 0 ≡ f i
pair_written f row k a b long inside written upper lower i within =
    grind (arith, length-set, cases_lt, get_or-set_other, cases_eq, get_or-set_same)

-- the end of a row of letters
pub row_end : (row : List ℕ) (count : ℕ) (block : LetterBlock) → length row ≡ 64 → count ≤ 64
    → ((i : ℕ) → i < count → get_or row (63 - i) 0 ≡ printed_letter (letter_in block i))
    → slice_range row (64 - count) 64 ≡ printed_letters (letters_of count (block ∷ []))
row_end row count block long fits written =
    let v = letters_of count (block ∷ []) in
    let few : length v ≡ count = length-letters_of count (block ∷ []) in
    let rest : length (drop (64 - count) row) ≡ count = length-drop (64 - count) row ∙ omega (arith, long, fits) in
    take_all (64 - (64 - count)) (drop (64 - count) row) (omega (arith, rest))
    ∙ ext_get_or 0 _ _ (rest ∙ sym (length-map v printed_letter ∙ few)) (λ i below.
    let inside : i < count = omega (arith, below, rest) in
    let k : ℕ = count - 1 - i in
    let index : 64 - count + i ≡ 63 - k = omega (arith, inside, fits) in
    let back : length v - 1 - k ≡ i = omega (arith, inside, few) in
    get_or-drop (64 - count) row i 0 ∙ ap (λ n. get_or row n 0) index ∙ written k (omega (arith, inside))
    ∙ ap printed_letter (grind (arith, given_letter))
    ∙ sym (get_or-map printed_letter v i X 0 (omega (arith, inside, few))))

-- the letters of a block of a value are before the lower ones
pub block_and_rest : (v : List Bit) (left from : ℕ) (block : LetterBlock) → from ≤ left → left ≤ from + 64
    → left ≤ length v → HoldsLetters Zero v from block
    → printed_letters (lowest left v) ≡ printed_letters (letters_of (left - from) (block ∷ []))
    ++ printed_letters (lowest from v)
block_and_rest v left from block most fits within holds =
    let count : ℕ = left - from in
    let start : ℕ = length v - left in
    let end : ℕ = length v - from in
    let part = slice_range v start end in
    let few : length (letters_of count (block ∷ [])) ≡ count = grind (arith, length-letters_of) in
    let long : length part ≡ count = grind (arith, length-take-le, length-drop) in
    let same : part ≡ letters_of count (block ∷ []) =
    grind (arith, same_letter_at, get_or-take, get_or-drop, held_letter, given_letter) in
    ap printed_letters (drop_split v start end (omega arith) ∙ ap (λ l. l ++ drop end v) same)
    ∙ map-append printed_letter (letters_of count (block ∷ [])) (drop end v)

-- ---- redundant letters

-- whether the extension restores the letter of bit i + 1 of a value from that of bit i
abbrev pub is_redundant_in : List Bit → ℕ → Bool
is_redundant_in v i = same_letter (pad_letter (letter_at v i ∷ [])) (letter_at v (i + 1))

pub redundant_held : (v : List Bit) (from : ℕ) (block : LetterBlock) (i : ℕ) → HoldsLetters Zero v from block
    → i + 1 < 64 → from + i + 1 < length v → is_redundant_above block i ≡ is_redundant_in v (from + i)
redundant_held v from block i holds inside within = grind (arith, held_letter)

-- the bits that are set, by those of a letter and of the next
abbrev mark : ℕ → ℕ → ℕ → ℕ → ℕ
mark h' h l' l = max (max ((h' + h) % 2) (min l' (1 - h'))) (min h' ((l' + l) % 2))

mark_is : (h' h l' l : ℕ) → h' < 2 → h < 2 → l' < 2 → l < 2
    → mark h' h l' l ≡ (if same_letter (pad_letter (letter_of l h ∷ [])) (letter_of l' h') then 0 else 1)
mark_is h' h l' l small_h' small_h small_l' small_l = grind arith

-- a word halved has the bits of the next letters
halved : (w i : ℕ) → bit_at (w / 2) i ≡ bit_at w (i + 1)
halved w i = sym (bit_at-suc w i) ∙ ap (bit_at w) (let e : suc i ≡ i + 1 = omega arith in e)

-- shifted by two letters
pub later_pair : (w i : ℕ) → bit_at (w / 4) i ≡ bit_at w (i + 2)
later_pair w i =
    let twice : w / 4 ≡ w / 2 / 2 = omega arith in
    let next : i + 1 + 1 ≡ i + 2 = omega arith in
    ap (λ n. bit_at n i) twice ∙ halved (w / 2) i ∙ halved w (i + 1) ∙ ap (bit_at w) next

pub needed_bit : (low high i : ℕ) → low < 2 ^ 64 → high < 2 ^ 64 → i < 64
    → bit_at (bit_or (bit_or (bit_xor (high / 2) high) (bit_and (low / 2) (bit_not w64 (high / 2))))
    (bit_and (high / 2) (bit_xor (low / 2) low))) i
    ≡ (if is_redundant_above (record { low = low; high = high }) i then 0 else 1)
needed_bit low high i small_low small_high inside =
    let h = halved high i in
    let l = halved low i in
    let other : bit_at (bit_xor (high / 2) high) i ≡ (bit_at high (i + 1) + bit_at high i) % 2 =
    bit_at_xor (high / 2) high i ∙ ap (λ n. (n + bit_at high i) % 2) h in
    let one : bit_at (bit_and (low / 2) (bit_not w64 (high / 2))) i ≡ min (bit_at low (i + 1)) (1 - bit_at high (i + 1))
    = bit_at_and (low / 2) (bit_not w64 (high / 2)) i ∙ ap (λ n. min n (bit_at (bit_not w64 (high / 2)) i)) l ∙ ap (min
    (bit_at low (i + 1))) (bit_at_not w64 (high / 2) i (omega (arith, small_high)) inside ∙ ap (λ n. 1 - n) h) in
    let both : bit_at (bit_and (high / 2) (bit_xor (low / 2) low)) i
    ≡ min (bit_at high (i + 1)) ((bit_at low (i + 1) + bit_at low i) % 2) = grind (arith, bit_at_and, bit_at_xor) in
    bit_at_or (bit_or (bit_xor (high / 2) high) (bit_and (low / 2) (bit_not w64 (high / 2)))) (bit_and (high / 2)
    (bit_xor (low / 2) low)) i ∙ ap (λ n. max n (bit_at (bit_and (high / 2) (bit_xor (low / 2) low)) i)) (bit_at_or
    (bit_xor (high / 2) high) (bit_and (low / 2) (bit_not w64 (high / 2))) i) ∙ (λ p. max (max (other p) (one p))
    (both p)) ∙ mark_is _ _ _ _ (bit_at-lt _ _) (bit_at-lt _ _) (bit_at-lt _ _) (bit_at-lt _ _)

-- ---- the highest set bit

-- the bits up to the highest one that is set
record HasLength (m n : ℕ) : Type 0 where
  counted : count_leading_zeros 64 m + n ≡ 64
  top : 1 ≤ n → bit_at m (n - 1) ≡ 1
  above : (i : ℕ) → n ≤ i → bit_at m i ≡ 0

has_length : (m : ℕ) → m < 2 ^ 64 → (n : ℕ) × HasLength m n
has_length m small =
    let length = leading_length 64 m small in (
      length.0,
      record {
        counted = length.1;
        top = by length.0 length.2 length.3;
        above = grind (arith, bit_at_above);
      },
    )
  where
    by : (n : ℕ) → m < 2 ^ n → 2 ^ n ≤ 2 * m + 1 → 1 ≤ n → bit_at m (n - 1) ≡ 1
    by zero below from some = absurd (omega arith)
    by (suc j) below from some =
        let half : 2 ^ suc j ≡ 2 ^ j * 2 = pow-suc 2 j in
        let rest : ℕ = m - 2 ^ j in
        let parts : m ≡ 1 * 2 ^ j + rest = omega (arith, half) in
        let last : suc j - 1 ≡ j = omega arith in
        let none : j - j ≡ 0 = omega arith in
        ap (bit_at m) last ∙ ap (λ n. bit_at n j) parts ∙ bit_at_cat_high 1 j rest j (omega (arith, half)) (omega arith)
        ∙ ap (bit_at 1) none

-- the remaining letters, by the leading zeros
redundant_where_none : (b : Bool) (n : ℕ) → n ≡ (if b then 0 else 1) → n ≡ 0 → b ≡ true
redundant_where_none b n is none = grind arith

needed_where_one : (b : Bool) (n : ℕ) → n ≡ (if b then 0 else 1) → n ≡ 1 → b ≡ false
needed_where_one b n is one = grind arith

pub short_form_len_is : (count : ℕ) (block : LetterBlock) (marks mask : ℕ) → 1 ≤ count → count ≤ 64 → mask < 2 ^ 64
    → mask ≡ 2 ^ (count - 1) - 1 → ((i : ℕ) → i < 64 → bit_at marks i ≡ (if is_redundant_above block i then 0 else 1))
    → IsShortFormLen count block (65 - count_leading_zeros 64 (bit_and marks mask))
short_form_len_is count block marks mask least most fits is_mask marks_are =
    let m : ℕ = bit_and marks mask in
    let small : m < 2 ^ 64 = omega (arith, and_le_r marks mask, fits) in
    let length = has_length m small in
    let n : ℕ = length.0 in
    let kept : 65 - count_leading_zeros 64 m ≡ n + 1 = omega (arith, length.1.counted) in
    let masked : (i : ℕ) → bit_at m i ≡ min (bit_at marks i) (bit_at (2 ^ (count - 1) - 1) i) = λ i.
    bit_at_and marks mask i ∙ ap (λ w. min (bit_at marks i) (bit_at w i)) is_mask in
    let both : 1 ≤ n → (bit_at marks (n - 1) ≡ 1) × (bit_at (2 ^ (count - 1) - 1) (n - 1) ≡ 1) = λ some.
    let one = length.1.top some in
    let of_two = masked (n - 1) in
    let small_mark = bit_at-lt marks (n - 1) in
    let small_mask = bit_at-lt (2 ^ (count - 1) - 1) (n - 1) in
    (omega (arith, one, of_two, small_mark, small_mask), omega (arith, one, of_two, small_mark, small_mask)) in
    record {
      least = omega (arith, kept);
      most = grind (arith, cases_lt n count, bit_at_ones_above);
      redundant = λ i above within. redundant_where_none _ _ (marks_are i (omega arith)) (omega (
        arith,
        masked i,
        length.1.above i (omega (arith, kept)),
        bit_at_ones (count - 1) i (omega (arith, within)),
      ));
      needed = λ some.
          let index : 65 - count_leading_zeros 64 m - 2 ≡ n - 1 = omega (arith, kept) in
          let one = (both (omega (arith, kept))).0 in
          ap (is_redundant_above block) index
          ∙ needed_where_one _ _ (marks_are (n - 1) (omega (arith, length.1.counted))) one;
    }
