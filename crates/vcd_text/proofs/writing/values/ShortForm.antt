-- The value of a change, its short form (a letter at the front is left out if the extension restores it), and
-- the code after it.
use Rattle.std.proofs.Common.{◌≡◌, ◌<◌, ◌≤◌, ◌+◌, ℕ, zero, suc, List, [], ◌∷◌, length, get_or, arith, ◌∙◌, ◌-◌, Bool}
use Rattle.std.proofs.Common.{true, false, cond, ◌&&◌, ◌++◌, drop, refl, sym, ap, Some, None, ◌≢◌, append_assoc}
use Rattle.std.specs.Prelude.{find, unwrap_or}
use Rattle.std.proofs.lemmas.Bool.{cases_lt}
use Rattle.std.proofs.lemmas.List.{drop_all, drop_more}
use Rattle.std.proofs.lemmas.List.Folds.{find-append}
use Rattle.std.specs.List.{join_with_byte}
use Rattle.vcd_core.specs.declared.bit.Bit.{Bit}
use Rattle.vcd_core.specs.declared.wave.Change.{Change}
use Rattle.vcd_core.specs.Wave.{value_from, AreChangesFrom}
use Rattle.vcd_core.proofs.shared.Waves.{value_past, value_early}
use Rattle.vcd_core.specs.declared.bit.Bit.TheVariants.{Zero, X}
use Rattle.vcd_core.specs.Value.{letter_at, same_letter, same_letters, printed_letter}
use Rattle.vcd_core.specs.declared.letter_block.LetterBlock.{LetterBlock}
use Rattle.vcd_core.specs.BlockRows.{HoldsLetters}
use Rattle.vcd_core.specs.inside.value.EqualByLetters.{same_letters-Decides}
use Rattle.vcd_text.specs.Letters.{pad_letter, extension, suffixes, short_form, printed_letters}
use Rattle.vcd_text.specs.inside.writing.Values.{IsShortFormLen, value_before_code}
use Rattle.vcd_text.specs.Items.{spelling}
use Rattle.vcd_text.specs.Text.{item_line, value_item}
use Rattle.vcd_text.proofs.writing.values.LetterBits.{is_redundant_in, lowest, redundant_held}

-- ==== a change at a tick has the value of its wave there

-- a change is at the floor or past it
from_floor : (floor : ℕ) (before : List Bit) (cs : List Change) (k : ℕ) (d : Change)
    → AreChangesFrom floor before cs → k < length cs → floor ≤ (get_or cs k d).tick
from_floor floor before [] k d rise inside = absurd (omega arith)
from_floor floor before (c ∷ cs) zero d (from, other, wide, rest) inside = from
from_floor floor before (c ∷ cs) (suc k) d (from, other, wide, rest) inside =
    grind (arith, from_floor (c.tick + 1) c.value cs k d rest (omega arith))

pub value_standing : (floor : ℕ) (before : List Bit) (cs : List Change) (k t : ℕ) (d : Change)
    → AreChangesFrom floor before cs → k < length cs → (get_or cs k d).tick ≡ t
    → value_from before cs t ≡ (get_or cs k d).value
value_standing floor before [] k t d rise inside at = absurd (omega arith)
value_standing floor before (c ∷ cs) zero t d (from, other, wide, rest) inside at =
    value_past before c cs t (omega arith) ∙ value_early c.value c.value cs (c.tick + 1) t rest (omega arith)
value_standing floor before (c ∷ cs) (suc k) t d (from, other, wide, rest) inside at =
    grind (arith, from_floor, value_past, value_standing (c.tick + 1) c.value cs k t d rest (omega arith) at)

-- ==== the short form of a value: a letter at the front is left out if the extension restores it

-- the letters after those at the front are left out one by one
unfoldable shortened : List Bit → List Bit
shortened [] = []
shortened (a ∷ []) = a ∷ []
shortened (a ∷ b ∷ s) = cond (same_letter (pad_letter (b ∷ [])) a) (shortened (b ∷ s)) (a ∷ b ∷ s)

-- whether the extension of a text is this value
abbrev fits : List Bit → List Bit → Bool
fits w t = same_letters (extension (length w) t) w

-- one more letter in front
fits_more : (a b : Bit) (s t : List Bit) → length t ≤ length (b ∷ s)
    → fits (a ∷ b ∷ s) t ≡ (same_letter (pad_letter (b ∷ [])) a && fits (b ∷ s) t)
fits_more a b s t within = grind (arith, same_letters-Decides)

-- no text is longer than this
abbrev NoLonger : ℕ → List (List Bit) → Type 0
NoLonger n [] = Unit {0}
NoLonger n (t ∷ ts) = (length t ≤ n) × NoLonger n ts

one_more : (n m : ℕ) (ts : List (List Bit)) (t : List Bit) → n ≤ m → NoLonger n ts → length t ≤ m
    → NoLonger m (ts ++ t ∷ [])
one_more n m [] t le all last = (last, tt)
one_more n m (u ∷ ts) t le (first, rest) last = (omega arith, one_more n m ts t le rest last)

no_suffix_longer : (w : List Bit) → NoLonger (length w) (suffixes w)
no_suffix_longer [] = tt
no_suffix_longer (b ∷ s) = grind (arith, one_more, no_suffix_longer s)

-- the first text that fits after one more letter: the same one if the letter is redundant, else
-- none
find_more : (a b : Bit) (s : List Bit) (ts : List (List Bit)) → NoLonger (length (b ∷ s)) ts
    → find (fits (a ∷ b ∷ s)) ts ≡ cond (same_letter (pad_letter (b ∷ [])) a) (find (fits (b ∷ s)) ts) None
find_more a b s [] all = grind arith
find_more a b s (t ∷ ts) (first, rest) = grind (arith, fits_more, find_more a b s ts rest)

-- a value is its own extension
fits_itself : (b : Bit) (s : List Bit) → fits (b ∷ s) (b ∷ s) ≡ true
fits_itself b s = grind (arith, same_letters-Decides)

found : (b : Bit) (s : List Bit) → find (fits (b ∷ s)) (suffixes (b ∷ s)) ≡ Some (shortened (b ∷ s))
unfolding shortened
found b [] = ap (λ r. cond r (Some (b ∷ [])) None) (fits_itself b [])
found a (b ∷ s) =
    let more = find_more a b s (suffixes (b ∷ s)) (no_suffix_longer (b ∷ s)) in
    let rest = found b s in
    let itself = fits_itself a (b ∷ s) in
    grind (arith, find-append, more, rest, itself)

-- the short form leaves out the redundant letters at the front, and no more
short_is : (v : List Bit) → short_form v ≡ shortened v
unfolding short_form shortened
short_is [] = refl
short_is (b ∷ s) = ap (λ o. unwrap_or o (b ∷ s)) (found b s)

-- the letter at k is redundant
redundant_at : (v : List Bit) (k : ℕ) → k + 1 < length v
    → same_letter (pad_letter (get_or v (k + 1) X ∷ [])) (get_or v k X)
    ≡ true → shortened (drop k v) ≡ shortened (drop (k + 1) v)
unfolding shortened
redundant_at v k within redundant = grind (arith, drop_more)

-- the letter at k is not redundant
kept_at : (v : List Bit) (k : ℕ) → k + 1 < length v → same_letter (pad_letter (get_or v (k + 1) X ∷ [])) (get_or v k X)
    ≡ false → shortened (drop k v) ≡ drop k v
unfolding shortened
kept_at v k within len = grind (arith, drop_more)

-- the last letter is never left out
last_kept : (v : List Bit) (k : ℕ) → k + 1 ≡ length v → shortened (drop k v) ≡ drop k v
unfolding shortened
last_kept v k last =
    let one = drop_more v k X (omega arith) ∙ ap (λ l. get_or v k X ∷ l) (drop_all (k + 1) v (omega arith)) in
    ap shortened one ∙ sym one

-- ---- letters counted from the other end

-- redundant letters between two bits are left out
left_out : (v : List Bit) (len more left : ℕ) → 1 ≤ len → left ≡ len + more → left ≤ length v
    → ((i : ℕ) → len ≤ i + 1 → i + 1 < left → is_redundant_in v i ≡ true)
    → shortened (lowest left v) ≡ shortened (lowest len v)
left_out v len zero left least is within redundant = grind (arith, lowest)
left_out v len (suc more) left least is within redundant =
    let k : ℕ = length v - left in
    let here : length v - 1 - (left - 2 + 1) ≡ k = omega arith in
    let there : length v - 1 - (left - 2) ≡ k + 1 = omega arith in
    let further : k + 1 ≡ length v - (left - 1) = omega arith in
    let told : same_letter (pad_letter (get_or v (k + 1) X ∷ [])) (get_or v k X) ≡ true = grind arith in
    redundant_at v k (omega arith) told ∙ ap (λ n. shortened (drop n v)) further
    ∙ left_out v len more (left - 1) least (omega arith) (omega arith) (λ i past below. redundant i past (omega arith))

-- the letter below bit `len` stays: it is the last, or not redundant
stays : (v : List Bit) (len : ℕ) → 1 ≤ len → len ≤ length v → (1 < len → is_redundant_in v (len - 2) ≡ false)
    → shortened (lowest len v) ≡ lowest len v
stays v len least within needed = grind (arith, cases_lt, kept_at, last_kept)

-- the short form: the letters before it are redundant, and its first is not, or is the last
pub short_rest : (v : List Bit) (len : ℕ) → 1 ≤ len → len ≤ length v
    → ((i : ℕ) → len ≤ i + 1 → i + 1 < length v → is_redundant_in v i ≡ true)
    → (1 < len → is_redundant_in v (len - 2) ≡ false) → lowest len v ≡ short_form v
short_rest v len least within redundant needed =
    let all : length v - length v ≡ 0 = omega arith in
    sym (stays v len least within needed) ∙ sym (left_out v len (length v - len) (length v) least (omega arith)
    (omega arith) redundant) ∙ ap (λ n. shortened (drop n v)) all ∙ sym (short_is v)

-- the letters of a block that are left out, after those above them
pub more_redundant : (v : List Bit) (from : ℕ) (block : LetterBlock) (left len rest : ℕ)
    → HoldsLetters Zero v from block → from < left → left ≤ from + 64 → IsShortFormLen (left - from) block len
    → rest ≡ from + len → ((i : ℕ) → left ≤ i + 1 → i + 1 < length v → is_redundant_in v i ≡ true) → (i : ℕ)
    → rest ≤ i + 1 → i + 1 < length v → is_redundant_in v i ≡ true
more_redundant v from block left len rest holds some near is at above i past within =
    let index : from + (i - from) ≡ i = omega (arith, is.least) in
    grind (arith, index, cases_lt, redundant_held)

-- the first of its letters that stays
pub first_needed : (v : List Bit) (from : ℕ) (block : LetterBlock) (count len rest : ℕ) → HoldsLetters Zero v from block
    → count ≤ 64 → from + count ≤ length v → IsShortFormLen count block len → rest ≡ from + len → 1 < len
    → is_redundant_in v (rest - 2) ≡ false
first_needed v from block count len rest holds near within is at more = grind (arith, redundant_held)

-- the state after a test of two letters
pub state_at : (v : List Bit) (k : ℕ) (letter next : Bit) (r b : Bool) → 1 ≤ k → letter ≡ letter_at v k
    → next ≡ letter_at v (k - 1) → r ≡ same_letter (pad_letter (next ∷ [])) letter → r ≡ b
    → is_redundant_in v (k - 1) ≡ b
state_at v k letter next r b some at_k at_next told is = grind arith

-- ==== the part of a value's line before the code, for one bit and for more

pub bit_before_code : (v : List Bit) → length v ≡ 1 → value_before_code v ≡ printed_letter (letter_at v 0) ∷ []
bit_before_code v h1 = grind arith

pub bits_before_code : (v : List Bit) → length v ≢ 1
    → value_before_code v ≡ (98 ∷ []) ++ (printed_letters (short_form v) ++ 32 ∷ [])
bits_before_code v h1 = grind arith

-- the line
pub line_of_value : (v : List Bit) (code : List ℕ) → value_before_code v ++ (code ++ 10 ∷ [])
    ≡ item_line (value_item code v)
line_of_value v code = grind (arith, append_assoc)

-- the same without the line feed
pub words_of_value : (v : List Bit) (code : List ℕ) → value_before_code v ++ code
    ≡ join_with_byte 32 (spelling (value_item code v))
words_of_value v code = grind (arith, append_assoc)
