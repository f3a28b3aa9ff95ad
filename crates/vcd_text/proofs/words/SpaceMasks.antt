-- The bytes of a word, many at a time: the mask of those that are white space shows where it ends.
use Rattle.std.proofs.Common.{◌≡◌, ℕ, ◌+◌, ◌*◌, ◌%◌, ◌^◌, ◌<◌, ◌≤◌, Bool, true, false, not, ◌&&◌, ◌||◌, List, [], ◌∷◌}
use Rattle.std.proofs.Common.{cond, map, length, take, drop, replicate, refl, sym, ap, subst, ◌∙◌, arith, leb, eqb}
use Rattle.std.specs.List.{list_all, prefix_len}
use Rattle.std.specs.Simd.Lanes.{mask_l, zip2, top, chunk}
use Rattle.std.proofs.lemmas.Simd.{zip2_splat, zip2_splat_left, zip2_of_maps, map-map, mask_l-mod, length-chunk}
use Rattle.std.proofs.lemmas.Simd.{chunk-drop, leading_from_mask_l, trailing_mask_l}
use Rattle.std.proofs.lemmas.List.{length-map}
use Rattle.std.proofs.lemmas.List.Folds.{prefix_len-append}
use Rattle.std.proofs.lemmas.List.Sums.{prefix_len-le-length}
use Rattle.std.proofs.lemmas.Bool.{and_from, eq-eqb, ne_eqb}
use Rattle.std.proofs.Math.Numerals.{one-add}
use lib.Bits.{bit_or, bit_and}
use lib.Count.{count_trailing_zeros}
use Rattle.vcd_core.specs.Word.{is_white_space}
use Rattle.vcd_text.specs.inside.Words.{ends_before}
use Rattle.vcd_text.proofs.shared.WordsInTurn.{by_test}

-- a lane of a comparison
abbrev lane : Bool → ℕ
lane b = cond b 255 0

lane_top : (a b c : Bool) → top 7 (bit_or (bit_and (lane a) (lane b)) (lane c)) ≡ (a && b || c)
lane_top true true true = refl
lane_top true true false = refl
lane_top true false true = refl
lane_top true false false = refl
lane_top false true true = refl
lane_top false true false = refl
lane_top false false true = refl
lane_top false false false = refl

abbrev at_most : ℕ → ℕ → ℕ
at_most a b = lane (leb a b)

abbrev same : ℕ → ℕ → ℕ
same a b = lane (eqb a b)

-- the lanes that are from 9 to 13, or 32
abbrev lanes_of : List ℕ → List ℕ
lanes_of v =
    zip2 bit_or (zip2 bit_and (zip2 at_most (replicate 16 9) v) (zip2 at_most v (replicate 16 13)))
    (zip2 same v (replicate 16 32))

pub white_space_mask : (v : List ℕ) → length v ≡ 16
    → mask_l (map (top 7) (lanes_of v)) % 2 ^ 64 ≡ mask_l (map is_white_space v)
white_space_mask v long =
    let control = zip2_of_maps bit_and _ _ v (zip2_splat_left at_most 9 16 v long) (zip2_splat at_most v 16 13 long) in
    let lanes = zip2_of_maps bit_or _ _ v control (zip2_splat same v 16 32 long) in
    ap (λ l. mask_l (map (top 7) l) % 2 ^ 64) lanes ∙ ap (λ l. mask_l l % 2 ^ 64) (map-map (top 7) _ v)
    ∙ (λ i. mask_l (map (λ x. lane_top (leb 9 x) (leb x 13) (eqb x 32) i) v) % 2 ^ 64)
    ∙ mask_l-mod (map is_white_space v) 64 (omega (arith, length-map v is_white_space))

-- ---- the bytes before white space

abbrev goes_on : ℕ → Bool
goes_on b = not (is_white_space b)

-- a set bit is the first that is counted
none_set : (b : Bool) (n l m : ℕ) → n ≤ l → cond (not b) (1 + n) 0 ≡ 1 + l → (n ≡ l → m ≡ 0) → cond b 1 0 + 2 * m ≡ 0
none_set true n l m le e more = let no : ⊥ = omega arith in absurd no
none_set false n l m le e more = let z = more (omega arith) in omega arith

all_go_on : (xs : List ℕ) → prefix_len goes_on xs ≡ length xs → mask_l (map is_white_space xs) ≡ 0
all_go_on [] e = refl
all_go_on (x ∷ xs) e =
    none_set (is_white_space x) _ (length xs) _ (prefix_len-le-length goes_on xs) (omega arith) (all_go_on xs)

-- what goes on in a part, and in the rest if it does in the whole part
abbrev joined : (part rest : List ℕ) → ℕ
joined part rest =
    cond (eqb (prefix_len goes_on part) (length part)) (length part + prefix_len goes_on rest) (prefix_len goes_on part)

by_chunk : (d : List ℕ) (i n : ℕ) → prefix_len goes_on (drop i d) ≡ joined (chunk i n d) (drop (i + n) d)
by_chunk d i n = ap (prefix_len goes_on) (chunk-drop i n d) ∙ prefix_len-append goes_on (chunk i n d) (drop (i + n) d)

-- no white space is among so many bytes
pub none_found : (d : List ℕ) (i n : ℕ) → i + n ≤ length d → mask_l (map is_white_space (chunk i n d)) ≡ 0
    → prefix_len goes_on (drop i d) ≡ n + prefix_len goes_on (drop (i + n) d)
none_found d i n room none =
    let c = chunk i n d in
    by_chunk d i n ∙ ap (λ b. cond b (length c + prefix_len goes_on (drop (i + n) d)) (prefix_len goes_on c))
    (eq-eqb _ _ (leading_from_mask_l is_white_space c none))
    ∙ ap (λ k. k + prefix_len goes_on (drop (i + n) d)) (length-chunk i n d room)

-- the lowest bit is the first white space
first_found : (d : List ℕ) (i n : ℕ) → i + n ≤ length d → n ≤ 64 → 0 < mask_l (map is_white_space (chunk i n d))
    → prefix_len goes_on (drop i d) ≡ count_trailing_zeros 64 (mask_l (map is_white_space (chunk i n d)))
first_found d i n room short some =
    let c = chunk i n d in
    by_chunk d i n ∙ ap (λ b. cond b (length c + prefix_len goes_on (drop (i + n) d)) (prefix_len goes_on c))
    (ne_eqb _ _ (λ (e : prefix_len goes_on c ≡ length c). omega (arith, all_go_on c e)))
    ∙ sym (trailing_mask_l is_white_space 64 c (omega (arith, length-chunk i n d room)) some)

-- these bytes are a word's, and it ends after them
abbrev pub IsWordLen : List ℕ → ℕ → Type 0
IsWordLen d n = (n ≤ length d) × (list_all goes_on (take n d) ≡ true) × (ends_before true (drop n d) ≡ true)

word_goes_on : (x : ℕ) (xs : List ℕ) (n : ℕ) → is_white_space x ≡ false → IsWordLen xs n → IsWordLen (x ∷ xs) (1 + n)
word_goes_on x xs n other (within, no_space, ends) = subst (IsWordLen (x ∷ xs)) (sym (one-add n)) (
  omega (arith, within),
  and_from (goes_on x) (list_all goes_on (take n xs)) (ap not other) no_space,
  ends,
)

whole_word : (d : List ℕ) → IsWordLen d (prefix_len goes_on d)
whole_word [] = (omega arith, refl, refl)
whole_word (x ∷ xs) =
    by_test (λ space. IsWordLen (x ∷ xs) (cond (not space) (1 + prefix_len goes_on xs) 0)) (is_white_space x)
    (λ space. (omega arith, refl, space)) (λ other. word_goes_on x xs _ other (whole_word xs))

pub is_word_len : (d : List ℕ) (n : ℕ) → prefix_len goes_on d ≡ n → IsWordLen d n
is_word_len d n is = subst (IsWordLen d) is (whole_word d)

pub found_word_len : (d : List ℕ) (len mask : ℕ) → len + 16 ≤ length d
    → prefix_len goes_on d ≡ len + prefix_len goes_on (drop len d)
    → mask ≡ mask_l (map is_white_space (chunk len 16 d)) → 0 < mask → IsWordLen d (len + count_trailing_zeros 64 mask)
found_word_len d len mask room so_far is some = is_word_len d _ (so_far ∙ ap (λ n. len + n)
    (first_found d len 16 room (omega arith) (omega (arith, is)) ∙ ap (count_trailing_zeros 64) (sym is)))
