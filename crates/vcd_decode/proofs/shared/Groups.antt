-- A list cut into groups: none, a short one, or a whole one in front of the others.
use Rattle.std.proofs.Common.{◌≡◌, ℕ, zero, suc, ◌+◌, ◌-◌, ◌*◌, ◌/◌, ◌<◌, ◌≤◌, List, [], ◌∷◌, ◌++◌, map, length, take}
use Rattle.std.proofs.Common.{drop, refl, sym, ap, ◌∙◌, arith}
use Rattle.std.specs.List.{range_with_len}
use Rattle.std.specs.Fork.{slice_chunk}
use Rattle.std.specs.Slice.Iter.{chunk_count}
use Rattle.std.proofs.Math.Nat.{add-div_left, div-eq_of_lt, div-eq_of_lt-le, div-le_self}
use Rattle.std.proofs.Math.Seq.{take-append_seam, drop-append-add}
use Rattle.std.proofs.lemmas.List.{length-append, take_all}
use Rattle.vcd_decode.specs.Groups.{groups_of}

-- ---- how many groups there are

count_none : (n : ℕ) → chunk_count 0 n ≡ 0
count_none n = omega arith

count_short : (m n : ℕ) → 0 < m → m ≤ n → chunk_count m n ≡ 1
count_short m n some short =
    let one : (m + n - 1) / n ≡ 1 = div-eq_of_lt-le n (omega arith) (omega arith) in
    omega (arith, one)

-- n more items in front give one more group
count_more : (m n : ℕ) → 0 < n → chunk_count (n + m) n ≡ suc (chunk_count m n)
count_more m n some =
    let same : n + m + n - 1 ≡ n + (m + n - 1) = omega arith in
    let one_more : (n + (m + n - 1)) / n ≡ (m + n - 1) / n + 1 = add-div_left (m + n - 1) some in
    let few = few_parts m in
    omega (arith, ap (λ k. k / n) same, one_more, few)
  where
    few_parts : (m : ℕ) → (m + n - 1) / n ≤ m
    few_parts zero =
        let none : (0 + n - 1) / n ≡ 0 = div-eq_of_lt (omega arith) in
        omega (arith, none)
    few_parts (suc m) =
        let same : suc m + n - 1 ≡ n + m = omega arith in
        let one_more : (n + m) / n ≡ m / n + 1 = add-div_left m some in
        omega (arith, ap (λ k. k / n) same, one_more, div-le_self m n)

-- ---- the groups

pub groups_none : {X : Type 0} (n : ℕ) → groups_of {X = X} n [] ≡ []
unfolding groups_of
groups_none n = ap (λ k. map (slice_chunk [] n) (range_with_len 0 k)) (count_none n)

pub groups_short : {X : Type 0} (n : ℕ) (xs : List X) → 0 < length xs → length xs ≤ n → groups_of n xs ≡ xs ∷ []
unfolding groups_of
groups_short n xs some short =
    ap (λ k. map (slice_chunk xs n) (range_with_len 0 k)) (count_short (length xs) n some short)
    ∙ ap (λ k. take n (drop k xs) ∷ []) {x = 0 * n} {y = 0} (omega arith) ∙ ap (λ ys. ys ∷ []) (take_all n xs short)

-- numbers one further on
map_shifted : {X : Type 0} (f g : ℕ → X) (a n : ℕ) → ((i : ℕ) → f (i + 1) ≡ g i)
    → map f (range_with_len (a + 1) n) ≡ map g (range_with_len a n)
map_shifted f g a zero same = refl
map_shifted f g a (suc n) same = λ i. same a i ∷ map_shifted f g (a + 1) n same i

-- a whole group in front of those of the rest
pub groups_whole : {X : Type 0} (n : ℕ) (c xs : List X) → 0 < n → length c ≡ n
    → groups_of n (c ++ xs) ≡ c ∷ groups_of n xs
unfolding groups_of
groups_whole n c xs some whole =
    let long : length (c ++ xs) ≡ n + length xs = length-append c xs ∙ ap (λ k. k + length xs) whole in
    let count = ap (λ k. chunk_count k n) long ∙ count_more (length xs) n some in
    ap (λ k. map (slice_chunk (c ++ xs) n) (range_with_len 0 k)) count ∙ (λ i. first i ∷ later i)
  where
    first : take n (drop (0 * n) (c ++ xs)) ≡ c
    first = ap (λ k. take n (drop k (c ++ xs))) {x = 0 * n} {y = 0} (omega arith)
        ∙ ap (λ k. take k (c ++ xs)) (sym whole) ∙ take-append_seam c xs

    later : map (slice_chunk (c ++ xs) n) (range_with_len 1 (chunk_count (length xs) n))
        ≡ map (slice_chunk xs n) (range_with_len 0 (chunk_count (length xs) n))
    later = map_shifted (slice_chunk (c ++ xs) n) (slice_chunk xs n) 0 (chunk_count (length xs) n) (λ i.
        ap (λ k. take n (drop k (c ++ xs))) {x = (i + 1) * n} {y = length c + i * n} (omega (arith, whole))
        ∙ ap (take n) (drop-append-add c xs (i * n)))
