-- There are always fresh codes, no two of them are the same, and they come in the order of positions.
use Rattle.std.proofs.Common.{◌≡◌, ℕ, zero, suc, ◌+◌, ◌<◌, ◌≤◌, Bool, true, false, not, ◌∙◌, ◌&&◌, ◌||◌, List, [], ◌∷◌}
use Rattle.std.proofs.Common.{◌++◌, map, length, if◌then◌else◌, get_or, add-one, refl, sym, ap, arith, inl, inr, subst}
use Rattle.std.proofs.Common.{◌-◌, Option, Some, None}
use Rattle.std.specs.Prelude.{bytes_eq, is_some}
use Rattle.std.specs.List.{filter, range_with_len, list_all}
use Rattle.std.proofs.lemmas.Bool.{cases_Bool, cases_lt, and_parts, and_from, false≢true}
use Rattle.std.proofs.lemmas.List.{append-nil, length-append, get_or_append_left}
use Rattle.std.proofs.lemmas.List.FromFn.{filter_of_map_range_with_len_more, length-map-range_with_len}
use Rattle.std.proofs.lemmas.List.Filters.{length-filter_both}
use Rattle.std.proofs.Math.Seq.{get_or-append_seam}
use Rattle.vcd_core.specs.Word.{is_word, is_white_space}
use Rattle.vcd_text.specs.Items.{end_word}
use Rattle.vcd_text.specs.Grammar.{ParseState, VariableDeclaration, variable_of}
use Rattle.vcd_text.specs.Text.{code_of}
use Rattle.vcd_amend.specs.Amendment.{first_with_code}
use Rattle.vcd_amend.specs.FreshCodes.{is_fresh, fresh_codes, fresh_code, AreFresh, FreshCodesAreFresh}
use Rattle.vcd_amend.specs.FreshCodes.{FreshCodesAreInOrder}
use Rattle.vcd_text.proofs.shared.CodesDiffer.{codes_differ, code_not_empty, code_no_space}
use Rattle.vcd_amend.proofs.amended.OneCode.{same_bytes, differ}

-- ---- how many codes are not fresh

abbrev codes_from : (a n : ℕ) → List (List ℕ)
codes_from a n = map code_of (range_with_len a n)

-- how many pass a test
abbrev tally : (List ℕ → Bool) → List (List ℕ) → ℕ
tally p xs = length (filter p xs)

none_later : (j a n : ℕ) → j < a → tally (λ c. bytes_eq c (code_of j)) (codes_from a n) ≡ 0
none_later j a zero early = refl
none_later j a (suc n) early =
    rw (differ (code_of a) (code_of j) (λ same. let is = codes_differ a j same in absurd (omega (arith, is))))
    (none_later j (a + 1) n (omega arith))

-- a code has one position
at_most_one : (b : List ℕ) (a n : ℕ) → tally (λ c. bytes_eq c b) (codes_from a n) ≤ 1
at_most_one b a zero = omega arith
at_most_one b a (suc n) = elim (cases_Bool (bytes_eq (code_of a) b)) [
  | inl here ↦
      let none = subst (λ b. tally (λ c. bytes_eq c b) (codes_from (a + 1) n) ≡ 0) (same_bytes (code_of a) b here)
      (none_later a (a + 1) n (omega arith)) in
      rw here (omega (arith, none))
  | inr beside ↦ rw beside (at_most_one b (a + 1) n)
]

-- what passes one test passes one of two others
count_of_either : (p q r : List ℕ → Bool) → ((x : List ℕ) → p x ≡ true → (q x || r x) ≡ true) → (xs : List (List ℕ))
    → tally p xs ≤ tally q xs + tally r xs
count_of_either p q r either [] = omega arith
count_of_either p q r either (x ∷ xs) =
    let rest = count_of_either p q r either xs in
    elim (cases_Bool (p x)) [
      | inl passes ↦ elim (cases_Bool (q x)) [
        | inl first ↦ elim (cases_Bool (r x)) [
          | inl second ↦ rw (passes, first, second) (omega (arith, rest))
          | inr none ↦ rw (passes, first, none) (omega (arith, rest))
        ]
        | inr beside ↦ elim (cases_Bool (r x)) [
          | inl second ↦ rw (passes, beside, second) (omega (arith, rest))
          | inr none ↦
              let never : false ≡ true = sym (rw (beside, none) refl) ∙ either x passes in absurd (false≢true never)
        ]
      ]
      | inr fails ↦ elim (cases_Bool (q x)) [
        | inl first ↦ elim (cases_Bool (r x)) [
          | inl second ↦ rw (fails, first, second) (omega (arith, rest))
          | inr none ↦ rw (fails, first, none) (omega (arith, rest))
        ]
        | inr beside ↦ elim (cases_Bool (r x)) [
          | inl second ↦ rw (fails, beside, second) (omega (arith, rest))
          | inr none ↦ rw (fails, beside, none) rest
        ]
      ]
    ]

none_of_none : (xs : List (List ℕ)) → tally (λ c. is_some (first_with_code c [])) xs ≡ 0
none_of_none [] = refl
none_of_none (x ∷ xs) = none_of_none xs

-- variables have at most one code each
codes_of_variables : (ds : List VariableDeclaration) (a n : ℕ)
    → tally (λ c. is_some (first_with_code c ds)) (codes_from a n) ≤ length ds
codes_of_variables [] a n = let none = none_of_none (codes_from a n) in omega (arith, none)
codes_of_variables (d ∷ ds) a n =
    let rest = codes_of_variables ds a n in
    let one = at_most_one d.code a n in
    let all = count_of_either (λ c. is_some (first_with_code c (d ∷ ds))) (λ c. bytes_eq c d.code)
    (λ c. is_some (first_with_code c ds)) either (codes_from a n) in
    omega (arith, rest, one, all)
  where
    by_test : (b : Bool) (x : List ℕ) → is_some (if b then Some d else first_with_code x ds) ≡ true
        → (b || is_some (first_with_code x ds)) ≡ true
    by_test true x some = refl
    by_test false x some = some

    either : (x : List ℕ) → is_some (first_with_code x (d ∷ ds)) ≡ true
        → (bytes_eq x d.code || is_some (first_with_code x ds)) ≡ true
    either x some = by_test (bytes_eq x d.code) x some

module _ (s : ParseState) where
  not_fresh : (x : List ℕ) → not (is_fresh s x) ≡ true → (is_some (variable_of s x) || bytes_eq x end_word) ≡ true
  not_fresh x fails = by_tests (is_some (variable_of s x)) (bytes_eq x end_word) fails
    where
      by_tests : (a b : Bool) → not (not a && not b) ≡ true → (a || b) ≡ true
      by_tests true b fails = refl
      by_tests false true fails = refl
      by_tests false false fails = absurd (false≢true fails)

  -- all but these are fresh
  enough : (n : ℕ) → n ≤ length (fresh_codes s n) + length s.declared + 1
  enough n =
      let parts = length-filter_both (is_fresh s) (λ c. not (is_fresh s c)) (λ c. refl) (codes_from 0 n) in
      let all = count_of_either (λ c. not (is_fresh s c)) (λ c. is_some (variable_of s c)) (λ c. bytes_eq c end_word)
      not_fresh (codes_from 0 n) in
      let had = codes_of_variables s.declared 0 n in
      let one = at_most_one end_word 0 n in
      let long = length-map-range_with_len code_of 0 n in
      omega (arith, parts, all, had, one, long)

  -- ---- one position more

  more : (n : ℕ) → fresh_codes s (n + 1)
      ≡ fresh_codes s n ++ (if is_fresh s (code_of n) then code_of n ∷ [] else [])
  more n = filter_of_map_range_with_len_more (is_fresh s) code_of 0 n n (omega arith)

  pub one_longer : (n : ℕ) → is_fresh s (code_of n) ≡ true → length (fresh_codes s (n + 1)) ≡ length (fresh_codes s n) +
      1
  one_longer n fresh = ap length (more n) ∙ length-append (fresh_codes s n) _ ∙ rw fresh refl

  pub as_long : (n : ℕ) → is_fresh s (code_of n) ≡ false → length (fresh_codes s (n + 1)) ≡ length (fresh_codes s n)
  as_long n taken = ap length (more n) ∙ rw taken (ap length (append-nil (fresh_codes s n)))

  no_shorter : (n : ℕ) → length (fresh_codes s n) ≤ length (fresh_codes s (n + 1))
  no_shorter n = elim (cases_Bool (is_fresh s (code_of n))) [
    | inl fresh ↦ let long = one_longer n fresh in omega (arith, long)
    | inr taken ↦ let long = as_long n taken in omega (arith, long)
  ]

  -- more positions have no fewer fresh codes
  grows : (n k : ℕ) → length (fresh_codes s n) ≤ length (fresh_codes s (n + k))
  grows n zero =
      let same : n ≡ n + 0 = omega arith in
      subst (λ m. length (fresh_codes s n) ≤ length (fresh_codes s m)) same (omega arith)
  grows n (suc k) =
      let here = no_shorter n in
      let rest = grows (n + 1) k in
      let same : n + 1 + k ≡ n + suc k = omega arith in
      subst (λ m. length (fresh_codes s n) ≤ length (fresh_codes s m)) same (omega (arith, here, rest))

  -- after a fresh one there are more
  grows_past : (p q : ℕ) → p < q → is_fresh s (code_of p) ≡ true
      → length (fresh_codes s p) < length (fresh_codes s q)
  grows_past p q less fresh =
      let long = one_longer p fresh in
      let same : p + 1 + (q - (p + 1)) ≡ q = omega arith in
      let rest = subst (λ m. length (fresh_codes s (p + 1)) ≤ length (fresh_codes s m)) same
      (grows (p + 1) (q - (p + 1))) in
      omega (arith, long, rest)

  -- ---- where a fresh code is

  record HasPosition (n most : ℕ) : Type 0 where
    position : ℕ
    fresh : is_fresh s (code_of position) ≡ true
    count : length (fresh_codes s position) ≡ n
    is : get_or (fresh_codes s most) n [] ≡ code_of position

  module _ (n : ℕ) where
    one_more : (most : ℕ) → (n < length (fresh_codes s most) → HasPosition n most)
        → n < length (fresh_codes s (most + 1)) → HasPosition n (most + 1)
    one_more most again some = elim (cases_lt n (length (fresh_codes s most))) [
      | inl early ↦
          let at = again early in
          record {
            position = at.position;
            fresh = at.fresh;
            count = at.count;
            is = ap (λ l. get_or l n []) (more most) ∙ get_or_append_left (fresh_codes s most) _ [] n early ∙ at.is;
          }
      | inr late ↦ by_test (is_fresh s (code_of most)) refl late
    ]
      where
        by_test : (b : Bool) → is_fresh s (code_of most) ≡ b → length (fresh_codes s most) ≤ n
            → HasPosition n (most + 1)
        by_test true fresh late =
            let long = one_longer most fresh in
            let last : length (fresh_codes s most) ≡ n = omega (arith, long, some) in
            record {
              position = most;
              fresh = fresh;
              count = last;
              is = ap (λ l. get_or l n []) (more most) ∙ ap (λ (b : Bool). get_or (fresh_codes s most
                  ++ (if b then code_of most ∷ [] else [])) n []) fresh ∙ subst (λ m. get_or (fresh_codes s most
                  ++ code_of most ∷ []) m [] ≡ code_of most) last
                  (get_or-append_seam (fresh_codes s most) (code_of most) [] []);
            }
        by_test false taken late = let long = as_long most taken in absurd (omega (arith, long, some))

    find_it : (most : ℕ) → n < length (fresh_codes s most) → HasPosition n most
    find_it zero some = absurd (omega arith)
    find_it (suc most) some = subst (HasPosition n) (add-one most) (one_more most (find_it most) (subst (λ m. n < length
        (fresh_codes s m)) (sym (add-one most)) some))

    position_of : HasPosition n (n + length s.declared + 2)
    position_of = let all = enough (n + length s.declared + 2) in find_it (n + length s.declared + 2)
        (omega (arith, all))

  fresh_parts : (p : ℕ) → is_fresh s (code_of p) ≡ true
      → (not (is_some (variable_of s (code_of p))) ≡ true) × (not (bytes_eq (code_of p) end_word) ≡ true)
  fresh_parts p fresh = and_parts _ _ fresh

  word_at : (p : ℕ) → is_fresh s (code_of p) ≡ true → is_word (code_of p) ≡ true
  word_at p fresh = word (code_of p) (code_not_empty p) (code_no_space p) (fresh_parts p fresh).1
    where
      word : (w : List ℕ) → 0 < length w → list_all (λ b. not (is_white_space b)) w ≡ true
          → not (bytes_eq w end_word) ≡ true → is_word w ≡ true
      word [] some spaces no_end = absurd (omega arith)
      word (b ∷ bs) some spaces no_end = grind (arith, and_from)

  none_there : (o : Option VariableDeclaration) → not (is_some o) ≡ true → o ≡ None
  none_there None none = refl
  none_there (Some d) none = absurd (false≢true none)

  are_fresh : AreFresh s (fresh_code s)
  are_fresh = record {
    words = λ n. let at = position_of n in subst (λ c. is_word c ≡ true) (sym at.is) (word_at at.position at.fresh);
    unknown = λ n.
        let at = position_of n in
        subst (λ c. variable_of s c ≡ None) (sym at.is) (none_there _ (fresh_parts at.position at.fresh).0);
    apart = λ m n same.
        let at = position_of m in
        let there = position_of n in
        let one : at.position ≡ there.position = codes_differ at.position there.position (sym at.is ∙ same ∙ there.is)
        in
        sym at.count ∙ ap (λ p. length (fresh_codes s p)) one ∙ there.count;
  }

  pub in_order : (p : ℕ) → is_fresh s (code_of p) ≡ true → fresh_code s (length (fresh_codes s p)) ≡ code_of p
  in_order p fresh =
      let at = position_of (length (fresh_codes s p)) in
      at.is ∙ ap code_of (one at.position at.fresh at.count)
    where
      one : (q : ℕ) → is_fresh s (code_of q) ≡ true → length (fresh_codes s q) ≡ length (fresh_codes s p) → q ≡ p
      one q other same = elim (cases_lt q p) [
        | inl less ↦ let more = grows_past q p less other in absurd (omega (arith, more, same))
        | inr past ↦ elim (cases_lt p q) [
          | inl less ↦ let more = grows_past p q less fresh in absurd (omega (arith, more, same))
          | inr back ↦ omega arith
        ]
      ]

pub fresh_codes_are_fresh : FreshCodesAreFresh
fresh_codes_are_fresh s = are_fresh s

pub fresh_codes_are_in_order : FreshCodesAreInOrder
fresh_codes_are_in_order s p fresh = in_order s p fresh
