-- The variables of one code: all are skipped, or none is and all have one size, also among those that are kept.
use Rattle.std.proofs.Common.{◌≡◌, ℕ, ◌∙◌, ◌==◌, Bool, true, false, not, ◌&&◌, ◌||◌, List, [], ◌∷◌, ◌++◌, refl, ap}
use Rattle.std.proofs.Common.{sym, subst, inl, inr, ◌⊎◌, Option, Some, None, if◌then◌else◌, arith}
use Rattle.std.specs.Prelude.{bytes_eq, filter, find}
use Rattle.std.specs.List.{list_any}
use Rattle.std.proofs.lemmas.Bool.{cases_Bool, false≢true, eqb-true, eq-eqb}
use Rattle.std.proofs.lemmas.Slice.Eq.{bytes_eq-Decides}
use Rattle.vcd_text.specs.Grammar.{VariableDeclaration, is_skipped, may_have_code}

-- ---- texts

pub same_bytes : (a b : List ℕ) → bytes_eq a b ≡ true → a ≡ b
same_bytes a b same = (bytes_eq-Decides a b).0 same

pub bytes_turned : (a b : List ℕ) → bytes_eq a b ≡ bytes_eq b a
bytes_turned a b = grind (arith, bytes_eq-Decides, cases_Bool)

pub bytes_same : (a b : List ℕ) → a ≡ b → bytes_eq a b ≡ true
bytes_same a b same = (bytes_eq-Decides a b).1 same

-- ---- a variable is in a list

abbrev pub IsIn : VariableDeclaration → List VariableDeclaration → Type 0
IsIn d [] = ⊥
IsIn d (e ∷ ds) = (e ≡ d) ⊎ IsIn d ds

pub in_first : (d : VariableDeclaration) (ds es : List VariableDeclaration) → IsIn d ds → IsIn d (ds ++ es)
in_first d [] es is = absurd is
in_first d (e ∷ ds) es (inl same) = inl same
in_first d (e ∷ ds) es (inr is) = inr (in_first d ds es is)

pub in_last : (d : VariableDeclaration) (ds : List VariableDeclaration) → IsIn d (ds ++ d ∷ [])
in_last d [] = inl refl
in_last d (e ∷ ds) = inr (in_last d ds)

pub in_one_more : (d e : VariableDeclaration) (ds : List VariableDeclaration) → IsIn d (ds ++ e ∷ [])
    → IsIn d ds ⊎ (e ≡ d)
in_one_more d e [] (inl same) = inr same
in_one_more d e [] (inr none) = absurd none
in_one_more d e (x ∷ ds) (inl same) = inl (inl same)
in_one_more d e (x ∷ ds) (inr is) = elim (in_one_more d e ds is) [
  | inl before ↦ inl (inr before)
  | inr same ↦ inr same
]

module _ (test : VariableDeclaration → Bool) where
  pub in_filter : (d : VariableDeclaration) (ds : List VariableDeclaration) → IsIn d (filter test ds)
      → IsIn d ds × (test d ≡ true)
  in_filter d [] is = absurd is
  in_filter d (e ∷ ds) is = by_test (test e) refl is (λ later. in_filter d ds later)
    where
      by_test : (b : Bool) → test e ≡ b → IsIn d (if b then e ∷ filter test ds else filter test ds)
          → (IsIn d (filter test ds) → IsIn d ds × (test d ≡ true)) → IsIn d (e ∷ ds) × (test d ≡ true)
      by_test true passes (inl same) next = (inl same, ap test (sym same) ∙ passes)
      by_test true passes (inr later) next = (inr (next later).0, (next later).1)
      by_test false fails later next = (inr (next later).0, (next later).1)

  pub filter_in : (d : VariableDeclaration) (ds : List VariableDeclaration) → IsIn d ds → test d ≡ true
      → IsIn d (filter test ds)
  filter_in d [] is passes = absurd is
  filter_in d (e ∷ ds) is passes = by_test (test e) refl is (λ later. filter_in d ds later passes)
    where
      by_test : (b : Bool) → test e ≡ b → IsIn d (e ∷ ds) → (IsIn d ds → IsIn d (filter test ds))
          → IsIn d (if b then e ∷ filter test ds else filter test ds)
      by_test true it (inl same) next = inl same
      by_test true it (inr later) next = inr (next later)
      by_test false it (inl same) next = absurd (false≢true (sym it ∙ ap test same ∙ passes))
      by_test false it (inr later) next = next later

  pub found_in : (a : VariableDeclaration) (ds : List VariableDeclaration) → find test ds ≡ Some a
      → IsIn a ds × (test a ≡ true)
  found_in a [] found = absurd (cc)
  found_in a (e ∷ ds) found = by_test (test e) refl found (λ later. found_in a ds later)
    where
      by_test : (b : Bool) → test e ≡ b → (if b then Some e else find test ds) ≡ Some a
          → (find test ds ≡ Some a → IsIn a ds × (test a ≡ true)) → IsIn a (e ∷ ds) × (test a ≡ true)
      by_test true it is next = let same : e ≡ a = cc in (inl same, ap test (sym same) ∙ it)
      by_test false it is next = (inr (next is).0, (next is).1)

  pub some_found : (d : VariableDeclaration) (ds : List VariableDeclaration) → IsIn d ds → test d ≡ true
      → (a : VariableDeclaration) × (find test ds ≡ Some a)
  some_found d [] is passes = absurd is
  some_found d (e ∷ ds) is passes = by_test (test e) refl is (λ later. some_found d ds later passes)
    where
      by_test : (b : Bool) → test e ≡ b → IsIn d (e ∷ ds)
          → (IsIn d ds → (a : VariableDeclaration) × (find test ds ≡ Some a))
          → (a : VariableDeclaration) × ((if b then Some e else find test ds) ≡ Some a)
      by_test true it one next = (e, refl)
      by_test false it (inl same) next = absurd (false≢true (sym it ∙ ap test same ∙ passes))
      by_test false it (inr later) next = next later

  pub any_in : (ds : List VariableDeclaration) → list_any test ds ≡ true
      → (d : VariableDeclaration) × IsIn d ds × (test d ≡ true)
  any_in [] any = absurd (false≢true any)
  any_in (e ∷ ds) any = by_test (test e) refl any (λ later. any_in ds later)
    where
      by_test : (b : Bool) → test e ≡ b → (b || list_any test ds) ≡ true
          → (list_any test ds ≡ true → (d : VariableDeclaration) × IsIn d ds × (test d ≡ true))
          → (d : VariableDeclaration) × IsIn d (e ∷ ds) × (test d ≡ true)
      by_test true it is next = (e, inl refl, it)
      by_test false it is next = let rest = next is in (rest.0, inr rest.1, rest.2)

  pub in_any : (d : VariableDeclaration) (ds : List VariableDeclaration) → IsIn d ds → test d ≡ true
      → list_any test ds ≡ true
  in_any d [] is passes = absurd is
  in_any d (e ∷ ds) (inl same) passes = rw (ap test same ∙ passes) refl
  in_any d (e ∷ ds) (inr later) passes = ap (λ b. test e || b) (in_any d ds later passes) ∙ or_true (test e)
    where
      or_true : (b : Bool) → (b || true) ≡ true
      or_true true = refl
      or_true false = refl

-- ---- the status of a variable

-- none if it is skipped, or its size
abbrev pub status : VariableDeclaration → Option ℕ
status d = if is_skipped d then None else Some d.size

abbrev may : (a_skipped b_skipped : Bool) (m n : ℕ) → Bool
may x y m n = (x && y) || (not x && not y && (m == n))

abbrev size_if : Bool → ℕ → Option ℕ
size_if x n = if x then None else Some n

may_have_same : (x y : Bool) (m n : ℕ) → may x y m n ≡ true → size_if x m ≡ size_if y n
may_have_same true true m n is = refl
may_have_same true false m n is = absurd (false≢true is)
may_have_same false true m n is = absurd (false≢true is)
may_have_same false false m n is = ap Some (eqb-true m n is)

same_may_have : (x y : Bool) (m n : ℕ) → size_if x m ≡ size_if y n → may x y m n ≡ true
same_may_have true true m n is = refl
same_may_have true false m n is = absurd (cc)
same_may_have false true m n is = absurd (cc)
same_may_have false false m n is = let same : m ≡ n = cc in eq-eqb m n same

-- the variables of one code have one status
abbrev pub HasOneStatus : List VariableDeclaration → Type 0
HasOneStatus ds = (a b : VariableDeclaration) → IsIn a ds → IsIn b ds → a.code ≡ b.code → status a ≡ status b

abbrev pub first_of : List ℕ → List VariableDeclaration → Option VariableDeclaration
first_of code ds = find (λ e. bytes_eq code e.code) ds

pub status_with : (ds : List VariableDeclaration) (d : VariableDeclaration) → HasOneStatus ds
    → may_have_code (first_of d.code ds) d ≡ true → HasOneStatus (ds ++ d ∷ [])
status_with ds d one may_have a b a_in b_in same = elim (in_one_more a d ds a_in) [
  | inl a_before ↦ elim (in_one_more b d ds b_in) [
    | inl b_before ↦ one a b a_before b_before same
    | inr is ↦ before_new a a_before (same ∙ ap (λ (v : VariableDeclaration). v.code) (sym is)) ∙ ap status is
  ]
  | inr is ↦ elim (in_one_more b d ds b_in) [
    | inl b_before ↦ sym (before_new b b_before (sym same ∙ ap (λ (v : VariableDeclaration). v.code) (sym is))
        ∙ ap status is)
    | inr too ↦ ap status (sym is ∙ too)
  ]
]
  where
    before_new : (x : VariableDeclaration) → IsIn x ds → x.code ≡ d.code → status x ≡ status d
    before_new x x_in x_code =
        let found = some_found (λ e. bytes_eq d.code e.code) x ds x_in (bytes_same d.code x.code (sym x_code)) in
        let is = found_in (λ e. bytes_eq d.code e.code) found.0 ds found.1 in
        let again : may_have_code (Some found.0) d ≡ true = subst (λ o. may_have_code o d ≡ true) found.1 may_have in
        one x found.0 x_in is.0 (x_code ∙ same_bytes d.code found.0.code is.1)
        ∙ may_have_same (is_skipped found.0) (is_skipped d) found.0.size d.size again

pub status_filtered : (test : VariableDeclaration → Bool) (ds : List VariableDeclaration) → HasOneStatus ds
    → HasOneStatus (filter test ds)
status_filtered test ds one a b a_in b_in same =
    one a b (in_filter test a ds a_in).0 (in_filter test b ds b_in).0 same

pub may_follow : (ds : List VariableDeclaration) (d : VariableDeclaration)
    → ((a : VariableDeclaration) → IsIn a ds → a.code ≡ d.code → status a ≡ status d)
    → may_have_code (first_of d.code ds) d ≡ true
may_follow ds d one = by_found (first_of d.code ds) refl
  where
    by_found : (o : Option VariableDeclaration) → first_of d.code ds ≡ o → may_have_code o d ≡ true
    by_found None is = refl
    by_found (Some a) is =
        let found = found_in (λ e. bytes_eq d.code e.code) a ds is in
        same_may_have (is_skipped a) (is_skipped d) a.size d.size (one a found.0 (sym (same_bytes d.code a.code
        found.1)))

-- the first variable of the code of another one has its status
pub first_found : (ds : List VariableDeclaration) (d : VariableDeclaration) → HasOneStatus ds → IsIn d ds
    → (a : VariableDeclaration) × (first_of d.code ds ≡ Some a) × (status a ≡ status d)
first_found ds d one is =
    let found = some_found (λ e. bytes_eq d.code e.code) d ds is (bytes_same d.code d.code refl) in
    let at = found_in (λ e. bytes_eq d.code e.code) found.0 ds found.1 in (
      found.0,
      found.1,
      one found.0 d at.0 is (sym (same_bytes d.code found.0.code at.1)),
    )
