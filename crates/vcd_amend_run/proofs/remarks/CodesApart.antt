-- Variables of a code are left apart just if they have different codes.
use Rattle.std.proofs.Common.{◌≡◌, ◌∙◌, ◌||◌, not, ℕ, Bool, true, false, List, [], ◌∷◌, map, refl, sym, ap}
use Rattle.std.proofs.Common.{inl, inr, subst, All, if◌then◌else◌}
use Rattle.std.specs.Prelude.{bytes_eq}
use Rattle.std.specs.List.{flat_map, list_any}
use Rattle.std.proofs.lemmas.Bool.{cases_Bool, false≢true}
use Rattle.std.proofs.lemmas.List.{map-append}
use Rattle.std.proofs.lemmas.List.Elements.{All-nil, All-cons, All-head, All-tail, All-weaker, All-append, All-map}
use Rattle.std.proofs.lemmas.List.Folds.{list_any-append, list_any_none}
use Rattle.std.proofs.lemmas.Slice.Eq.{bytes_eq-Decides}
use Rattle.vcd_text.specs.Grammar.{VariableDeclaration}
use Rattle.vcd_copy.proofs.pieces.Cuts.{all_parts}
use Rattle.vcd_amend.specs.Amendment.{variable_left}
use Rattle.vcd_amend_run.specs.OutputRemarks.{has_other_than}
use Rattle.vcd_amend_run.specs.inside.OutputRemarks.{VariableFate, codes_in_place, is_fated_apart, variables_by_fate}
use Rattle.vcd_amend.proofs.amended.OneCode.{same_bytes}
use Rattle.vcd_amend.proofs.shared.Lists.{all_of_map}

-- whether variables of this code are among these
abbrev pub has_code_among : (code : List ℕ) → List VariableDeclaration → Bool
has_code_among code ds = list_any (λ d. bytes_eq code d.code) ds

-- ---- lists of one value

pub one_of_all : {A : Type 0} (xs : List A) (c : A) → All (λ x. x ≡ c) xs → All (λ x. All (λ y. x ≡ y) xs) xs
one_of_all xs c all = All-weaker (λ x. x ≡ c) (λ x. All (λ y. x ≡ y) xs)
    (λ x is. All-weaker (λ y. y ≡ c) (λ y. x ≡ y) (λ y its. is ∙ sym its) xs all) xs all

pub all_of_one : {A : Type 0} (xs : List A) (d : A) → All (λ x. All (λ y. x ≡ y) xs) xs
    → (c : A) × All (λ x. x ≡ c) xs
all_of_one [] d all = (d, All-nil (λ x. x ≡ d))
all_of_one (x ∷ xs) d all = (
  x,
  All-weaker (λ y. x ≡ y) (λ y. y ≡ x) (λ y is. sym is) (x ∷ xs) (All-head (λ y. All (λ z. y ≡ z) (x ∷ xs)) x xs all),
)

-- ---- tests that fail

first_fails : (a b : Bool) → (a || b) ≡ false → a ≡ false
first_fails true b none = none
first_fails false b none = refl

second_fails : (a b : Bool) → (a || b) ≡ false → b ≡ false
second_fails true b none = absurd (false≢true (sym none))
second_fails false b none = none

all_fail : {A : Type 0} (p : A → Bool) (xs : List A) → list_any p xs ≡ false → All (λ x. p x ≡ false) xs
all_fail p [] none = All-nil (λ x. p x ≡ false)
all_fail p (x ∷ xs) none = All-cons (λ y. p y ≡ false) x xs (first_fails (p x) (list_any p xs) none)
    (all_fail p xs (second_fails (p x) (list_any p xs) none))

not_false : (b : Bool) → not b ≡ false → b ≡ true
not_false true holds = refl
not_false false holds = sym holds

module _ (k : List ℕ) where
  -- what holds of the code that is left of a variable, if this is its code in the file
  abbrev pub HasCode : (P : List ℕ → Type 0) → VariableFate → Type 0
  HasCode P v = bytes_eq k v.variable.code ≡ true → All (λ d. P d.code) (variable_left v.fate v.variable)

  abbrev left_of : VariableFate → List VariableDeclaration
  left_of v = if bytes_eq k v.variable.code then variable_left v.fate v.variable else []

  abbrev code_of : VariableDeclaration → List ℕ
  code_of d = d.code

  pub each_of_codes : (P : List ℕ → Type 0) (vs : List VariableFate) → All P (codes_in_place vs k)
      → All (HasCode P) vs
  each_of_codes P [] all = All-nil (HasCode P)
  each_of_codes P (v ∷ vs) all =
      let rest : List VariableDeclaration = flat_map left_of vs in
      let both = all_parts P (map code_of (left_of v)) (map code_of rest)
      (subst (All P) (map-append code_of (left_of v) rest) all) in
      let new : List VariableDeclaration = variable_left v.fate v.variable in
      All-cons (HasCode P) v vs (λ is. all_of_map P code_of new
      (subst (λ (b : Bool). All P (map code_of (if b then new else []))) is both.0))
      (each_of_codes P vs both.1)

  pub codes_of_each : (P : List ℕ → Type 0) (vs : List VariableFate) → All (HasCode P) vs
      → All P (codes_in_place vs k)
  codes_of_each P [] each = All-nil P
  codes_of_each P (v ∷ vs) each =
      let rest : List VariableDeclaration = flat_map left_of vs in
      let new : List VariableDeclaration = variable_left v.fate v.variable in
      let one : All P (map code_of (left_of v)) = elim (cases_Bool (bytes_eq k v.variable.code)) [
        | inl is ↦ subst (λ (b : Bool). All P (map code_of (if b then new else []))) (sym is)
            (All-map P code_of new (All-head (HasCode P) v vs each is))
        | inr other ↦ subst (λ (b : Bool). All P (map code_of (if b then new else []))) (sym other) (All-nil P)
      ] in
      subst (All P) (sym (map-append code_of (left_of v) rest))
      (All-append P (map code_of (left_of v)) (map code_of rest) one
      (codes_of_each P vs (All-tail (HasCode P) v vs each)))

  -- ---- variables that are named

  module _ (all : List VariableFate) where
    abbrev named : List VariableFate → Bool
    named vs = has_code_among k (variables_by_fate (is_fated_apart all) vs)

    abbrev one_named : VariableFate → List VariableDeclaration
    one_named v = if is_fated_apart all v.fate v.variable then v.variable ∷ [] else []

    named_more : (v : VariableFate) (vs : List VariableFate)
        → named (v ∷ vs) ≡ (has_code_among k (one_named v) || named vs)
    named_more v vs =
        list_any-append (λ d. bytes_eq k d.code) (one_named v) (variables_by_fate (is_fated_apart all) vs)

    -- a code that no other one differs from
    same_as_all : (v : VariableFate) → bytes_eq k v.variable.code ≡ true → has_code_among k (one_named v) ≡ false
        → All (λ d. All (λ q. d.code ≡ q) (codes_in_place all k)) (variable_left v.fate v.variable)
    same_as_all v is none = elim (cases_Bool (is_fated_apart all v.fate v.variable)) [
      | inl apart ↦
          let there : has_code_among k (v.variable ∷ []) ≡ false = rw apart at none in
          absurd (false≢true (sym (first_fails (bytes_eq k v.variable.code) false there) ∙ is))
      | inr alike ↦
          let same : (d : VariableDeclaration) → has_other_than d.code (codes_in_place all v.variable.code) ≡ false
          → All (λ q. d.code ≡ q) (codes_in_place all k) =
          λ d fails. All-weaker (λ q. not (bytes_eq q d.code) ≡ false) (λ q. d.code ≡ q)
          (λ q its. sym (same_bytes q d.code (not_false (bytes_eq q d.code) its))) (codes_in_place all k)
          (all_fail (λ q. not (bytes_eq q d.code)) (codes_in_place all k)
          (ap (λ l. has_other_than d.code (codes_in_place all l)) (same_bytes k v.variable.code is) ∙ fails)) in
          All-weaker (λ d. has_other_than d.code (codes_in_place all v.variable.code) ≡ false)
          (λ d. All (λ q. d.code ≡ q) (codes_in_place all k)) same (variable_left v.fate v.variable)
          (all_fail (λ d. has_other_than d.code (codes_in_place all v.variable.code))
          (variable_left v.fate v.variable) alike)
    ]

    pub none_named_one : (vs : List VariableFate) → named vs ≡ false
        → All (HasCode (λ p. All (λ q. p ≡ q) (codes_in_place all k))) vs
    none_named_one [] none = All-nil (HasCode (λ p. All (λ q. p ≡ q) (codes_in_place all k)))
    none_named_one (v ∷ vs) none =
        let parts : (has_code_among k (one_named v) || named vs) ≡ false = sym (named_more v vs) ∙ none in
        All-cons (HasCode (λ p. All (λ q. p ≡ q) (codes_in_place all k))) v vs
        (λ is. same_as_all v is (first_fails (has_code_among k (one_named v)) (named vs) parts))
        (none_named_one vs (second_fails (has_code_among k (one_named v)) (named vs) parts))

    -- ---- if there is one code

    module _ (p : List ℕ) (one : All (λ q. q ≡ p) (codes_in_place all k)) where
      no_other : (d : VariableDeclaration) → d.code ≡ p → has_other_than d.code (codes_in_place all k) ≡ false
      no_other d is = list_any_none (λ q. not (bytes_eq q d.code)) (codes_in_place all k)
          (All-weaker (λ q. q ≡ p) (λ q. not (bytes_eq q d.code) ≡ false)
          (λ q its. ap not ((bytes_eq-Decides q d.code).1 (its ∙ sym is))) (codes_in_place all k) one)

      one_is_not_named : (v : VariableFate) → HasCode (λ q. q ≡ p) v → has_code_among k (one_named v) ≡ false
      one_is_not_named v has = elim (cases_Bool (bytes_eq k v.variable.code)) [
        | inl is ↦
            let new : List VariableDeclaration = variable_left v.fate v.variable in
            let alike : is_fated_apart all v.fate v.variable ≡ false =
            ap (λ l. list_any (λ d. has_other_than d.code (codes_in_place all l)) new)
            (sym (same_bytes k v.variable.code is))
            ∙ list_any_none (λ d. has_other_than d.code (codes_in_place all k)) new
            (All-weaker (λ d. d.code ≡ p) (λ d. has_other_than d.code (codes_in_place all k) ≡ false)
            no_other new (has is)) in
            ap (λ (b : Bool). has_code_among k (if b then v.variable ∷ [] else [])) alike
        | inr other ↦ by_test (is_fated_apart all v.fate v.variable) other
      ]
        where
          by_test : (b : Bool) → bytes_eq k v.variable.code ≡ false
              → has_code_among k (if b then v.variable ∷ [] else []) ≡ false
          by_test true other = ap (λ c. c || false) other
          by_test false other = refl

      pub one_none_named : (vs : List VariableFate) → All (HasCode (λ q. q ≡ p)) vs → named vs ≡ false
      one_none_named [] each = refl
      one_none_named (v ∷ vs) each =
          named_more v vs
          ∙ ap (λ b. b || named vs) (one_is_not_named v (All-head (HasCode (λ q. q ≡ p)) v vs each))
          ∙ one_none_named vs (All-tail (HasCode (λ q. q ≡ p)) v vs each)

  -- ---- if some are named

  module _ (all : List VariableFate) (some : named all all ≡ true) where
    -- all are named that are left
    pub left_is_apart : (v : VariableFate) (w : VariableDeclaration) → bytes_eq k v.variable.code ≡ true
        → variable_left v.fate v.variable ≡ w ∷ [] → is_fated_apart all v.fate v.variable ≡ true
    left_is_apart v w is left = elim (cases_Bool (has_other_than w.code (codes_in_place all k))) [
      | inl other ↦
          ap (λ l. list_any (λ d. has_other_than d.code (codes_in_place all l)) (variable_left v.fate v.variable))
          (sym (same_bytes k v.variable.code is))
          ∙ ap (list_any (λ d. has_other_than d.code (codes_in_place all k))) left
          ∙ ap (λ b. b || false) other
      | inr none ↦
          let one : All (λ q. q ≡ w.code) (codes_in_place all k) =
          All-weaker (λ q. not (bytes_eq q w.code) ≡ false) (λ q. q ≡ w.code)
          (λ q its. same_bytes q w.code (not_false (bytes_eq q w.code) its)) (codes_in_place all k)
          (all_fail (λ q. not (bytes_eq q w.code)) (codes_in_place all k) none) in
          absurd (false≢true (sym (one_none_named all w.code one all
          (each_of_codes (λ q. q ≡ w.code) all one)) ∙ some))
    ]
