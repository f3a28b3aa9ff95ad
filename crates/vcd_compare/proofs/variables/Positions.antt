-- The variables of a file by their positions: the signals, and after them the skipped ones.
use Rattle.std.proofs.Common.{◌≡◌, ◌⊎◌, ℕ, zero, suc, ◌+◌, ◌-◌, ◌^◌, ◌<◌, ◌≤◌, ◌==◌, ◌||◌, nat_lt, min, not, Bool, true}
use Rattle.std.proofs.Common.{false, List, [], ◌∷◌, ◌++◌, map, length, refl, sym, ap, ◌∙◌, subst, inl, inr, arith, Some}
use Rattle.std.proofs.Common.{get_or}
use Rattle.std.specs.Prelude.{slice_get, option_map}
use Rattle.std.proofs.lemmas.Bool.{cases_Bool, or_parts, or_cases, not-true, ltb-true, ltb-false, eqb-true}
use Rattle.std.proofs.lemmas.List.{get_or_append_left, get_or-append-add, length-append, length-map}
use Rattle.std.proofs.lemmas.List.Elements.{filter_passes}
use Rattle.std.proofs.lemmas.Option.{slice_get_within, get_or_from_slice_get, slice_get-map, slice_get_cases}
use Rattle.vcd_core.specs.Word.{is_skipped_kind}
use Rattle.vcd_core.specs.declared.value.TheConstants.{WIDTH_LIMIT}
use Rattle.vcd_text.specs.Grammar.{VariableDeclaration, is_skipped, kept_variables}
use Rattle.vcd_text.specs.HeardChanges.{skipped_variables}
use Rattle.vcd_text.proofs.shared.FirstVariables.{first_found}
use Rattle.vcd_compare.specs.Variables.{compared_width}
use Rattle.vcd_compare.specs.inside.Outcomes.{no_variable}
use Rattle.vcd_compare.specs.inside.Planning.{planned_variables, planned_signal, planned_skipped}
use Rattle.vcd_compare.specs.inside.Walk.{all_variables, is_kept_at, first_position}
use Rattle.vcd_compare.specs.declared.variables.PlannedVariable.{PlannedVariable}

-- ---- two lists, one after the other

in_first : {X : Type 0} (xs ys : List X) (k : ℕ) (x : X) → slice_get (xs ++ ys) k ≡ Some x → k < length xs
    → slice_get xs k ≡ Some x
in_first [] ys k x at within = absurd (omega (arith, within))
in_first (y ∷ xs) ys zero x at within = at
in_first (y ∷ xs) ys (suc k) x at within = in_first xs ys k x at (omega (arith, within))

in_second : {X : Type 0} (xs ys : List X) (k : ℕ) (x : X) → slice_get (xs ++ ys) k ≡ Some x → length xs ≤ k
    → slice_get ys (k - length xs) ≡ Some x
in_second [] ys k x at past = subst (λ n. slice_get ys n ≡ Some x) (omega arith) at
in_second (y ∷ xs) ys zero x at past = absurd (omega (arith, past))
in_second (y ∷ xs) ys (suc k) x at past =
    subst (λ n. slice_get ys n ≡ Some x) (omega arith) (in_second xs ys k x at (omega (arith, past)))

-- a variable is at each place
pub declared_at : (ds : List VariableDeclaration) (k : ℕ) → k < length ds
    → (d : VariableDeclaration) × (slice_get ds k ≡ Some d)
declared_at ds k within =
    elim (slice_get_cases ds k).1 [
      | inl some ↦
          let (d, inside, at, same) = some in
          (d, at)
      | inr none ↦ absurd (omega (arith, within, none.0))
    ]

module _ (declared : List VariableDeclaration) (k : ℕ) (d : VariableDeclaration)
    (at : slice_get (all_variables declared) k ≡ Some d) where
  pub at_kept : is_kept_at declared k ≡ true → slice_get (kept_variables declared) k ≡ Some d
  at_kept kept = in_first _ _ k d at (ltb-true k (length (kept_variables declared)) kept)

  pub at_skipped : is_kept_at declared k ≡ false
      → slice_get (skipped_variables declared) (k - length (kept_variables declared)) ≡ Some d
  at_skipped past = in_second _ _ k d at (ltb-false k (length (kept_variables declared)) past)

  -- ---- what is planned of a variable

  kept_entry : is_kept_at declared k ≡ true
      → get_or (planned_variables declared) k no_variable ≡ planned_signal declared d
  kept_entry kept =
      let planned = map (planned_signal declared) (kept_variables declared) in
      let within : k < length planned =
      omega (
        arith,
        slice_get_within (kept_variables declared) k d (at_kept kept),
        length-map (kept_variables declared) (planned_signal declared),
      ) in
      get_or_append_left planned (map (planned_skipped declared) (skipped_variables declared)) no_variable k within
      ∙ get_or_from_slice_get planned k (planned_signal declared d) no_variable
      (slice_get-map (planned_signal declared) (kept_variables declared) k
      ∙ ap (option_map (planned_signal declared)) (at_kept kept))

  skipped_entry : is_kept_at declared k ≡ false
      → get_or (planned_variables declared) k no_variable ≡ planned_skipped declared d
  skipped_entry past =
      let planned = map (planned_signal declared) (kept_variables declared) in
      let skipped = map (planned_skipped declared) (skipped_variables declared) in
      let count = length (kept_variables declared) in
      let place : k ≡ length planned + (k - count) =
      omega (
        arith,
        ltb-false k count past,
        length-map (kept_variables declared) (planned_signal declared),
      ) in
      ap (λ n. get_or (planned ++ skipped) n no_variable) place
      ∙ get_or-append-add planned skipped (k - count) no_variable
      ∙ get_or_from_slice_get skipped (k - count) (planned_skipped declared d) no_variable
      (slice_get-map (planned_skipped declared) (skipped_variables declared) (k - count)
      ∙ ap (option_map (planned_skipped declared)) (at_skipped past))

  pub entry_kind : (get_or (planned_variables declared) k no_variable).is_signal ≡ is_kept_at declared k
  entry_kind =
      elim (cases_Bool (is_kept_at declared k)) [
        | inl kept ↦ ap (λ (v : PlannedVariable). v.is_signal) (kept_entry kept) ∙ sym kept
        | inr past ↦ ap (λ (v : PlannedVariable). v.is_signal) (skipped_entry past) ∙ sym past
      ]

  pub entry_first : (get_or (planned_variables declared) k no_variable).first ≡ first_position declared k d
  entry_first =
      elim (cases_Bool (is_kept_at declared k)) [
        | inl kept ↦ rw kept (ap (λ (v : PlannedVariable). v.first) (kept_entry kept))
        | inr past ↦ rw past (ap (λ (v : PlannedVariable). v.first) (skipped_entry past))
      ]

  pub entry_width : is_kept_at declared k ≡ true → (get_or (planned_variables declared) k no_variable).width ≡ d.size
  entry_width kept = ap (λ (v : PlannedVariable). v.width) (kept_entry kept)

  pub skipped_entry_width : is_kept_at declared k ≡ false
      → (get_or (planned_variables declared) k no_variable).width ≡ compared_width d
  skipped_entry_width past = ap (λ (v : PlannedVariable). v.width) (skipped_entry past)

  -- the first variable with the code of a variable is one
  pub first_below : first_position declared k d < length (all_variables declared)
  first_below =
      let kept = kept_variables declared in
      let skipped = skipped_variables declared in
      elim (cases_Bool (is_kept_at declared k)) [
        | inl here ↦
            let early = (first_found d.code kept k d (at_kept here) refl).early in
            rw here (omega (arith, early, slice_get_within kept k d (at_kept here), length-append kept skipped))
        | inr past ↦
            let early = (first_found d.code skipped (k - length kept) d (at_skipped past) refl).early in
            rw past (omega (
              arith,
              early,
              slice_get_within skipped (k - length kept) d (at_skipped past),
              length-append kept skipped,
            ))
      ]

-- ---- widths

size_of : (n limit : ℕ) → (n == 0 || nat_lt limit n) ≡ false → (1 ≤ n) × (n ≤ limit)
size_of n limit is = (grind (arith, or_parts), grind (arith, or_parts))

-- a signal has a bit, and not too many
pub kept_size : (ds : List VariableDeclaration) (k : ℕ) (d : VariableDeclaration)
    → slice_get (kept_variables ds) k ≡ Some d → (1 ≤ d.size) × (d.size ≤ WIDTH_LIMIT)
kept_size ds k d at =
    let keeps = filter_passes (λ (e : VariableDeclaration). not (is_skipped e)) ds k d
    (slice_get_within (kept_variables ds) k d at) in
    let kept : not (is_skipped d) ≡ true =
    ap (λ e. not (is_skipped e)) (sym (get_or_from_slice_get (kept_variables ds) k d d at)) ∙ keeps in
    size_of d.size WIDTH_LIMIT
    (or_parts (is_skipped_kind d.kind) (d.size == 0 || nat_lt WIDTH_LIMIT d.size) (not-true _ kept)).1

-- a number that is the size of no signal
abbrev pub IsNoSize : ℕ → Type 0
IsNoSize n = (n ≡ 0) ⊎ (WIDTH_LIMIT < n)

no_size : (n : ℕ) → (n == 0 || nat_lt WIDTH_LIMIT n) ≡ true → IsNoSize (min n (2 ^ 64 - 1))
no_size n is =
    elim (or_cases (n == 0) (nat_lt WIDTH_LIMIT n) is) [
      | inl none ↦ inl (omega (arith, eqb-true n 0 none))
      | inr many ↦ inr (omega (arith, ltb-true WIDTH_LIMIT n many))
    ]

skipped_size : (d : VariableDeclaration) → is_skipped d ≡ true → IsNoSize (compared_width d)
skipped_size d skips =
    elim (cases_Bool (is_skipped_kind d.kind)) [
      | inl kind ↦ inl (rw kind refl)
      | inr other ↦ rw other (no_size d.size (rw other at skips))
    ]

-- no signal has the width of a skipped variable
pub no_signal_size : (ds : List VariableDeclaration) (k : ℕ) (d : VariableDeclaration)
    → slice_get (skipped_variables ds) k ≡ Some d → IsNoSize (compared_width d)
no_signal_size ds k d at =
    skipped_size d
    (ap is_skipped (sym (get_or_from_slice_get (skipped_variables ds) k d d at))
    ∙ filter_passes is_skipped ds k d (slice_get_within (skipped_variables ds) k d at))
