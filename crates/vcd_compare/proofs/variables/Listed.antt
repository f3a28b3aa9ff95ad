-- The variables of a file, as they are listed before the changes come.
use Rattle.std.proofs.Common.{◌≡◌, ℕ, suc, ◌+◌, ◌-◌, ◌^◌, ◌<◌, ◌≤◌, List, [], ◌∷◌, ◌++◌, map, take, length, refl}
use Rattle.std.proofs.Common.{sym, ap, ap₂, ◌∙◌, arith, Some, min, true}
use Rattle.std.specs.Prelude.{slice_get, option_map}
use Rattle.std.proofs.lemmas.List.{map_more, length-append, length-map}
use Rattle.std.proofs.lemmas.Option.{slice_get_within, get_or_from_slice_get, slice_get-map, same_Some}
use Rattle.vcd_core.specs.Contents.{SignalContents}
use Rattle.vcd_text.specs.AsDeclared.{declared_name}
use Rattle.vcd_text.specs.Grammar.{VariableDeclaration, kept_variables}
use Rattle.vcd_text.specs.HeardChanges.{first_with, skipped_variables}
use Rattle.vcd_text.specs.inside.reading.Part.{undriven}
use Rattle.vcd_text.specs.inside.reading.SkippedVariables.{listed_variable, listed_variables}
use Rattle.vcd_text.proofs.shared.FirstVariables.{first_found}
use Rattle.vcd_compare.specs.inside.Planning.{listed_names, planned_signal, planned_skipped, planned_listed}
use Rattle.vcd_compare.specs.inside.Planning.{planned_variables}
use Rattle.vcd_compare.specs.inside.Walk.{all_variables}
use Rattle.vcd_compare.specs.declared.variables.PlannedVariable.{PlannedVariable}
use Rattle.vcd_compare.proofs.variables.Positions.{declared_at}

-- ---- signals

-- one signal more
pub more_signals : (declared : List VariableDeclaration) (signals : List SignalContents) (k : ℕ) (s : SignalContents)
    (before new : List PlannedVariable) (v : PlannedVariable)
    → signals ≡ map undriven (kept_variables declared) → slice_get signals k ≡ Some s → v.is_signal ≡ true
    → v.width ≡ s.width
    → ((d : VariableDeclaration) → slice_get (kept_variables declared) k ≡ Some d
    → v.first ≡ first_with d.code (kept_variables declared))
    → before ≡ map (planned_signal declared) (take k (kept_variables declared)) → new ≡ before ++ v ∷ []
    → new ≡ map (planned_signal declared) (take (k + 1) (kept_variables declared))
more_signals declared signals k s before new v are at kind width first is more =
    let kept = kept_variables declared in
    let inside : k < length kept =
    omega (
      arith,
      slice_get_within signals k s at,
      ap (λ (l : List SignalContents). length l) are,
      length-map kept undriven,
    ) in
    let d = declared_at kept k inside in
    let one : s ≡ undriven d.0 =
    same_Some s (undriven d.0) (sym at ∙ ap (λ l. slice_get l k) are ∙ slice_get-map undriven kept k
    ∙ ap (option_map undriven) d.1) in
    let entry : v ≡ planned_signal declared d.0 = λ i. record {
      is_signal = kind i;
      width = (width ∙ ap (λ (x : SignalContents). x.width) one) i;
      first = first d.0 d.1 i;
    } in
    more ∙ (λ i. is i ++ entry i ∷ [])
    ∙ ap (λ e. map (planned_signal declared) (take k kept) ++ planned_signal declared e ∷ [])
    (sym (get_or_from_slice_get kept k d.0 d.0 d.1))
    ∙ sym (map_more (planned_signal declared) kept k d.0 inside)

-- ---- skipped variables

-- all of these are among the variables of a list, so that none is past the places that can be counted
same_listed : (declared : List VariableDeclaration) (ds : List VariableDeclaration) (n : ℕ)
    → ((k : ℕ) (d : VariableDeclaration) → slice_get ds k ≡ Some d
    → first_with d.code (skipped_variables declared) ≤ n)
    → length (kept_variables declared) + n < 2 ^ 64
    → map (planned_listed (length (kept_variables declared))) (map (listed_variable (skipped_variables declared)) ds)
    ≡ map (planned_skipped declared) ds
same_listed declared [] n within small = refl
same_listed declared (d ∷ ds) n within small =
    let count = length (kept_variables declared) in
    let first = first_with d.code (skipped_variables declared) in
    let low : first ≤ n = within 0 d refl in
    let sum : min (count + first) (2 ^ 64 - 1) ≡ count + first = omega (arith, low, small) in
    ap₂ (λ (f : ℕ) (vs : List PlannedVariable). record (planned_skipped declared d) { first = f } ∷ vs) sum
    (same_listed declared ds n (λ k. within (suc k)) small)

pub all_listed : (declared : List VariableDeclaration) (signals all : List PlannedVariable)
    → signals ≡ map (planned_signal declared) (kept_variables declared)
    → all ≡ signals ++ map (planned_listed (length signals)) (listed_variables (skipped_variables declared))
    → length all < 2 ^ 63 → all ≡ planned_variables declared
all_listed declared signals all are is small =
    let kept = kept_variables declared in
    let skipped = skipped_variables declared in
    let count : length signals ≡ length kept =
    ap (λ (l : List PlannedVariable). length l) are ∙ length-map kept (planned_signal declared) in
    let listed = listed_variables skipped in
    let sum : length kept + length skipped < 2 ^ 64 =
    omega (
      arith,
      small,
      ap (λ (l : List PlannedVariable). length l) is,
      length-append signals (map (planned_listed (length signals)) listed),
      length-map listed (planned_listed (length signals)),
      length-map skipped (listed_variable skipped),
      count,
    ) in
    is
    ∙ (λ i. are i ++ map (planned_listed (count i)) listed)
    ∙ ap (λ l. map (planned_signal declared) kept ++ l) (same_listed declared skipped (length skipped)
    (λ k d at. let early = (first_found d.code skipped k d at refl).early in
    omega (arith, early, slice_get_within skipped k d at)) sum)

-- ---- names

pub names_listed : (all ds : List VariableDeclaration)
    → listed_names (map (listed_variable all) ds) ≡ map declared_name ds
names_listed all [] = refl
names_listed all (d ∷ ds) = ap (λ ns. declared_name d ∷ ns) (names_listed all ds)

-- ---- all variables

pub all_counted : (declared : List VariableDeclaration) (all : List PlannedVariable)
    → all ≡ planned_variables declared → length all ≡ length (all_variables declared)
all_counted declared all is =
    let kept = kept_variables declared in
    let skipped = skipped_variables declared in
    omega (
      arith,
      ap (λ (l : List PlannedVariable). length l) is,
      length-append (map (planned_signal declared) kept) (map (planned_skipped declared) skipped),
      length-map kept (planned_signal declared),
      length-map skipped (planned_skipped declared),
      length-append kept skipped,
    )
