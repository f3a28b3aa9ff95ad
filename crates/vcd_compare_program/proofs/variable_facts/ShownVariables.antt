-- Variables that are shown, one by one.
use Rattle.std.proofs.Common.{◌≡◌, ◌∙◌, ◌-◌, ◌<◌, ◌^◌, ◌++◌, ◌∷◌, [], ℕ, suc, List, length, map, refl, sym, ap, arith}
use Rattle.std.proofs.Common.{append_assoc, ap₂, ◌+◌, take}
use Rattle.std.specs.List.{range_with_len}
use Rattle.std.proofs.Math.Seq.{take-append_seam, get_or-append_seam}
use Rattle.std.proofs.lemmas.List.{append-nil, length-append, length-map, map-append}
use Rattle.vcd_compare_program.specs.CaptureFacts.{VariableFacts, all_shown, shown_at, shown_after, no_facts}
use Rattle.vcd_compare_program.specs.declared.variable_facts.ReportedVariables.{ReportedVariables}
use Rattle.vcd_compare_program.specs.inside.Facts.{AreReported, HaveCounted, facts_of_variable}

-- the names of variables
abbrev pub names_in : List VariableFacts → List (List ℕ)
names_in vs = map (λ v. v.name) vs

-- the variables, one after another, after others with these names
abbrev shown_from : (names : List (List ℕ)) → List VariableFacts → List VariableFacts
shown_from names [] = []
shown_from names (v ∷ vs) = shown_after names v ∷ shown_from (names ++ v.name ∷ []) vs

length-shown : (names : List (List ℕ)) (vs : List VariableFacts) → length (shown_from names vs) ≡ length vs
length-shown names [] = refl
length-shown names (v ∷ vs) = ap suc (length-shown (names ++ v.name ∷ []) vs)

-- one variable more
from_last : (names : List (List ℕ)) (vs : List VariableFacts) (v : VariableFacts)
    → shown_from names (vs ++ v ∷ []) ≡ shown_from names vs ++ shown_after (names ++ names_in vs) v ∷ []
from_last names [] v = ap (λ ns. shown_after ns v ∷ []) (sym (append-nil names))
from_last names (w ∷ vs) v = ap (λ l. shown_after names w ∷ l) (from_last (names ++ w.name ∷ []) vs v
    ∙ ap (λ ns. shown_from (names ++ w.name ∷ []) vs ++ shown_after ns v ∷ [])
    (append_assoc names (w.name ∷ []) (names_in vs)))

-- from each position on they are those of the positions
by_positions : (before vs : List VariableFacts)
    → map (shown_at (before ++ vs)) (range_with_len (length before) (length vs)) ≡ shown_from (names_in before) vs
by_positions before [] = refl
by_positions before (v ∷ vs) =
    let k : ℕ = length before in
    let names : take k (names_in (before ++ v ∷ vs)) ≡ names_in before =
    ap (take k) (map-append (λ w. w.name) before (v ∷ vs))
    ∙ ap (λ n. take n (names_in before ++ names_in (v ∷ vs))) (sym (length-map before (λ w. w.name)))
    ∙ take-append_seam (names_in before) (names_in (v ∷ vs)) in
    let next : length (before ++ v ∷ []) ≡ k + 1 = length-append before (v ∷ []) in
    ap₂ (λ a l. a ∷ l) (ap₂ shown_after names (get_or-append_seam before v vs no_facts))
    (ap₂ (λ all n. map (shown_at all) (range_with_len n (length vs))) (sym (append_assoc before (v ∷ []) vs)) (sym next)
    ∙ by_positions (before ++ v ∷ []) vs ∙ ap (λ ns. shown_from ns vs) (map-append (λ w. w.name) before (v ∷ [])))

shown_last : (vs : List VariableFacts) (v : VariableFacts)
    → all_shown (vs ++ v ∷ []) ≡ all_shown vs ++ shown_after (names_in vs) v ∷ []
shown_last vs v = by_positions [] (vs ++ v ∷ []) ∙ from_last [] vs v
    ∙ ap (λ l. l ++ shown_after (names_in vs) v ∷ []) (sym (by_positions [] vs))

module _ (vs : List VariableFacts) (r : ReportedVariables) (are : AreReported vs r) where
  -- there are fewer than memory has bytes
  pub few_names : length (names_in vs) < 2 ^ 64 - 1
  few_names = omega (
    arith,
    length-map vs (λ v. v.name),
    ap length (by_positions [] vs) ∙ length-shown [] vs,
    ap length are.shown,
    length-map r.list.items facts_of_variable,
    r.list.ok.0,
    r.list.ok.1,
    r.list.small,
  )

  pub one_reported : (new : ReportedVariables) (v : VariableFacts)
      → map facts_of_variable new.list.items
      ≡ map facts_of_variable r.list.items ++ shown_after (names_in vs) v ∷ []
      → HaveCounted (names_in vs ++ v.name ∷ []) new.counts → AreReported (vs ++ v ∷ []) new
  one_reported new v one counted = record {
    shown = one ∙ ap (λ l. l ++ shown_after (names_in vs) v ∷ []) are.shown ∙ sym (shown_last vs v);
    counted = rw map-append counted;
  }
