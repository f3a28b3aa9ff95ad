-- New names do not depend on changes.
use Rattle.std.proofs.Common.{◌≡◌, ℕ, zero, suc, Bool, cond, List, [], ◌∷◌, map, refl, ap, ap₂}
use Rattle.std.specs.Str.{bytes_eq}
use Rattle.std.specs.List.{list_any, slice_get}
use Rattle.vcd_core.specs.Contents.{SignalContents}
use Rattle.vcd_core.specs.Names.{full_name, full_names}
use Rattle.vcd_core.specs.Outline.{without_changes}
use Rattle.vcd_text.specs.Grammar.{VariableDeclaration}
use Rattle.vcd_amend_run.specs.NewNames.{skipped_names, has_words_of, new_names, takes_skipped_name}

same_words_without : (firsts : List SignalContents) (k : ℕ) (s : SignalContents)
    → has_words_of (slice_get (map without_changes firsts) k) (without_changes s) ≡ has_words_of (slice_get firsts k) s
same_words_without [] k s = refl
same_words_without (f ∷ firsts) zero s = refl
same_words_without (f ∷ firsts) (suc k) s = same_words_without firsts k s

full_names_without : (signals : List SignalContents) → full_names (map without_changes signals) ≡ full_names signals
full_names_without [] = refl
full_names_without (s ∷ signals) = ap (λ names. full_name s ∷ names) (full_names_without signals)

new_names_without : (firsts : List SignalContents) (origins : List ℕ) (lasts : List SignalContents)
    → new_names (map without_changes firsts) origins (map without_changes lasts) ≡ new_names firsts origins lasts
new_names_without firsts [] lasts = full_names_without lasts
new_names_without firsts (k ∷ origins) [] = refl
new_names_without firsts (k ∷ origins) (s ∷ lasts) =
    ap₂ (λ (same : Bool) (names : List (List ℕ)). cond same names (full_name s ∷ names))
    (same_words_without firsts k s) (new_names_without firsts origins lasts)

-- a new name of captures is that of a skipped variable as one of their outlines is
pub takes_skipped_name_in_outlines : (ds : List VariableDeclaration) (firsts : List SignalContents) (origins : List ℕ)
    (lasts : List SignalContents)
    → takes_skipped_name ds (map without_changes firsts) origins (map without_changes lasts)
    ≡ takes_skipped_name ds firsts origins lasts
takes_skipped_name_in_outlines ds firsts origins lasts =
    ap (list_any (λ name. list_any (bytes_eq name) (skipped_names ds))) (new_names_without firsts origins lasts)
