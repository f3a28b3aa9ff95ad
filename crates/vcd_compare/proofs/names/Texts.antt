-- Names in memory, one after another.
use Rattle.std.proofs.Common.{◌≡◌, ℕ, ◌+◌, ◌||◌, Bool, List, [], ◌∷◌, ◌++◌, Some, map, take, refl, ap, sym, ◌∙◌}
use Rattle.std.specs.Prelude.{slice_get}
use Rattle.std.specs.List.{list_any}
use Rattle.std.specs.Global.{Vec}
use Rattle.std.proofs.lemmas.List.{map-append, map_more}
use Rattle.std.proofs.lemmas.Option.{slice_get_within, get_or_from_slice_get}
use Rattle.vcd_core.specs.Contents.{SignalContents, no_signal}
use Rattle.vcd_core.specs.Names.{full_name, full_names}
use Rattle.vcd_text.specs.AsDeclared.{declared_name}
use Rattle.vcd_text.specs.Grammar.{VariableDeclaration}
use Rattle.vcd_text.specs.inside.reading.Part.{undriven}
use Rattle.vcd_compare.specs.inside.Pairing.{texts}

pub any_of_texts : (p : List ℕ → Bool) (vs : List (Vec ℕ)) → list_any (λ v. p v.items) vs ≡ list_any p (texts vs)
any_of_texts p [] = refl
any_of_texts p (v ∷ vs) = ap (λ (b : Bool). p v.items || b) (any_of_texts p vs)

-- one name more
pub more_texts : (names : List (Vec ℕ)) (name : Vec ℕ) → texts (names ++ name ∷ []) ≡ texts names ++ name.items ∷ []
more_texts names name = map-append (λ (v : Vec ℕ). v.items) names (name ∷ [])

pub more_names : (signals : List SignalContents) (i : ℕ) (s : SignalContents) (names : List (Vec ℕ)) (name : Vec ℕ)
    → texts names ≡ full_names (take i signals) → slice_get signals i ≡ Some s → name.items ≡ full_name s
    → texts (names ++ name ∷ []) ≡ full_names (take (i + 1) signals)
more_names signals i s names name before at is =
    more_texts names name
    ∙ (λ j. before j ++ (is ∙ ap full_name (sym (get_or_from_slice_get signals i s no_signal at))) j ∷ [])
    ∙ sym (map_more full_name signals i no_signal (slice_get_within signals i s at))

-- ---- declared variables

pub names_undriven : (ds : List VariableDeclaration) → full_names (map undriven ds) ≡ map declared_name ds
names_undriven [] = refl
names_undriven (d ∷ ds) = ap (λ ns. declared_name d ∷ ns) (names_undriven ds)
