-- The names of skipped variables, one variable after another, and their hashes.
use Rattle.std.proofs.Common.{◌≡◌, ◌∙◌, ℕ, Bool, true, false, ◌&&◌, ◌||◌, cond, List, [], ◌∷◌, map, refl, sym, ap}
use Rattle.std.proofs.Common.{nat_eq}
use Rattle.std.specs.Prelude.{bytes_eq}
use Rattle.std.specs.List.{list_any}
use Rattle.std.proofs.lemmas.Bool.{or_parts, eq-eqb}
use Rattle.vcd_core.proofs.shared.FullNames.{not_the_name}
use Rattle.vcd_text.specs.Grammar.{VariableDeclaration, is_skipped}
use Rattle.vcd_amend_run.specs.NewNames.{skipped_names}
use Rattle.vcd_text.specs.AsDeclared.{declared_name}
use Rattle.vcd_amend_run.specs.inside.NameHash.{name_hash}

-- a test finds the name of a variable among these only if it is skipped
one_name : (p : List ℕ → Bool) (skipped : Bool) (d : VariableDeclaration) (ds : List VariableDeclaration)
    → list_any p (map declared_name (cond skipped (d ∷ ds) ds))
    ≡ (skipped && p (declared_name d)) || list_any p (map declared_name ds)
one_name p true d ds = refl
one_name p false d ds = refl

pub found_among_variables : {A : Type 0} (view : A → VariableDeclaration) (p : List ℕ → Bool) (vs : List A)
    → list_any (λ v. is_skipped (view v) && p (declared_name (view v))) vs
    ≡ list_any p (skipped_names (map view vs))
found_among_variables view p [] = refl
found_among_variables view p (v ∷ vs) =
    ap (λ found. (is_skipped (view v) && p (declared_name (view v))) || found) (found_among_variables view p vs)
    ∙ sym (one_name p (is_skipped (view v)) (view v) _)

-- a name is none of these if its hash is none of theirs
pub no_name_without_hash : (name : List ℕ) (names : List (List ℕ))
    → list_any (nat_eq (name_hash name)) (map name_hash names) ≡ false → false ≡ list_any (bytes_eq name) names
no_name_without_hash name [] none = refl
no_name_without_hash name (n ∷ names) none =
    let parts = or_parts (nat_eq (name_hash name) (name_hash n))
    (list_any (nat_eq (name_hash name)) (map name_hash names)) none in
    let apart : false ≡ bytes_eq name n =
    not_the_name name n (nat_eq (name_hash name) (name_hash n)) parts.0
    (λ same. eq-eqb (name_hash name) (name_hash n) (ap name_hash same)) in
    no_name_without_hash name names parts.1 ∙ ap (λ found. found || list_any (bytes_eq name) names) apart
