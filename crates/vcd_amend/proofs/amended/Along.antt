-- Lists that are made along variables.
use Rattle.std.proofs.Common.{◌≡◌, List, [], ◌∷◌, ◌++◌, sym, ap, ap₂, append_assoc, ◌∙◌}
use Rattle.std.proofs.lemmas.List.{append-nil}
use Rattle.vcd_text.specs.Grammar.{VariableDeclaration}
use Rattle.vcd_amend.specs.Amendment.{flat_map_along}

-- what holds at each variable of a list, with those before it
abbrev pub AtEach : List VariableDeclaration → (List VariableDeclaration → VariableDeclaration → Type 0) → Type 0
AtEach all P = (xs : List VariableDeclaration) (d : VariableDeclaration) (ys : List VariableDeclaration)
    → all ≡ xs ++ d ∷ ys → P xs d

pub flat_map_along-append : {B : Type 0} (f : List VariableDeclaration → VariableDeclaration → List B)
    (before xs ys : List VariableDeclaration)
    → flat_map_along f before (xs ++ ys) ≡ flat_map_along f before xs ++ flat_map_along f (before ++ xs) ys
flat_map_along-append f before [] ys = ap (λ b. flat_map_along f b ys) (sym (append-nil before))
flat_map_along-append f before (x ∷ xs) ys = ap (λ l. f before x ++ l) (flat_map_along-append f (before ++ x ∷ []) xs ys
    ∙ ap (λ b. flat_map_along f (before ++ x ∷ []) xs ++ flat_map_along f b ys) (append_assoc before (x ∷ []) xs))
    ∙ sym (append_assoc (f before x) (flat_map_along f (before ++ x ∷ []) xs) (flat_map_along f (before ++ (x ∷ xs))
    ys))

-- a function of the joined lists, from one of each
pub flat_map_along_by : {B C : Type 0} (h : List B → List C) (f : List VariableDeclaration → VariableDeclaration
    → List B) (g : List VariableDeclaration → VariableDeclaration → List C) → h [] ≡ []
    → ((x y : List B) → h (x ++ y) ≡ h x ++ h y) → (all before ds : List VariableDeclaration) → before ++ ds ≡ all
    → AtEach all (λ xs d. h (f xs d) ≡ g xs d) → h (flat_map_along f before ds) ≡ flat_map_along g before ds
flat_map_along_by h f g none both all before [] whole each = none
flat_map_along_by h f g none both all before (d ∷ ds) whole each =
    both (f before d) (flat_map_along f (before ++ d ∷ []) ds) ∙ ap₂ (λ x y. x ++ y) (each before d ds (sym whole))
    (flat_map_along_by h f g none both all (before ++ d ∷ []) ds (append_assoc before (d ∷ []) ds ∙ whole) each)
