-- The scopes of variables, as they are noted.
use Rattle.std.specs.Prelude.{◌≡◌, ◌++◌, ◌∷◌, ℕ, Bool, not, List, [], filter, bytes_eq}
use Rattle.std.specs.Global.{Vec}
use Rattle.std.specs.List.{list_any, flat_map}
use Rattle.indexmap.specs.IndexSet.{IndexSet, contains_by}
use Rattle.vcd_core.specs.Names.{scope_text}
use Rattle.vcd_core.specs.declared.capture.ScopeName.{ScopeName}
use Rattle.vcd_text.specs.Grammar.{VariableDeclaration}
use Rattle.vcd_part.specs.declared.request.Request.{Request}
use Rattle.vcd_part.specs.declared.scope_paths.ScopePaths.{ScopePaths}
use Rattle.vcd_part.specs.Requests.{keeps}
use Rattle.vcd_part.specs.PartPieces.{each_once}
use Rattle.vcd_part.specs.WrittenPart.{scope_paths}

-- whether a path is in a set
abbrev pub has_path : {S : Type 0} → IndexSet (Vec ℕ) S → (path : List ℕ) → Bool
has_path paths path = contains_by (λ key. bytes_eq path key.items) paths

-- the path of scopes, name by name
abbrev pub dotted_names : List ScopeName → List ℕ
dotted_names [] = []
dotted_names (scope ∷ inner) = scope_text scope ++ flat_map (λ s. 46 ∷ scope_text s) inner

-- of a request, the scopes of these declarations were noted
pub record AreScopes (s : ScopePaths) (r : Request)
    (declared : List VariableDeclaration) : Type 0
  where
    pub kept : (path : List ℕ) → has_path s.kept path
        ≡ list_any (bytes_eq path) (scope_paths (filter (keeps r) declared))
    pub left_out : (path : List ℕ) → has_path s.left_out path
        ≡ list_any (bytes_eq path) s.names.items
    pub names : s.names.items
        ≡ each_once [] (scope_paths (filter (λ d. not (keeps r d)) declared))
