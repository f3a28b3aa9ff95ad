-- What is noted of the scopes of one more variable.
use Rattle.std.proofs.Common.{◌≡◌, ◌∙◌, ◌||◌, ◌==◌, ℕ, Bool, true, false, not, List, [], ◌∷◌, ◌++◌, length, map}
use Rattle.std.proofs.Common.{refl, sym, ap, ap₂, filter, if◌then◌else◌, inl, inr}
use Rattle.std.specs.Prelude.{bytes_eq, Result, Ok, Err, OnOk}
use Rattle.std.specs.Global.{Vec}
use Rattle.std.specs.List.{list_any}
use Rattle.std.proofs.Math.Bool.{or-false, or_comm}
use Rattle.std.proofs.lemmas.Bool.{cases_Bool, eqb-true}
use Rattle.std.proofs.lemmas.List.{append-nil, map-append, nil_from_length}
use Rattle.std.proofs.lemmas.List.Elements.{filter-append}
use Rattle.std.proofs.lemmas.List.Folds.{list_any-append}
use Rattle.indexmap.specs.IndexSet.{insert_key}
use Rattle.vcd_core.specs.Names.{scope_text}
use Rattle.vcd_core.specs.declared.capture.ScopeName.{ScopeName}
use Rattle.vcd_text.specs.Grammar.{VariableDeclaration}
use Rattle.vcd_part.specs.declared.request.Request.{Request}
use Rattle.vcd_part.specs.declared.scope_paths.ScopePaths.{ScopePaths}
use Rattle.vcd_part.specs.Requests.{keeps}
use Rattle.vcd_part.specs.PartPieces.{each_once}
use Rattle.vcd_part.specs.WrittenPart.{joined_names, scope_paths, emptied_scopes}
use Rattle.vcd_part.specs.inside.ScopePaths.{AreScopes, dotted_names, has_path}
use Rattle.vcd_part.proofs.code_uses.LastingCodes.{same_code, each_once_more, if_new}

-- ---- a path

pub dotted_is : (scopes : List ScopeName) → dotted_names scopes ≡ joined_names scopes
dotted_is [] = refl
dotted_is (scope ∷ []) = append-nil (scope_text scope)
dotted_is (scope ∷ next ∷ inner) = ap (λ l. scope_text scope ++ 46 ∷ l) (dotted_is (next ∷ inner))

-- scopes that are there
pub some_scopes : (scopes : List ScopeName) (d : VariableDeclaration) → d.scopes ≡ scopes
    → (length scopes == 0) ≡ false → not (length d.scopes == 0) ≡ true
some_scopes scopes d same some = ap not (ap (λ (l : List ScopeName). length l == 0) same ∙ some)

pub no_scopes : (scopes : List ScopeName) (d : VariableDeclaration) → d.scopes ≡ scopes
    → (length scopes == 0) ≡ true → d.scopes ≡ []
no_scopes scopes d same none = same ∙ nil_from_length scopes (eqb-true (length scopes) 0 none)

-- the path that is read
pub path_read : (path : List ℕ) (scopes : List ScopeName) (d : VariableDeclaration) → path ≡ dotted_names scopes
    → d.scopes ≡ scopes → path ≡ joined_names d.scopes
path_read path scopes d is same = is ∙ dotted_is scopes ∙ ap joined_names (sym same)

-- ---- a path that is put into a set

-- whether two keys are the same
abbrev pub same_key : Vec ℕ → Vec ℕ → Bool
same_key x y = bytes_eq x.items y.items

-- a path that is there already
pub there : (has : List ℕ → Bool) (path : List ℕ) → has path ≡ true → (key : List ℕ)
    → has key ≡ (bytes_eq key path || has key)
there has path is key = by_test (bytes_eq key path) refl
  where
    by_test : (b : Bool) → bytes_eq key path ≡ b → has key ≡ (b || has key)
    by_test true same = ap has (same_code key path same) ∙ is
    by_test false apart = refl

or_turned : (a b : Bool) → (a || (b || false)) ≡ (b || a)
or_turned a b = ap (λ x. a || x) (or-false b) ∙ or_comm a b

-- one path more in a list
in_list : (paths : List (List ℕ)) (path key : List ℕ)
    → (bytes_eq key path || list_any (bytes_eq key) paths) ≡ list_any (bytes_eq key) (paths ++ path ∷ [])
in_list paths path key = sym (list_any-append (bytes_eq key) paths (path ∷ []) ∙ or_turned _ _)

-- a path that is put among keys
pub put_among : (ks : List (Vec ℕ)) (v : Vec ℕ) (key : List ℕ)
    → list_any (λ (k : Vec ℕ). bytes_eq key k.items) (insert_key same_key ks v)
    ≡ (bytes_eq key v.items || list_any (λ (k : Vec ℕ). bytes_eq key k.items) ks)
put_among ks v key = elim (cases_Bool (list_any (same_key v) ks)) [
  | inl is ↦ rw is (there (λ path. list_any (λ (k : Vec ℕ). bytes_eq path k.items) ks) v.items is key)
  | inr none ↦ rw none (list_any-append (λ (k : Vec ℕ). bytes_eq key k.items) ks (v ∷ []) ∙ or_turned _ _)
]

-- a result is an error, or both facts hold
pub both_ok : {T E A B C : Type 0} (r : Result T E) → OnOk r A → OnOk r B → (A → B → C) → OnOk r C
both_ok (Ok x) a b both = both a b
both_ok (Err e) a b both = tt

-- ---- one variable more

abbrev is_in_scope : VariableDeclaration → Bool
is_in_scope d = not (length d.scopes == 0)

both_lists : (ds es : List VariableDeclaration) → scope_paths (ds ++ es) ≡ scope_paths ds ++ scope_paths es
both_lists ds es =
    let path : VariableDeclaration → List ℕ = λ d. joined_names d.scopes in
    ap (map path) (filter-append is_in_scope ds es)
    ∙ map-append path (filter is_in_scope ds) (filter is_in_scope es)

-- of those that pass a test
paths_more : (test : VariableDeclaration → Bool) (declared : List VariableDeclaration) (d : VariableDeclaration)
    → scope_paths (filter test (declared ++ d ∷ []))
    ≡ scope_paths (filter test declared) ++ scope_paths (filter test (d ∷ []))
paths_more test declared d = ap scope_paths (filter-append test declared (d ∷ []))
    ∙ both_lists (filter test declared) (filter test (d ∷ []))

no_path : (test : VariableDeclaration → Bool) (d : VariableDeclaration) → d.scopes ≡ []
    → scope_paths (filter test (d ∷ [])) ≡ []
no_path test d none = by_test (test d) refl
  where
    out : is_in_scope d ≡ false
    out = ap (λ (l : List ScopeName). not (length l == 0)) none

    by_test : (b : Bool) → test d ≡ b → scope_paths (filter test (d ∷ [])) ≡ []
    by_test true is = rw (is, out) refl
    by_test false is = rw is refl

not_its_path : (test : VariableDeclaration → Bool) (d : VariableDeclaration) → test d ≡ false
    → scope_paths (filter test (d ∷ [])) ≡ []
not_its_path test d is = rw is refl

its_path : (test : VariableDeclaration → Bool) (d : VariableDeclaration) (path : List ℕ) → test d ≡ true
    → is_in_scope d ≡ true → path ≡ joined_names d.scopes → scope_paths (filter test (d ∷ [])) ≡ path ∷ []
its_path test d path is within same = rw (is, within) (ap (λ p. p ∷ []) (sym same))

module _ (s t : ScopePaths) (r : Request) (declared : List VariableDeclaration) (d : VariableDeclaration)
    (at : AreScopes s r declared) where
  abbrev leaves : VariableDeclaration → Bool
  leaves e = not (keeps r e)

  abbrev kept_paths : List (List ℕ)
  kept_paths = scope_paths (filter (keeps r) declared)

  abbrev left_paths : List (List ℕ)
  left_paths = scope_paths (filter leaves declared)

  same_paths : (test : VariableDeclaration → Bool) → scope_paths (filter test (d ∷ [])) ≡ []
      → scope_paths (filter test declared) ≡ scope_paths (filter test (declared ++ d ∷ []))
  same_paths test none = sym (paths_more test declared d
      ∙ ap (λ l. scope_paths (filter test declared) ++ l) none ∙ append-nil (scope_paths (filter test declared)))

  path_more : (test : VariableDeclaration → Bool) (path : List ℕ) → test d ≡ true → is_in_scope d ≡ true
      → path ≡ joined_names d.scopes
      → scope_paths (filter test declared) ++ path ∷ [] ≡ scope_paths (filter test (declared ++ d ∷ []))
  path_more test path is within same = sym (paths_more test declared d
      ∙ ap (λ l. scope_paths (filter test declared) ++ l) (its_path test d path is within same))

  -- outside all scopes
  pub noted_outside : d.scopes ≡ [] → ((key : List ℕ) → has_path t.kept key ≡ has_path s.kept key)
      → ((key : List ℕ) → has_path t.left_out key ≡ has_path s.left_out key) → t.names.items ≡ s.names.items
      → AreScopes t r (declared ++ d ∷ [])
  noted_outside none kept left names = record {
    kept = λ key. kept key ∙ at.kept key
        ∙ ap (list_any (bytes_eq key)) (same_paths (keeps r) (no_path (keeps r) d none));
    left_out = λ key. left key ∙ at.left_out key ∙ ap (list_any (bytes_eq key)) (sym names);
    names = names ∙ at.names ∙ ap (each_once []) (same_paths leaves (no_path leaves d none));
  }

  -- one that is kept
  pub noted_kept : (path : List ℕ) → keeps r d ≡ true → is_in_scope d ≡ true → path ≡ joined_names d.scopes
      → ((key : List ℕ) → has_path t.kept key ≡ (bytes_eq key path || has_path s.kept key))
      → ((key : List ℕ) → has_path t.left_out key ≡ has_path s.left_out key) → t.names.items ≡ s.names.items
      → AreScopes t r (declared ++ d ∷ [])
  noted_kept path is within same kept left names = record {
    kept = λ key. kept key ∙ ap (λ b. bytes_eq key path || b) (at.kept key) ∙ in_list kept_paths path key
        ∙ ap (list_any (bytes_eq key)) (path_more (keeps r) path is within same);
    left_out = λ key. left key ∙ at.left_out key ∙ ap (list_any (bytes_eq key)) (sym names);
    names = names ∙ at.names ∙ ap (each_once []) (same_paths leaves (not_its_path leaves d (ap not is)));
  }

  -- one that is left out
  pub noted_left : (path : List ℕ) → keeps r d ≡ false → is_in_scope d ≡ true → path ≡ joined_names d.scopes
      → ((key : List ℕ) → has_path t.kept key ≡ has_path s.kept key)
      → ((key : List ℕ) → has_path t.left_out key ≡ (bytes_eq key path || has_path s.left_out key))
      → t.names.items ≡ (if has_path s.left_out path then s.names.items else s.names.items ++ path ∷ [])
      → AreScopes t r (declared ++ d ∷ [])
  noted_left path isnt within same kept left names = record {
    kept = λ key. kept key ∙ at.kept key
        ∙ ap (list_any (bytes_eq key)) (same_paths (keeps r) (not_its_path (keeps r) d isnt));
    left_out = λ key. left key ∙ by_test (has_path s.left_out path) refl key
        ∙ ap (list_any (bytes_eq key)) (sym names);
    names = names ∙ new_name (has_path s.left_out path) (at.left_out path)
        ∙ sym (each_once_more [] left_paths path)
        ∙ ap (each_once []) (path_more leaves path (ap not isnt) within same);
  }
    where
      by_test : (b : Bool) → has_path s.left_out path ≡ b → (key : List ℕ)
          → (bytes_eq key path || has_path s.left_out key)
          ≡ list_any (bytes_eq key) (if b then s.names.items else s.names.items ++ path ∷ [])
      by_test true is key = sym (there (has_path s.left_out) path is key) ∙ at.left_out key
      by_test false none key = ap (λ b. bytes_eq key path || b) (at.left_out key) ∙ in_list s.names.items path key

      new_name : (b : Bool) → b ≡ list_any (bytes_eq path) s.names.items
          → (if b then s.names.items else s.names.items ++ path ∷ [])
          ≡ each_once [] left_paths ++ if_new path (each_once [] left_paths)
      new_name b is = by_known b (is ∙ ap (list_any (bytes_eq path)) at.names)
          ∙ ap (λ l. l ++ if_new path (each_once [] left_paths)) at.names
        where
          by_known : (b : Bool) → b ≡ list_any (bytes_eq path) (each_once [] left_paths)
              → (if b then s.names.items else s.names.items ++ path ∷ [])
              ≡ s.names.items ++ if_new path (each_once [] left_paths)
          by_known true is = rw (← is) (sym (append-nil s.names.items))
          by_known false is = rw (← is) refl

-- ---- those that have none that is kept

same_filter : {X : Type 0} (p q : X → Bool) → ((x : X) → p x ≡ q x) → (xs : List X) → filter p xs ≡ filter q xs
same_filter p q same [] = refl
same_filter p q same (x ∷ xs) = ap₂ (λ (b : Bool) rest. if b then x ∷ rest else rest) (same x) (same_filter p q same xs)

pub emptied_are : (s : ScopePaths) (r : Request) (declared : List VariableDeclaration) → AreScopes s r declared
    → filter (λ path. not (has_path s.kept path)) s.names.items ≡ emptied_scopes r declared
emptied_are s r declared at =
    same_filter (λ path. not (has_path s.kept path))
    (λ path. not (list_any (bytes_eq path) (scope_paths (filter (keeps r) declared)))) (λ path. ap not (at.kept path))
    s.names.items
    ∙ ap (filter (λ path. not (list_any (bytes_eq path) (scope_paths (filter (keeps r) declared))))) at.names
