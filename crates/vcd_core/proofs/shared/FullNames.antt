-- The beginning of a full name, and the tests of full names.
use Rattle.std.proofs.Common.{◌≡◌, Bool, true, false, append_assoc, if◌then◌else◌, ◌||◌, ℕ, ◌-◌, ◌+◌, ◌<◌, ◌≤◌, List}
use Rattle.std.proofs.Common.{[], ◌∷◌, ◌++◌, length, get_or, take, drop, map, refl, sym, ap, ◌∙◌, append-nil, arith}
use Rattle.std.specs.List.{concat, list_any}
use Rattle.std.proofs.lemmas.Bool.{false_from_ne_true, both_ways}
use Rattle.std.proofs.lemmas.Slice.Eq.{bytes_eq-Decides}
use Rattle.std.specs.Str.{bytes_eq}
use Rattle.std.proofs.lemmas.List.{take_all}
use Rattle.vcd_core.specs.declared.capture.ScopeName.{ScopeName}
use Rattle.vcd_core.specs.declared.capture.Signal.{Signal}
use Rattle.vcd_core.specs.declared.names.full_name.FullName.{FullName}
use Rattle.vcd_core.specs.CaptureContents.{signal_contents}
use Rattle.vcd_core.specs.Names.{name_in, scope_text, full_name, full_names}
use Rattle.vcd_core.specs.FullName.{name_bytes}
use Rattle.vcd_core.specs.inside.names.FullName.{IsDrained}

-- a name in no scope is its words, run together
pub name_in-none : (words : List (List ℕ)) → name_in [] words ≡ concat words
unfolding name_in
name_in-none words = refl

-- a name in scopes begins with the outermost one and a `.` (46)
pub name_in-scope : (scope : ScopeName) (scopes : List ScopeName) (words : List (List ℕ))
    → name_in (scope ∷ scopes) words ≡ scope_text scope ++ 46 ∷ name_in scopes words
unfolding name_in
name_in-scope scope [] words = refl
name_in-scope scope (next ∷ scopes) words = refl

-- an empty word adds nothing to a name
pub name_in-empty_word : (scopes : List ScopeName) (words : List (List ℕ))
    → name_in scopes ([] ∷ words) ≡ name_in scopes words
unfolding name_in
name_in-empty_word scopes words = refl

pub ruleset name_steps = (name_in-empty_word, append-nil)

-- the bytes of a name from its scopes, for no scope and for one or more
pub bytes_in_none : (scopes : List ScopeName) (first : List ℕ) (others : List (List ℕ)) → length scopes < 1
    → first ++ (concat others ++ []) ≡ name_in scopes (first ∷ others)
bytes_in_none [] first others none = rw append-nil (sym (name_in-none (first ∷ others)))
bytes_in_none (scope ∷ scopes) first others none = absurd (omega arith)

pub bytes_in_scope : (scopes : List ScopeName) (scope : ScopeName) (name : List (List ℕ)) (text : List ℕ)
    (words : List (List ℕ)) (in_scope : Bool) →
    1 ≤ length scopes → scope ≡ get_or scopes 0 scope → text ≡ [] → words ≡ scope.words → in_scope ≡ true →
    text ++ (concat words ++ (if in_scope then 46 ∷ name_in (take (length scopes - 1) (drop 1 scopes)) name else []))
    ≡ name_in scopes name
bytes_in_scope [] scope name text words in_scope some is empty same within = absurd (omega arith)
bytes_in_scope (s ∷ inner) scope name text words in_scope some is empty same within =
    let whole : take (length (s ∷ inner) - 1) inner ≡ inner = take_all (length (s ∷ inner) - 1) inner (omega arith) in
    rw (empty, same, within, whole, is) (sym (name_in-scope s inner name))

-- the bytes of a name of which a scope is left
pub bytes_drained : (n : FullName) → IsDrained n → n.in_scope ≡ true
    → name_bytes n ≡ 46 ∷ name_in n.scopes.now (n.first.now ∷ n.others.now)
bytes_drained n drained within = rw (drained.text, drained.words, within) refl

-- whether the name of one of the signals is this
pub is_one_of_names : (name : List ℕ) (signals : List Signal)
    → list_any (bytes_eq name) (full_names (map signal_contents signals))
    ≡ list_any (λ s. bytes_eq name (full_name (signal_contents s))) signals
is_one_of_names name [] = refl
is_one_of_names name (s ∷ signals) =
    ap (λ (b : Bool). bytes_eq name (full_name (signal_contents s)) || b) (is_one_of_names name signals)

-- ---- the end of a name

-- a name in scopes ends with its words
pub name_in_ends : (scopes : List ScopeName) (words : List (List ℕ))
    → (prefix : List ℕ) × (name_in scopes words ≡ prefix ++ concat words)
name_in_ends [] words = ([], name_in-none words)
name_in_ends (scope ∷ scopes) words =
    let rest = name_in_ends scopes words in (
      scope_text scope ++ 46 ∷ rest.0,
      name_in-scope scope scopes words ∙ ap (λ l. scope_text scope ++ 46 ∷ l) rest.1
          ∙ sym (append_assoc (scope_text scope) (46 ∷ rest.0) (concat words)),
    )

-- what texts that end with these two would say of a test, of these two names
pub not_the_name : (text name : List ℕ) (r : Bool) → r ≡ false → (text ≡ name → r ≡ true) → false ≡ bytes_eq text name
not_the_name text name r fails passes =
    sym (false_from_ne_true _ (λ e. both_ways r fails (passes ((bytes_eq-Decides text name).0 e))))
