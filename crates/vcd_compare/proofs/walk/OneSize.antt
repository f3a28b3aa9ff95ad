-- The variables of one code have one size.
use Rattle.std.proofs.Common.{◌≡◌, ℕ, Bool, true, false, cond, not, ◌||◌, ◌&&◌, List, [], ◌∷◌, ◌++◌}
use Rattle.std.proofs.Common.{Option, Some, None, IsTrue, IsSomeAnd, All, refl, sym, subst, ◌∙◌, arith}
use Rattle.std.specs.Prelude.{find, bytes_eq, ◌==◌, slice_get, option_to_list}
use Rattle.std.proofs.lemmas.Bool.{false≢true, not-true, eqb-true}
use Rattle.std.proofs.lemmas.Slice.Eq.{bytes_eq-Decides}
use Rattle.std.proofs.lemmas.List.Elements.{All-nil, All-push, All-filter, All-weaker, filter_passes}
use Rattle.std.proofs.lemmas.List.Folds.{find-append}
use Rattle.std.proofs.lemmas.Option.{slice_get_within, get_or_from_slice_get}
use Rattle.vcd_text.specs.Items.{Item, entry, timescale, scope, upscope, variable, end_definitions, stamp, scalar}
use Rattle.vcd_text.specs.Items.{vector, real_or_string, dump_word, other}
use Rattle.vcd_text.specs.Grammar.{ParseState, VariableDeclaration, Allows, AllowsAll, state_after, state_after_item}
use Rattle.vcd_text.specs.Grammar.{initial_state, is_skipped, kept_variables, variable_of, may_have_code}
use Rattle.vcd_text.specs.Grammar.{declaration_of}
use Rattle.vcd_text.specs.HeardChanges.{HeardChange, AreHeard}
use Rattle.vcd_text.proofs.shared.ItemTests.{has_declaration}
use Rattle.vcd_text.proofs.shared.WordsInTurn.{by_test}

-- the first variable of the code has the size of this one, if it is kept
abbrev IsAgreed : List VariableDeclaration → VariableDeclaration → Type 0
IsAgreed ds d = is_skipped d ≡ false
    → IsSomeAnd (find (λ (y : VariableDeclaration). bytes_eq d.code y.code) ds) (λ e. e.size ≡ d.size)

found_further : (P : VariableDeclaration → Type 0) (p : VariableDeclaration → Bool) (xs : List VariableDeclaration)
    (y : VariableDeclaration) → IsSomeAnd (find p xs) P → IsSomeAnd (find p (xs ++ y ∷ [])) P
found_further P p [] y some = absurd some
found_further P p (x ∷ xs) y some = by_test (λ b. IsSomeAnd (cond b (Some x) (find p xs)) P → IsSomeAnd
    (cond b (Some x) (find p (xs ++ y ∷ []))) P) (p x) (λ _ h. h) (λ _ h. found_further P p xs y h) some

size_shared : (s e : Bool) → ((s && false) || (not s && true && e)) ≡ true → e ≡ true
size_shared s e h = grind (arith, false≢true)

-- one more variable
agreed_after : (s : ParseState) (d : VariableDeclaration) → IsTrue (may_have_code (variable_of s d.code) d)
    → All (IsAgreed s.declared) s.declared
    → All (IsAgreed (s.declared ++ d ∷ [])) (s.declared ++ d ∷ [])
agreed_after s d shares all =
    All-push (IsAgreed (s.declared ++ d ∷ [])) s.declared d
    (All-weaker (IsAgreed s.declared) (IsAgreed (s.declared ++ d ∷ [])) (λ e agrees keeps.
    found_further (λ x. x.size ≡ e.size) (λ (y : VariableDeclaration). bytes_eq e.code y.code) s.declared d
    (agrees keeps)) s.declared all)
    (λ keeps. first_or_same (variable_of s d.code) refl shares keeps)
  where
    first_or_same : (o : Option VariableDeclaration) → variable_of s d.code ≡ o → IsTrue (may_have_code o d)
        → is_skipped d ≡ false
        → IsSomeAnd (find (λ (y : VariableDeclaration). bytes_eq d.code y.code) (s.declared ++ d ∷ []))
        (λ e. e.size ≡ d.size)
    first_or_same None none shares keeps = grind (arith, find-append, bytes_eq-Decides)
    first_or_same (Some x) some shares keeps =
        let here : ((is_skipped x && false) || (not (is_skipped x) && true && (x.size == d.size))) ≡ true =
        grind arith in
        found_further (λ e. e.size ≡ d.size) (λ (y : VariableDeclaration). bytes_eq d.code y.code) s.declared d
        (rw some (eqb-true x.size d.size (size_shared (is_skipped x) (x.size == d.size) here)))

agreed_declared : (s : ParseState) (o : Option VariableDeclaration)
    → IsSomeAnd o (λ d. IsTrue (may_have_code (variable_of s d.code) d)) → All (IsAgreed s.declared) s.declared
    → All (IsAgreed (s.declared ++ option_to_list o)) (s.declared ++ option_to_list o)
agreed_declared s None some all = absurd some
agreed_declared s (Some d) shares all = agreed_after s d shares all

may_declare : (s : ParseState) (words : List (List ℕ)) → Allows s (variable words)
    → IsSomeAnd (declaration_of s words) (λ d. IsTrue (may_have_code (variable_of s d.code) d))
may_declare s words allowed = grind (arith, has_declaration)

agreed_item : (s : ParseState) (i : Item) → Allows s i → All (IsAgreed s.declared) s.declared
    → All (IsAgreed (state_after_item s i).declared) (state_after_item s i).declared
agreed_item s (variable words) allowed all =
    agreed_declared s (declaration_of s words) (may_declare s words allowed) all
agreed_item s (entry kind words) allowed all = all
agreed_item s (timescale words) allowed all = all
agreed_item s (scope kind words) allowed all = all
agreed_item s upscope allowed all = all
agreed_item s end_definitions allowed all = all
agreed_item s (stamp digits) allowed all = all
agreed_item s (scalar digit code) allowed all = all
agreed_item s (vector first digits code) allowed all = all
agreed_item s (real_or_string first text code) allowed all = all
agreed_item s (dump_word word) allowed all = all
agreed_item s (other word words) allowed all = all

agreed_items : (s : ParseState) (is : List Item) → AllowsAll s is → All (IsAgreed s.declared) s.declared
    → All (IsAgreed (state_after s is).declared) (state_after s is).declared
agreed_items s [] allowed all = all
agreed_items s (i ∷ is) (one, others) all = agreed_items (state_after_item s i) is others (agreed_item s i one all)

-- two kept variables of one code have one size
abbrev pub HaveOneSize : List VariableDeclaration → Type 0
HaveOneSize kept = (k j : ℕ) (d e : VariableDeclaration) → slice_get kept k ≡ Some d → slice_get kept j ≡ Some e
    → d.code ≡ e.code → d.size ≡ e.size

one_size : (o : Option VariableDeclaration) (n m : ℕ) → IsSomeAnd o (λ x. x.size ≡ n) → IsSomeAnd o (λ x. x.size ≡ m)
    → n ≡ m
one_size None n m some also = absurd some
one_size (Some x) n m some also = sym some ∙ also

kept_at : (P : VariableDeclaration → Type 0) (kept : List VariableDeclaration) (k : ℕ) (d : VariableDeclaration)
    → All P kept → slice_get kept k ≡ Some d → P d
kept_at P kept k d all at =
    subst P (get_or_from_slice_get kept k d d at) (all k d (slice_get_within kept k d at))

is_kept : (declared : List VariableDeclaration) (k : ℕ) (d : VariableDeclaration)
    → slice_get (kept_variables declared) k ≡ Some d → is_skipped d ≡ false
is_kept declared k d at =
    not-true _ (kept_at (λ x. not (is_skipped x) ≡ true) (kept_variables declared) k d
    (filter_passes (λ (x : VariableDeclaration). not (is_skipped x)) declared) at)

pub have_one_size : (limit : ℕ) (state : ParseState) (heard : List HeardChange)
    → AreHeard (initial_state limit) state heard → HaveOneSize (kept_variables state.declared)
have_one_size limit state heard are k j d e at_d at_e same =
    let all : All (IsAgreed state.declared) state.declared =
    subst (λ (s : ParseState). All (IsAgreed s.declared) s.declared) are.state_is
    (agreed_items (initial_state limit) are.items are.allowed (All-nil _)) in
    let kept = All-filter (λ (x : VariableDeclaration). not (is_skipped x)) (IsAgreed state.declared) state.declared
    all in
    one_size (find (λ (y : VariableDeclaration). bytes_eq d.code y.code) state.declared) d.size e.size
    (kept_at (IsAgreed state.declared) (kept_variables state.declared) k d kept at_d (is_kept state.declared k d at_d))
    (subst (λ c. IsSomeAnd (find (λ (y : VariableDeclaration). bytes_eq c y.code) state.declared)
    (λ x. x.size ≡ e.size)) (sym same)
    (kept_at (IsAgreed state.declared) (kept_variables state.declared) j e kept at_e
    (is_kept state.declared j e at_e)))
