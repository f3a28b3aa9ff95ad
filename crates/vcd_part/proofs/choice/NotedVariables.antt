-- What is noted of variables: their names, how many there are, and what the patterns miss.
use Rattle.std.proofs.Common.{◌≡◌, ℕ, zero, suc, ◌+◌, ◌==◌, ◌&&◌, ◌||◌, Bool, true, false, not, Option, Some, None, Bor}
use Rattle.std.proofs.Common.{if◌then◌else◌, List, [], ◌∷◌, ◌++◌, length, map, refl, sym, ap, ap₂, ◌∙◌, subst, arith}
use Rattle.std.proofs.Common.{append-nil, length-append, cond}
use Rattle.std.specs.Prelude.{find, filter, bytes_eq, codes}
use Rattle.std.specs.List.{list_any, concat}
use Rattle.std.specs.Option.{option_or}
use Rattle.std.proofs.lemmas.Bool.{ne_eqb}
use Rattle.std.proofs.lemmas.List.{map-append}
use Rattle.std.proofs.lemmas.List.Elements.{filter-append}
use Rattle.std.proofs.lemmas.List.Folds.{find-append}
use Rattle.vcd_core.specs.declared.capture.ScopeName.{ScopeName}
use Rattle.vcd_core.specs.Names.{name_in}
use Rattle.vcd_text.specs.Grammar.{VariableDeclaration}
use Rattle.vcd_part.specs.declared.patterns.Patterns.{Patterns}
use Rattle.vcd_part.specs.declared.request.Request.{Request}
use Rattle.vcd_part.specs.Pattern.{meets}
use Rattle.vcd_part.specs.Requests.{texts, meets_one, keeps_name, is_met, keeps, removes, leaves_none}
use Rattle.vcd_part.specs.WrittenPart.{named_variable, is_kept_event}
use Rattle.vcd_text.specs.AsDeclared.{declared_name}
use Rattle.vcd_part.specs.PartPieces.{bounded_count, kept_count, all_count}
use Rattle.vcd_part.specs.inside.Patterns.{HaveMet}

-- ---- names

-- the words of a name, run together
pub same_name : (scopes : List ScopeName) (text : List ℕ) (words : List (List ℕ)) → text ≡ concat words
    → name_in scopes (text ∷ []) ≡ name_in scopes words
unfolding name_in
same_name scopes text words is =
    let one : concat (text ∷ []) ≡ concat words = append-nil text ∙ is in
    rw one refl

-- ---- counts

-- one more
pub one_counted : {X : Type 0} (test : X → Bool) (xs : List X) (x : X) (so_far : ℕ) (counts : Bool)
    → so_far ≡ bounded_count (length (filter test xs)) → counts ≡ test x
    → bounded_count (if counts then so_far + 1 else so_far) ≡ bounded_count (length (filter test (xs ++ x ∷ [])))
one_counted test xs x so_far counts so is =
    let all : length (filter test (xs ++ x ∷ [])) ≡ length (filter test xs) + length (filter test (x ∷ [])) =
    ap length (filter-append test xs (x ∷ [])) ∙ length-append (filter test xs) (filter test (x ∷ [])) in
    by_test (test x) counts is refl all
  where
    by_test : (b counts : Bool) → counts ≡ b → test x ≡ b
        → length (filter test (xs ++ x ∷ [])) ≡ length (filter test xs) + length (filter test (x ∷ []))
        → bounded_count (if counts then so_far + 1 else so_far) ≡ bounded_count (length (filter test (xs ++ x ∷ [])))
    by_test true counts is holds all =
        let one : length (filter test (x ∷ [])) ≡ 1 = rw holds refl in
        rw is (omega (arith, all, one, so))
    by_test false counts is fails all =
        let none : length (filter test (x ∷ [])) ≡ 0 = rw fails refl in
        rw is (omega (arith, all, none, so))

-- one that does not pass
pub not_counted : {X : Type 0} (test : X → Bool) (xs : List X) (x : X) (so_far : ℕ)
    → so_far ≡ bounded_count (length (filter test xs)) → false ≡ test x
    → so_far ≡ bounded_count (length (filter test (xs ++ x ∷ [])))
not_counted test xs x so_far so isnt =
    let none : filter test (x ∷ []) ≡ [] = rw (← isnt) refl in
    so ∙ ap (λ l. bounded_count (length l)) (sym (filter-append test xs (x ∷ [])
    ∙ ap (λ l. filter test xs ++ l) none ∙ append-nil (filter test xs)))

-- one more of all
pub all_counted : {X : Type 0} (xs : List X) (x : X) (so_far : ℕ) → so_far ≡ bounded_count (length xs)
    → bounded_count (so_far + 1) ≡ bounded_count (length (xs ++ x ∷ []))
all_counted xs x so_far so = omega (arith, so, length-append xs (x ∷ []))

none_counted : (n : ℕ) → (bounded_count n == 0) ≡ (n == 0)
none_counted zero = refl
none_counted (suc n) = ne_eqb (bounded_count (suc n)) 0 (λ none. absurd (omega (arith, none)))
    ∙ sym (ne_eqb (suc n) 0 (λ none. absurd (omega (arith, none))))

none_passes : {X : Type 0} (test : X → Bool) (xs : List X) → (length (filter test xs) == 0) ≡ not (list_any test xs)
none_passes test [] = refl
none_passes test (x ∷ xs) = by_test (test x) refl (none_passes test xs)
  where
    by_test : (b : Bool) → test x ≡ b → (length (filter test xs) == 0) ≡ not (list_any test xs)
        → (length (filter test (x ∷ xs)) == 0) ≡ not (list_any test (x ∷ xs))
    by_test true holds rest =
        rw holds (ne_eqb (suc (length (filter test xs))) 0 (λ none. absurd (omega (arith, none))))
    by_test false fails rest = rw fails rest

-- by the counts, there are variables and none is kept
pub none_left : (r : Request) (declared : List VariableDeclaration) (kept all : ℕ) → kept ≡ kept_count r declared
    → all ≡ all_count declared → (not (all == 0) && kept == 0) ≡ leaves_none r declared
none_left r declared kept all kept_is all_is = ap₂ (λ a k. not a && k)
    (ap (λ n. n == 0) all_is ∙ none_counted (length declared))
    (ap (λ n. n == 0) kept_is ∙ none_counted (length (filter (keeps r) declared)) ∙ none_passes (keeps r) declared)

-- ---- the patterns

-- a name is kept
pub is_kept : (r : Request) (keep remove : Option (Bor (List (Bor (List ℕ))))) (name declared : List ℕ)
    (among removed kept : Bool) → keep ≡ r.keep → remove ≡ r.remove → name ≡ declared
    → among ≡ meets_one true (texts keep) name → removed ≡ meets_one false (texts remove) name
    → kept ≡ (among && not removed) → kept ≡ keeps_name r declared
is_kept r keep remove name declared among removed kept keep_is remove_is same meets_keep meets_remove is =
    is ∙ ap₂ (λ a b. a && not b)
    (meets_keep ∙ ap₂ (λ p n. meets_one true (texts p) n) keep_is same)
    (meets_remove ∙ ap₂ (λ p n. meets_one false (texts p) n) remove_is same)

-- a name is to be removed
pub is_removed : (r : Request) (remove : Option (Bor (List (Bor (List ℕ))))) (d : VariableDeclaration)
    (name : List ℕ) (removed : Bool) → remove ≡ r.remove → name ≡ declared_name d
    → removed ≡ meets_one false (texts remove) name → removed ≡ removes r d
is_removed r remove d name removed remove_is same meets =
    meets ∙ ap₂ (λ p n. meets_one false (texts p) n) remove_is same

-- one more of those that pass a test, as they are noted
pub noted_more : {A : Type 0} (f : VariableDeclaration → A) (test : VariableDeclaration → Bool)
    (declared : List VariableDeclaration) (d : VariableDeclaration) (before : List A) (passes : Bool) (one : A)
    → before ≡ map f (filter test declared) → passes ≡ test d → one ≡ f d
    → (if passes then before ++ one ∷ [] else before) ≡ map f (filter test (declared ++ d ∷ []))
noted_more {A} f test declared d before passes one before_are is same =
    (λ i. if is i then before_are i ++ same i ∷ [] else before_are i)
    ∙ by_test (test d) refl
    ∙ sym (ap (map f) (filter-append test declared (d ∷ []))
    ∙ map-append f noted (filter test (d ∷ [])))
  where
    noted : List VariableDeclaration
    noted = filter test declared

    by_test : (b : Bool) → test d ≡ b → (if test d then map f noted ++ f d ∷ [] else map f noted)
        ≡ map f noted ++ map f (filter test (d ∷ []))
    by_test true is = rw is refl
    by_test false is = rw is (sym (append-nil (map f noted)))

-- what is kept and of the kind of events is a kept event
pub kept_event_so : (r : Request) (d : VariableDeclaration) (kept passes : Bool) (kind : List ℕ)
    → kept ≡ keeps r d → kind ≡ d.kind → passes ≡ (kept && bytes_eq kind (codes "event"))
    → passes ≡ is_kept_event r d
kept_event_so r d kept passes kind kept_is same is =
    is ∙ ap₂ (λ a k. a && bytes_eq k (codes "event")) kept_is same

-- a name and a code are those of a variable
pub named_so : (d : VariableDeclaration) (name code : List ℕ) → name ≡ declared_name d → d.code ≡ code
    → record { name = name; code = code } ≡ named_variable d
named_so d name code same same_code = λ i. record { name = same i; code = sym same_code i }

-- one more name
pub met_more : (p : Patterns) (declared : List VariableDeclaration) (d : VariableDeclaration) (name : List ℕ)
    → name ≡ declared_name d → HaveMet p (map declared_name declared ++ name ∷ [])
    → HaveMet p (map declared_name (declared ++ d ∷ []))
met_more p declared d name is met = subst (HaveMet p)
    (ap (λ n. map declared_name declared ++ n ∷ []) is ∙ sym (map-append declared_name declared (d ∷ []))) met

-- ---- the first pattern that is missed

any_image : {X Y : Type 0} (f : X → Y) (p : Y → Bool) (xs : List X)
    → list_any p (map f xs) ≡ list_any (λ x. p (f x)) xs
any_image f p [] = refl
any_image f p (x ∷ xs) = ap (λ b. p (f x) || b) (any_image f p xs)

same_found : {Y : Type 0} (p q : Y → Bool) (ys : List Y) → ((y : Y) → p y ≡ q y) → find p ys ≡ find q ys
same_found p q [] same = refl
same_found p q (y ∷ ys) same = ap₂ (λ b rest. cond b (Some y) rest) (same y) (same_found p q ys same)

-- by names, and by variables
pub missed_is : (declared : List VariableDeclaration) (patterns : List (List ℕ))
    → find (λ p. not (list_any (meets p) (map declared_name declared))) patterns
    ≡ find (λ p. not (is_met declared p)) patterns
missed_is declared patterns = same_found (λ p. not (list_any (meets p) (map declared_name declared)))
    (λ p. not (is_met declared p)) patterns (λ p. ap not (any_image declared_name (meets p) declared))

-- it is in the first list
pub found_first : {Y : Type 0} (p : Y → Bool) (xs ys : List Y) (y : Y) → Some y ≡ find p xs
    → Some y ≡ find p (xs ++ ys)
found_first p xs ys y is = ap (λ o. option_or o (find p ys)) is ∙ sym (find-append p xs ys)

-- or in the second
pub found_later : {Y : Type 0} (p : Y → Bool) (xs ys : List Y) → None ≡ find p xs → find p ys ≡ find p (xs ++ ys)
found_later p xs ys none = ap (λ o. option_or o (find p ys)) none ∙ sym (find-append p xs ys)
