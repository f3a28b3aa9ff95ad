-- The codes whose values last: each stands once, and a declaration more adds at most its code.
use Rattle.std.proofs.Common.{◌≡◌, ◌+◌, ◌||◌, ◌&&◌, not, ℕ, Bool, true, false, List, [], ◌∷◌, ◌++◌}
use Rattle.std.proofs.Common.{length, map, Option, Some, None, refl, sym, ap, ap₂, ◌∙◌, arith, cond, if◌then◌else◌}
use Rattle.std.proofs.Common.{append_assoc, filter, is_some}
use Rattle.std.specs.Prelude.{bytes_eq, codes, position}
use Rattle.std.specs.Option.{option_or}
use Rattle.std.specs.List.{list_any, position_from}
use Rattle.std.proofs.Math.Bool.{or-false, and-false, and-true}
use Rattle.std.proofs.lemmas.Bool.{cases_Bool, false≢true}
use Rattle.std.proofs.lemmas.Iterator.Adapters.{position_from-zero}
use Rattle.std.proofs.lemmas.List.{append-nil, map-append, length-append}
use Rattle.std.proofs.lemmas.List.Elements.{filter-append}
use Rattle.std.proofs.lemmas.List.Folds.{list_any-append}
use Rattle.std.proofs.lemmas.Slice.Eq.{bytes_eq-Decides}
use Rattle.vcd_text.specs.Grammar.{VariableDeclaration, is_skipped}
use Rattle.vcd_part.specs.declared.request.Request.{Request}
use Rattle.vcd_part.specs.Requests.{keeps}
use Rattle.vcd_part.specs.declared.code_uses.CodeUse.{CodeUse}
use Rattle.vcd_part.specs.PartPieces.{each_once, lasting_codes, is_used, has_signal}
use Rattle.vcd_part.specs.inside.CodeUses.{use_of}

-- ---- equal codes

pub same_code : (a b : List ℕ) → bytes_eq a b ≡ true → a ≡ b
same_code a b = (bytes_eq-Decides a b).0

pub code_turned : (a b : List ℕ) → bytes_eq a b ≡ bytes_eq b a
code_turned a b = grind (arith, bytes_eq-Decides, cases_Bool)

-- ---- words once each

-- a word, unless it is among these
abbrev pub if_new : List ℕ → List (List ℕ) → List (List ℕ)
if_new w known = if list_any (bytes_eq w) known then [] else w ∷ []

-- one word more
pub each_once_more : (before ws : List (List ℕ)) (w : List ℕ) → each_once before (ws ++ w ∷ [])
    ≡ each_once before ws ++ if_new w (before ++ each_once before ws)
unfolding each_once
each_once_more before [] w = ap (if_new w) (sym (append-nil before))
each_once_more before (x ∷ xs) w =
    choose (list_any (bytes_eq x) before) _ _ _ _ (each_once_more before xs w) (each_once_more (before ++ x ∷ []) xs w)
  where
    choose : (is_known : Bool) (known known_more new new_more : List (List ℕ))
        → known_more ≡ known ++ if_new w (before ++ known) → new_more ≡ new ++ if_new w ((before ++ x ∷ []) ++ new)
        → (if is_known then known_more else x ∷ new_more) ≡ (if is_known then known else x ∷ new)
        ++ if_new w (before ++ (if is_known then known else x ∷ new))
    choose true known known_more new new_more of_known of_new = of_known
    choose false known known_more new new_more of_known of_new = ap (λ l. x ∷ l) (of_new
        ∙ ap (λ l. new ++ if_new w l) (append_assoc before (x ∷ []) new))

-- ---- the place of a code

place_from : {X : Type 0} (p : X → Bool) (i : ℕ) (xs : List X) (y : X) → position_from p i (xs ++ y ∷ [])
    ≡ option_or (position_from p i xs) (if p y then Some (i + length xs) else None)
place_from p i [] y = ap (λ (n : ℕ). if p y then Some n else None) (let e : i ≡ i + 0 = omega arith in e)
place_from p i (x ∷ xs) y =
    let e : i + 1 + length xs ≡ i + length (x ∷ xs) = omega arith in
    by_test (p x) (place_from p (i + 1) xs y
    ∙ ap (λ (n : ℕ). option_or (position_from p (i + 1) xs) (if p y then Some n else None)) e)
  where
    by_test : (b : Bool) → position_from p (i + 1) (xs ++ y ∷ [])
        ≡ option_or (position_from p (i + 1) xs) (if p y then Some (i + length (x ∷ xs)) else None)
        → cond b (Some i) (position_from p (i + 1) (xs ++ y ∷ []))
        ≡ option_or (cond b (Some i) (position_from p (i + 1) xs)) (if p y then Some (i + length (x ∷ xs)) else None)
    by_test true rest = refl
    by_test false rest = rest

-- in a list with one more
pub place_more : {X : Type 0} (p : X → Bool) (xs : List X) (y : X) → position p (xs ++ y ∷ [])
    ≡ option_or (position p xs) (if p y then Some (length xs) else None)
place_more p xs y =
    let e : 0 + length xs ≡ length xs = omega arith in
    position_from-zero p (xs ++ y ∷ []) ∙ place_from p 0 xs y
    ∙ ap₂ (λ o (n : ℕ). option_or o (if p y then Some n else None)) (sym (position_from-zero p xs)) e

found_from : {X : Type 0} (p : X → Bool) (i : ℕ) (xs : List X) → is_some (position_from p i xs) ≡ list_any p xs
found_from p i [] = refl
found_from p i (x ∷ xs) = by_test (p x) (found_from p (i + 1) xs)
  where
    by_test : (b : Bool) → is_some (position_from p (i + 1) xs) ≡ list_any p xs
        → is_some (cond b (Some i) (position_from p (i + 1) xs)) ≡ (b || list_any p xs)
    by_test true rest = refl
    by_test false rest = rest

-- it has one if it is there
pub found_if_any : {X : Type 0} (p : X → Bool) (xs : List X) → is_some (position p xs) ≡ list_any p xs
found_if_any p xs = ap is_some (position_from-zero p xs) ∙ found_from p 0 xs

-- ---- the codes whose values last

-- one declaration more
codes_more : (r : Request) (before : List VariableDeclaration) (d : VariableDeclaration) (lasts : Bool)
    → lasts ≡ (keeps r d && not (bytes_eq d.kind (codes "event")))
    → lasting_codes r (before ++ d ∷ [])
    ≡ lasting_codes r before ++ (if lasts then if_new d.code (lasting_codes r before) else [])
codes_more r before d lasts is =
    let test : VariableDeclaration → Bool = λ v. keeps r v && not (bytes_eq v.kind (codes "event")) in
    let code : VariableDeclaration → List ℕ = λ v. v.code in
    let kept : filter test (before ++ d ∷ []) ≡ filter test before ++ (if lasts then d ∷ [] else []) =
    filter-append test before (d ∷ []) ∙ ap (λ b. filter test before ++ (if b then d ∷ [] else [])) (sym is) in
    ap (λ l. each_once [] (map code l)) kept
    ∙ ap (each_once []) (map-append code (filter test before) (if lasts then d ∷ [] else []))
    ∙ by_test lasts (map code (filter test before))
  where
    by_test : (b : Bool) (ws : List (List ℕ)) → each_once [] (ws ++ map (λ v. v.code) (if b then d ∷ [] else []))
        ≡ each_once [] ws ++ (if b then if_new d.code (each_once [] ws) else [])
    by_test true ws = each_once_more [] ws d.code
    by_test false ws = ap (each_once []) (append-nil ws) ∙ sym (append-nil (each_once [] ws))

-- one declaration more, by the place of its code
pub lasting_more : (r : Request) (before : List VariableDeclaration) (d : VariableDeclaration) (lasts : Bool)
    → lasts ≡ (keeps r d && not (bytes_eq d.kind (codes "event")))
    → lasting_codes r (before ++ d ∷ [])
    ≡ (if is_some (position (bytes_eq d.code) (lasting_codes r before)) || not lasts then lasting_codes r before
    else lasting_codes r before ++ d.code ∷ [])
lasting_more r before d lasts is =
    let all = lasting_codes r before in
    codes_more r before d lasts is ∙ by_test lasts all (list_any (bytes_eq d.code) all)
    ∙ ap (λ b. if b || not lasts then all else all ++ d.code ∷ []) (sym (found_if_any (bytes_eq d.code) all))
  where
    by_test : (lasts : Bool) (all : List (List ℕ)) (is_there : Bool)
        → all ++ (if lasts then (if is_there then [] else d.code ∷ []) else [])
        ≡ (if is_there || not lasts then all else all ++ d.code ∷ [])
    by_test true all true = append-nil all
    by_test true all false = refl
    by_test false all true = append-nil all
    by_test false all false = append-nil all

-- ---- what a code means, one declaration more

-- a code of one more
any_more : {X : Type 0} (f : X → Bool) (code : X → List ℕ) (before : List X) (d : X) (key : List ℕ)
    → (if bytes_eq key (code d) then (list_any (λ x. f x && bytes_eq (code d) (code x)) before || f d)
    else list_any (λ x. f x && bytes_eq key (code x)) before)
    ≡ list_any (λ x. f x && bytes_eq key (code x)) (before ++ d ∷ [])
any_more {X} f code before d key =
    by_test (bytes_eq key (code d)) refl
    ∙ sym (list_any-append (λ x. f x && bytes_eq key (code x)) before (d ∷ []))
  where
    by_test : (b : Bool) → bytes_eq key (code d) ≡ b
        → (if b then (list_any (λ x. f x && bytes_eq (code d) (code x)) before || f d)
        else list_any (λ x. f x && bytes_eq key (code x)) before)
        ≡ (list_any (λ x. f x && bytes_eq key (code x)) before || ((f d && bytes_eq key (code d)) || false))
    by_test true is = rw (is, and-true, or-false)
        (ap (λ k. list_any (λ (x : X). f x && bytes_eq k (code x)) before || f d) (sym (same_code key (code d) is)))
    by_test false is = rw (is, and-false, or-false) refl

-- the place of a code; it is the next one if a code is added
place_by : (code key : List ℕ) (all : List (List ℕ)) (b : Bool)
    → (b ≡ false → is_some (position (bytes_eq code) all) ≡ false)
    → (if bytes_eq key code then (if b then position (bytes_eq code) all else Some (length all))
    else position (bytes_eq key) all)
    ≡ position (bytes_eq key) (if b then all else all ++ code ∷ [])
place_by code key all true none = by_test (bytes_eq key code) refl
  where
    by_test : (b : Bool) → bytes_eq key code ≡ b
        → (if b then position (bytes_eq code) all else position (bytes_eq key) all) ≡ position (bytes_eq key) all
    by_test true is = ap (λ k. position (bytes_eq k) all) (sym (same_code key code is))
    by_test false is = refl
place_by code key all false none =
    by_test (bytes_eq key code) refl ∙ sym (place_more (bytes_eq key) all code)
  where
    first : (o : Option ℕ) → is_some o ≡ false → (n : ℕ) → Some n ≡ option_or o (Some n)
    first None is n = refl
    first (Some i) is n = absurd (false≢true (sym is))

    alone : (o : Option ℕ) → o ≡ option_or o None
    alone None = refl
    alone (Some i) = refl

    by_test : (b : Bool) → bytes_eq key code ≡ b
        → (if b then Some (length all) else position (bytes_eq key) all)
        ≡ option_or (position (bytes_eq key) all) (if bytes_eq key code then Some (length all) else None)
    by_test true is = rw is (first (position (bytes_eq key) all)
        (ap (λ k. is_some (position (bytes_eq k) all)) (same_code key code is) ∙ none refl) (length all))
    by_test false is = rw is (alone (position (bytes_eq key) all))

-- two meanings with equal parts
made : (a b : CodeUse) → a.is_used ≡ b.is_used → a.has_signal ≡ b.has_signal → a.index ≡ b.index → a ≡ b
made a b used signal index =
    let of : Bool → Bool → Option ℕ → CodeUse = λ u s i. record { is_used = u; has_signal = s; index = i } in
    ap (λ (u : Bool). of u a.has_signal a.index) used ∙ ap (λ (s : Bool). of b.is_used s a.index) signal
    ∙ ap (λ (i : Option ℕ). of b.is_used b.has_signal i) index

-- what each code means after a declaration more, whose code was given this target
pub use_more : (r : Request) (before : List VariableDeclaration) (d : VariableDeclaration) (lasts : Bool)
    (target : CodeUse)
    → lasts ≡ (keeps r d && not (bytes_eq d.kind (codes "event")))
    → target.is_used ≡ (is_used r before d.code || keeps r d)
    → target.has_signal ≡ (has_signal before d.code || not (is_skipped d))
    → target.index ≡ (if is_some (position (bytes_eq d.code) (lasting_codes r before)) || not lasts
    then position (bytes_eq d.code) (lasting_codes r before) else Some (length (lasting_codes r before)))
    → (key : List ℕ) → (if bytes_eq key d.code then target else use_of r before key) ≡ use_of r (before ++ d ∷ []) key
use_more r before d lasts target is used signal index key =
    let all = lasting_codes r before in
    let stays = is_some (position (bytes_eq d.code) all) || not lasts in
    made _ _
    (field_of (bytes_eq key d.code) (λ u. u.is_used) used
    ∙ any_more (keeps r) (λ v. v.code) before d key)
    (field_of (bytes_eq key d.code) (λ u. u.has_signal) signal
    ∙ any_more (λ v. not (is_skipped v)) (λ v. v.code) before d key)
    (field_of (bytes_eq key d.code) (λ u. u.index) index
    ∙ place_by d.code key all stays (or_parts _ _)
    ∙ ap (position (bytes_eq key)) (sym (lasting_more r before d lasts is)))
  where
    or_parts : (a b : Bool) → (a || b) ≡ false → a ≡ false
    or_parts true b none = none
    or_parts false b none = refl

    field_of : {X : Type 0} (b : Bool) (field : CodeUse → X) {x : X} → field target ≡ x
        → field (if b then target else use_of r before key) ≡ (if b then x else field (use_of r before key))
    field_of true field is = is
    field_of false field is = refl

-- ---- what is held of each code, one declaration more

-- one for each code
pub held_more : {X : Type 0} (b : Bool) (all : List (List ℕ)) (code : List ℕ) (old new : List X) (x : X)
    → new ≡ (if b then old else old ++ x ∷ []) → length old ≡ length all
    → length new ≡ length (if b then all else all ++ code ∷ [])
held_more true all code old new x is count = ap length is ∙ count
held_more {X} false all code old new x is count =
    omega (arith, ap (length {A = X}) is, length-append old (x ∷ []), length-append all (code ∷ []), count)

-- nothing for each code
pub none_more : (b : Bool) (all : List (List ℕ)) (code : List ℕ) (old new : List (List ℕ))
    → new ≡ (if b then old else old ++ [] ∷ []) → old ≡ map (λ key. []) all
    → new ≡ map (λ key. []) (if b then all else all ++ code ∷ [])
none_more true all code old new is none = is ∙ none
none_more false all code old new is none =
    let nothing : List ℕ → List ℕ = λ key. [] in
    is ∙ ap (λ l. l ++ [] ∷ []) none ∙ sym (map-append nothing all (code ∷ []))
