-- The last changes of codes: as they are held, and as they are written.
use Rattle.std.proofs.Common.{◌≡◌, ◌<◌, ◌≤◌, ◌+◌, ◌||◌, ◌&&◌, not, ℕ, suc, Bool, true, false, List, [], ◌∷◌, ◌++◌}
use Rattle.std.proofs.Common.{length, map, Option, Some, None, refl, sym, ap, ap₂, ◌∙◌, arith, cond, if◌then◌else◌}
use Rattle.std.specs.Prelude.{bytes_eq, position, unwrap_or, option_map, All, nat_lt}
use Rattle.std.specs.Option.{option_or}
use Rattle.std.specs.List.{list_any, position_or_len}
use Rattle.std.proofs.Math.Bool.{or-true, and-false, and-true}
use Rattle.std.proofs.Math.ListN.{set}
use Rattle.std.proofs.lemmas.Bool.{false≢true, ltb-false}
use Rattle.std.proofs.lemmas.List.{set_past, length-map}
use Rattle.std.proofs.lemmas.List.Elements.{All-append, All-cons, All-nil}
use Rattle.std.proofs.lemmas.List.Folds.{list_any-append}
use Rattle.vcd_text.specs.Grammar.{VariableDeclaration}
use Rattle.vcd_text.specs.Items.{Item, entry, timescale, scope, upscope, variable, end_definitions, stamp, scalar}
use Rattle.vcd_text.specs.Items.{vector, real_or_string, dump_word, other}
use Rattle.vcd_copy.specs.Pieces.{Piece}
use Rattle.vcd_part.specs.declared.request.Request.{Request}
use Rattle.vcd_part.specs.PartPieces.{each_once, lasting_codes, last_such, is_change_of, has_signal}
use Rattle.vcd_text.specs.inside.reading.CodeTargets.{code_target}
use Rattle.vcd_part.specs.declared.code_uses.CodeUse.{CodeUse}
use Rattle.vcd_part.specs.declared.code_uses.CodeUses.{CodeUses}
use Rattle.vcd_part.specs.inside.CodeUses.{AreUses, last_body, IsChangeItem}
use Rattle.vcd_part.proofs.code_uses.LastingCodes.{same_code, code_turned}

-- ---- a change of a code

-- it is one of each code that is the same, unless it is to a real number or a string, and a signal has the code
pub is_change : (declared : List VariableDeclaration) (code : List ℕ) (i : Item) (is_text : Bool)
    → IsChangeItem i is_text code → (key : List ℕ)
    → is_change_of declared key i ≡ (bytes_eq code key && not (is_text && has_signal declared code))
is_change declared code (scalar digit own) false is key =
    let same : own ≡ code = cc in
    ap (bytes_eq key) same ∙ code_turned key code ∙ sym (and-true (bytes_eq code key))
is_change declared code (vector first digits own) false is key =
    let same : own ≡ code = cc in
    ap (bytes_eq key) same ∙ code_turned key code ∙ sym (and-true (bytes_eq code key))
is_change declared code (real_or_string first text own) true is key =
    let same : own ≡ code = cc in
    ap (λ o. bytes_eq key o && not (has_signal declared key)) same
    ∙ ap (λ b. b && not (has_signal declared key)) (code_turned key code) ∙ by_test (bytes_eq code key) refl
  where
    by_test : (b : Bool) → bytes_eq code key ≡ b
        → (b && not (has_signal declared key)) ≡ (b && not (has_signal declared code))
    by_test true is = ap (λ k. not (has_signal declared k)) (sym (same_code code key is))
    by_test false is = refl
is_change declared code (real_or_string first text own) false is key = cc
is_change declared code (scalar digit own) true is key = cc
is_change declared code (vector first digits own) true is key = cc
is_change declared code (entry kind words) false is key = cc
is_change declared code (entry kind words) true is key = cc
is_change declared code (timescale words) false is key = cc
is_change declared code (timescale words) true is key = cc
is_change declared code (scope kind words) false is key = cc
is_change declared code (scope kind words) true is key = cc
is_change declared code upscope false is key = cc
is_change declared code upscope true is key = cc
is_change declared code (variable words) false is key = cc
is_change declared code (variable words) true is key = cc
is_change declared code end_definitions false is key = cc
is_change declared code end_definitions true is key = cc
is_change declared code (stamp digits) false is key = cc
is_change declared code (stamp digits) true is key = cc
is_change declared code (dump_word word) false is key = cc
is_change declared code (dump_word word) true is key = cc
is_change declared code (other word words) false is key = cc
is_change declared code (other word words) true is key = cc

-- ---- the last change, one piece more

last_more : (test : Item → Bool) (before : List Piece) (p : Piece) → last_such test (before ++ p ∷ [])
    ≡ (if test p.item then Some p else last_such test before)
unfolding last_such
last_more test [] p = refl
last_more test (x ∷ xs) p =
    ap (λ o. option_or o (if test x.item then Some x else None)) (last_more test xs p) ∙ by_test (test p.item)
  where
    by_test : (b : Bool) → option_or (if b then Some p else last_such test xs) (if test x.item then Some x else None)
        ≡ (if b then Some p else option_or (last_such test xs) (if test x.item then Some x else None))
    by_test true = refl
    by_test false = refl

body_more : (declared : List VariableDeclaration) (before : List Piece) (p : Piece) (key : List ℕ)
    → last_body declared (before ++ p ∷ []) key
    ≡ (if is_change_of declared key p.item then p.body else last_body declared before key)
body_more declared before p key =
    ap (λ (o : Option Piece). unwrap_or (option_map (λ (q : Piece). q.body) o) [])
    (last_more (is_change_of declared key) before p) ∙ by_test (is_change_of declared key p.item)
  where
    by_test : (b : Bool) → unwrap_or (option_map (λ (q : Piece). q.body)
        (if b then Some p else last_such (is_change_of declared key) before)) []
        ≡ (if b then p.body else last_body declared before key)
    by_test true = refl
    by_test false = refl

-- ---- the last changes of codes that stand once each

map_same : {X Y : Type 0} (f g : X → Y) (xs : List X) → ((x : X) → f x ≡ g x) → map f xs ≡ map g xs
map_same f g [] same = refl
map_same f g (x ∷ xs) same = ap₂ (λ y ys. y ∷ ys) (same x) (map_same f g xs same)

-- another value at one code
abbrev put_at : (code body : List ℕ) → (List ℕ → List ℕ) → List ℕ → List ℕ
put_at code body f key = if bytes_eq code key then body else f key

-- a code that stood before is not among them
not_again : (code body : List ℕ) (f : List ℕ → List ℕ) (before ws : List (List ℕ))
    → list_any (bytes_eq code) before ≡ true
    → map (put_at code body f) (each_once before ws) ≡ map f (each_once before ws)
unfolding each_once
not_again code body f before [] there = refl
not_again code body f before (x ∷ xs) there =
    by_test (list_any (bytes_eq x) before) refl (not_again code body f before xs there)
    (not_again code body f (before ++ x ∷ []) xs
    (list_any-append (bytes_eq code) before (x ∷ []) ∙ ap (λ b. b || list_any (bytes_eq code) (x ∷ [])) there))
  where
    here : list_any (bytes_eq x) before ≡ false → (b : Bool) → bytes_eq code x ≡ b
        → (if b then body else f x) ≡ f x
    here none true is =
        absurd (false≢true (sym none ∙ ap (λ k. list_any (bytes_eq k) before) (sym (same_code code x is)) ∙ there))
    here none false is = refl

    by_test : (b : Bool) → list_any (bytes_eq x) before ≡ b
        → map (put_at code body f) (each_once before xs) ≡ map f (each_once before xs)
        → map (put_at code body f) (each_once (before ++ x ∷ []) xs) ≡ map f (each_once (before ++ x ∷ []) xs)
        → map (put_at code body f) (if b then each_once before xs else x ∷ each_once (before ++ x ∷ []) xs)
        ≡ map f (if b then each_once before xs else x ∷ each_once (before ++ x ∷ []) xs)
    by_test true is known new = known
    by_test false is known new = ap₂ (λ y ys. y ∷ ys) (here is (bytes_eq code x) refl) new

-- so another value at one code is another element at its place
one_put : (code body : List ℕ) (f : List ℕ → List ℕ) (before ws : List (List ℕ))
    → map (put_at code body f) (each_once before ws)
    ≡ set (map f (each_once before ws)) (position_or_len (bytes_eq code) (each_once before ws)) body
unfolding each_once
one_put code body f before [] = refl
one_put code body f before (x ∷ xs) =
    by_test (list_any (bytes_eq x) before) (one_put code body f before xs) (one_put code body f (before ++ x ∷ []) xs)
  where
    here : (rest : List (List ℕ)) (b : Bool) → (b ≡ true → map (put_at code body f) rest ≡ map f rest)
        → map (put_at code body f) rest ≡ set (map f rest) (position_or_len (bytes_eq code) rest) body
        → (if b then body else f x) ∷ map (put_at code body f) rest
        ≡ set (f x ∷ map f rest) (cond (not b) (1 + position_or_len (bytes_eq code) rest) 0) body
    here rest true stays put = ap (λ l. body ∷ l) (stays refl)
    here rest false stays put =
        let e : 1 + position_or_len (bytes_eq code) rest ≡ suc (position_or_len (bytes_eq code) rest) = omega arith in
        ap (λ l. f x ∷ l) put ∙ sym (ap (λ n. set (f x ∷ map f rest) n body) e)

    met : bytes_eq code x ≡ true → list_any (bytes_eq code) (before ++ x ∷ []) ≡ true
    met is = list_any-append (bytes_eq code) before (x ∷ [])
        ∙ ap (λ b. list_any (bytes_eq code) before || (b || false)) is ∙ or-true (list_any (bytes_eq code) before)

    by_test : (b : Bool) → map (put_at code body f) (each_once before xs)
        ≡ set (map f (each_once before xs)) (position_or_len (bytes_eq code) (each_once before xs)) body
        → map (put_at code body f) (each_once (before ++ x ∷ []) xs)
        ≡ set (map f (each_once (before ++ x ∷ []) xs))
        (position_or_len (bytes_eq code) (each_once (before ++ x ∷ []) xs)) body
        → map (put_at code body f) (if b then each_once before xs else x ∷ each_once (before ++ x ∷ []) xs)
        ≡ set (map f (if b then each_once before xs else x ∷ each_once (before ++ x ∷ []) xs))
        (position_or_len (bytes_eq code) (if b then each_once before xs else x ∷ each_once (before ++ x ∷ []) xs)) body
    by_test true known put = known
    by_test false known put = here (each_once (before ++ x ∷ []) xs) (bytes_eq code x)
        (λ is. not_again code body f (before ++ x ∷ []) xs (met is)) put

-- the place of a code that is there, and of one that is not
pub place_if_some : {X : Type 0} (p : X → Bool) (xs : List X) (i : ℕ) → position p xs ≡ Some i
    → position_or_len p xs ≡ i
place_if_some p xs i is = by_test (nat_lt (position_or_len p xs) (length xs)) is
  where
    by_test : (b : Bool) → cond b (Some (position_or_len p xs)) None ≡ Some i → position_or_len p xs ≡ i
    by_test true is = cc
    by_test false is = cc

pub place_if_none : {X : Type 0} (p : X → Bool) (xs : List X) → position p xs ≡ None
    → length xs ≤ position_or_len p xs
place_if_none p xs is = by_test (nat_lt (position_or_len p xs) (length xs)) refl is
  where
    by_test : (b : Bool) → nat_lt (position_or_len p xs) (length xs) ≡ b
        → cond b (Some (position_or_len p xs)) None ≡ None → length xs ≤ position_or_len p xs
    by_test true test is = cc
    by_test false test is = ltb-false (position_or_len p xs) (length xs) test

-- ---- the last change of each code, one piece more

-- one that means nothing
pub last_stays : (declared : List VariableDeclaration) (before : List Piece) (p : Piece) (code : List ℕ)
    (is_text : Bool) → IsChangeItem p.item is_text code → (is_text && has_signal declared code) ≡ true
    → (all : List (List ℕ))
    → map (last_body declared before) all ≡ map (last_body declared (before ++ p ∷ [])) all
last_stays declared before p code is_text change nothing all = map_same _ _ all (λ key. sym
    (body_more declared before p key ∙ ap (λ b. if b then p.body else last_body declared before key)
    (is_change declared code p.item is_text change key ∙ ap (λ b. bytes_eq code key && not b) nothing
    ∙ and-false (bytes_eq code key))))

-- one of this code
pub last_put : (r : Request) (declared : List VariableDeclaration) (before : List Piece) (p : Piece) (code : List ℕ)
    (is_text : Bool) → IsChangeItem p.item is_text code → (is_text && has_signal declared code) ≡ false
    → set (map (last_body declared before) (lasting_codes r declared))
    (position_or_len (bytes_eq code) (lasting_codes r declared)) p.body
    ≡ map (last_body declared (before ++ p ∷ [])) (lasting_codes r declared)
last_put r declared before p code is_text change something =
    sym (map_same _ (put_at code p.body (last_body declared before)) (lasting_codes r declared)
    (λ key. body_more declared before p key ∙ ap (λ b. if b then p.body else last_body declared before key)
    (is_change declared code p.item is_text change key ∙ ap (λ b. bytes_eq code key && not b) something
    ∙ and-true (bytes_eq code key)))
    ∙ one_put code p.body (last_body declared before) [] _)

-- one of a code without a place
pub last_misses : (r : Request) (declared : List VariableDeclaration) (before : List Piece) (p : Piece)
    (code : List ℕ) (is_text : Bool) → IsChangeItem p.item is_text code
    → (is_text && has_signal declared code) ≡ false → position (bytes_eq code) (lasting_codes r declared) ≡ None
    → map (last_body declared before) (lasting_codes r declared)
    ≡ map (last_body declared (before ++ p ∷ [])) (lasting_codes r declared)
last_misses r declared before p code is_text change something none =
    let all = lasting_codes r declared in
    let past = place_if_none (bytes_eq code) all none in
    sym (set_past (map (last_body declared before) all) (position_or_len (bytes_eq code) all) p.body
    (omega (arith, past, length-map all (last_body declared before))))
    ∙ last_put r declared before p code is_text change something

-- ---- what was found of its code

-- what was found tells whether the change means something
pub means_as_found : (c : CodeUses) (r : Request) (declared : List VariableDeclaration) (code : List ℕ)
    (found : CodeUse) (is_text nothing : Bool) → AreUses c r declared → found ≡ code_target c.uses code
    → nothing ≡ (is_text && found.has_signal) → (is_text && has_signal declared code) ≡ nothing
means_as_found c r declared code found is_text nothing uses is told =
    sym (told ∙ ap (λ (u : CodeUse). is_text && u.has_signal) (is ∙ uses.uses code))

-- and its place
pub place_as_found : (c : CodeUses) (r : Request) (declared : List VariableDeclaration) (code : List ℕ)
    (found : CodeUse) → AreUses c r declared → found ≡ code_target c.uses code
    → position (bytes_eq code) (lasting_codes r declared) ≡ found.index
place_as_found c r declared code found uses is = sym (ap (λ (u : CodeUse). u.index) (is ∙ uses.uses code))

-- all pieces still have a byte
pub one_more : (before : List Piece) (p : Piece) → All (λ q. 0 < length q.body) before → 0 < length p.body
    → All (λ q. 0 < length q.body) (before ++ p ∷ [])
one_more before p each one =
    let has_byte : Piece → Type 0 = λ q. 0 < length q.body in
    All-append has_byte before (p ∷ []) each (All-cons has_byte p [] one (All-nil has_byte))
