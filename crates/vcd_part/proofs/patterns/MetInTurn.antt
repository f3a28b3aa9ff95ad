-- Patterns, of which one after another is noted or looked at.
use Rattle.std.proofs.Common.{◌≡◌, ℕ, zero, suc, ◌+◌, ◌<◌, ◌≤◌, Bool, true, false, ◌||◌, List, [], ◌∷◌, ◌++◌, length}
use Rattle.std.proofs.Common.{take, drop, map, refl, sym, ap, ◌∙◌, arith, get_or, set, Some, None}
use Rattle.std.specs.Prelude.{find}
use Rattle.std.specs.List.{list_any}
use Rattle.std.proofs.lemmas.Bool.{or_parts}
use Rattle.std.proofs.lemmas.List.{map_more, take_all}
use Rattle.std.proofs.lemmas.List.Folds.{list_any-append}

-- ---- whether one passes

passes_last : (a b : Bool) → b ≡ true → true ≡ (a || (b || false))
passes_last true b is = refl
passes_last false b is = rw is refl

fails_last : (a b : Bool) → b ≡ false → a ≡ (a || (b || false))
fails_last true b is = refl
fails_last false b is = rw is refl

-- the last one passes
pub last_passes : {Y : Type 0} (p : Y → Bool) (ys : List Y) (y : Y) → p y ≡ true → true ≡ list_any p (ys ++ y ∷ [])
last_passes p ys y is = passes_last (list_any p ys) (p y) is ∙ sym (list_any-append p ys (y ∷ []))

-- the last one fails
pub last_fails : {Y : Type 0} (p : Y → Bool) (ys : List Y) (y : Y) → p y ≡ false
    → list_any p ys ≡ list_any p (ys ++ y ∷ [])
last_fails p ys y is = fails_last (list_any p ys) (p y) is ∙ sym (list_any-append p ys (y ∷ []))

-- the next image passes
pub next_passes : {X Y : Type 0} (f : X → Y) (p : Y → Bool) (xs : List X) (k : ℕ) (d : X) → k < length xs
    → p (f (get_or xs k d)) ≡ true → true ≡ list_any p (map f (take (k + 1) xs))
next_passes f p xs k d within is = last_passes p _ _ is ∙ sym (ap (list_any p) (map_more f xs k d within))

-- the next image fails
pub next_fails : {X Y : Type 0} (f : X → Y) (p : Y → Bool) (xs : List X) (k : ℕ) (d : X) → k < length xs
    → p (f (get_or xs k d)) ≡ false → list_any p (map f (take k xs)) ≡ list_any p (map f (take (k + 1) xs))
next_fails f p xs k d within is = last_fails p _ _ is ∙ sym (ap (list_any p) (map_more f xs k d within))

-- ---- whether each is met

-- whether the patterns before `k` are met by `g`, and the others by `h`
abbrev pub met_up_to : {X Y : Type 0} (f : X → Y) (g h : Y → Bool) (xs : List X) (k : ℕ) → List Bool
met_up_to f g h xs k = map g (map f (take k xs)) ++ map h (map f (drop k xs))

-- the pattern at `k` is noted
pub one_set : {X Y : Type 0} (f : X → Y) (g h : Y → Bool) (xs : List X) (k : ℕ) (d : X) → k < length xs
    → true ≡ g (f (get_or xs k d))
    → set (met_up_to f g h xs k) k true ≡ met_up_to f g h xs (suc k)
one_set f g h [] k d within is = absurd (omega (arith, within))
one_set f g h (x ∷ xs) zero d within is = ap (λ b. b ∷ map h (map f xs)) is
one_set f g h (x ∷ xs) (suc k) d within is =
    ap (λ bs. g (f x) ∷ bs) (one_set f g h xs k d (omega (arith, within)) is)

-- the pattern at `k` stays as it is
pub one_same : {X Y : Type 0} (f : X → Y) (g h : Y → Bool) (xs : List X) (k : ℕ) (d : X) → k < length xs
    → h (f (get_or xs k d)) ≡ g (f (get_or xs k d))
    → met_up_to f g h xs k ≡ met_up_to f g h xs (suc k)
one_same f g h [] k d within is = absurd (omega (arith, within))
one_same f g h (x ∷ xs) zero d within is = ap (λ b. b ∷ map h (map f xs)) is
one_same f g h (x ∷ xs) (suc k) d within is =
    ap (λ bs. g (f x) ∷ bs) (one_same f g h xs k d (omega (arith, within)) is)

pub one_more : (k : ℕ) → suc k ≡ k + 1
one_more k = omega arith

-- ---- the first that passes

pub first_passes : {X Y : Type 0} (f : X → Y) (p : Y → Bool) (xs : List X) (k : ℕ) (d : X) → k < length xs
    → list_any p (map f (take k xs)) ≡ false → p (f (get_or xs k d)) ≡ true
    → Some (f (get_or xs k d)) ≡ find p (map f xs)
first_passes f p [] k d within none passes = absurd (omega (arith, within))
first_passes f p (x ∷ xs) zero d within none passes = rw passes refl
first_passes f p (x ∷ xs) (suc k) d within none passes =
    let parts = or_parts (p (f x)) (list_any p (map f (take k xs))) none in
    rw parts.0 (first_passes f p xs k d (omega (arith, within)) parts.1 passes)

none_found : {Y : Type 0} (p : Y → Bool) (ys : List Y) → list_any p ys ≡ false → None ≡ find p ys
none_found p [] none = refl
none_found p (y ∷ ys) none = let parts = or_parts (p y) (list_any p ys) none in rw parts.0 (none_found p ys parts.1)

pub none_passes : {X Y : Type 0} (f : X → Y) (p : Y → Bool) (xs : List X) (k : ℕ) → length xs ≤ k
    → list_any p (map f (take k xs)) ≡ false → None ≡ find p (map f xs)
none_passes f p xs k end none =
    none_found p (map f xs) (ap (λ l. list_any p (map f l)) (sym (take_all k xs end)) ∙ none)

-- what is noted of the pattern at `k`
pub noted_at : {X Y : Type 0} (f : X → Y) (g : Y → Bool) (xs : List X) (met : List Bool) (k : ℕ) (d : X)
    → k < length xs → met ≡ map g (map f xs) → get_or met k false ≡ g (f (get_or xs k d))
noted_at f g xs met k d within is = ap (λ l. get_or l k false) is ∙ at f g xs k d within
  where
    at : {X Y : Type 0} (f : X → Y) (g : Y → Bool) (xs : List X) (k : ℕ) (d : X) → k < length xs
        → get_or (map g (map f xs)) k false ≡ g (f (get_or xs k d))
    at f g [] k d within = absurd (omega (arith, within))
    at f g (x ∷ xs) zero d within = refl
    at f g (x ∷ xs) (suc k) d within = at f g xs k d (omega (arith, within))
