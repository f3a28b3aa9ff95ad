-- Lemmas about lists: what is found, what is at an index, and what holds of each element.
use Rattle.std.proofs.Common.{◌≡◌, ℕ, true, List, [], ◌∷◌, ◌++◌, refl, arith, inl, inr, Bool, Option, Some, None, All}
use Rattle.std.proofs.Common.{◌∙◌, sym, ap, subst, get_or, zero, suc, ◌+◌, ◌<◌, map, length, take, drop, ap₂, ◌⊎◌}
use Rattle.std.proofs.Common.{add-one}
use Rattle.std.specs.Prelude.{find, is_some, option_map}
use Rattle.std.specs.List.{list_any, slice_get}
use Rattle.std.proofs.lemmas.Bool.{cases_Bool, false≢true, or_right, or_left}
use Rattle.std.proofs.lemmas.List.Elements.{All-nil, All-cons, All-head, All-tail}
use Rattle.std.proofs.lemmas.Option.{same_Some, slice_get-map, slice_get-get_or}
use Rattle.std.proofs.lemmas.List.Folds.{find-append}
use Rattle.std.specs.Option.{option_or}
use Rattle.std.proofs.Math.Seq.{drop-cons}

-- ==== what is found

-- an element that is found has what all have
pub found_has : {A : Type 0} (P : A → Type 0) (p : A → Bool) (xs : List A) (y : A) → All P xs → find p xs ≡ Some y
    → P y
found_has P p [] y all found = let never : None ≡ Some y = found in absurd (cc)
found_has P p (x ∷ xs) y all found = elim (cases_Bool (p x)) [
  | inl here ↦ subst P (same_Some x y (rw here at found)) (All-head P x xs all)
  | inr there ↦ found_has P p xs y (All-tail P x xs all) (rw there at found)
]

-- it passes
pub found_is : {A : Type 0} (p : A → Bool) (xs : List A) (y : A) → find p xs ≡ Some y → p y ≡ true
found_is p [] y found = let never : None ≡ Some y = found in absurd (cc)
found_is p (x ∷ xs) y found = elim (cases_Bool (p x)) [
  | inl here ↦ ap p (sym (same_Some x y (rw here at found))) ∙ here
  | inr there ↦ found_is p xs y (rw there at found)
]

-- what is there
pub is_there : {A : Type 0} (o : Option A) → is_some o ≡ true → (x : A) × (o ≡ Some x)
is_there None some = absurd (false≢true some)
is_there (Some x) some = (x, refl)

-- an element of the list passes
pub some_passes : {A : Type 0} (p : A → Bool) (xs : List A) (y : A) (ys : List A) → p y ≡ true
    → is_some (find p (xs ++ y ∷ ys)) ≡ true
some_passes p [] y ys passes = rw passes refl
some_passes p (x ∷ xs) y ys passes = elim (cases_Bool (p x)) [
  | inl here ↦ rw here refl
  | inr there ↦ rw there (some_passes p xs y ys passes)
]

-- an element of either list passes
pub some_first : {A : Type 0} (p : A → Bool) (xs ys : List A) → is_some (find p xs) ≡ true
    → is_some (find p (xs ++ ys)) ≡ true
some_first p [] ys some = absurd (false≢true some)
some_first p (x ∷ xs) ys some = elim (cases_Bool (p x)) [
  | inl here ↦ rw here refl
  | inr there ↦ rw there (some_first p xs ys (rw there at some))
]

pub some_last : {A : Type 0} (p : A → Bool) (xs ys : List A) → is_some (find p ys) ≡ true
    → is_some (find p (xs ++ ys)) ≡ true
some_last p [] ys some = some
some_last p (x ∷ xs) ys some = elim (cases_Bool (p x)) [
  | inl here ↦ rw here refl
  | inr there ↦ rw there (some_last p xs ys some)
]

-- what is found in a list is found in a longer one
pub found_first : {A : Type 0} (p : A → Bool) (xs ys : List A) (x : A) → find p xs ≡ Some x → find p (xs ++ ys) ≡ Some x
found_first p xs ys x found = find-append p xs ys ∙ ap (λ o. option_or o (find p ys)) found

-- ==== what is at an index

-- what is seen of an item
pub at_item : {A B : Type 0} (view : A → B) (xs : List A) (i : ℕ) (x : A) → i < length xs → x ≡ get_or xs i x
    → slice_get (map view xs) i ≡ Some (view x)
at_item view xs i x early is =
    slice_get-map view xs i ∙ ap (option_map view) (slice_get-get_or xs i x early ∙ ap Some (sym is))

-- an item that passes
pub any_at : {A : Type 0} (p : A → Bool) (xs : List A) (i : ℕ) (x : A) → slice_get xs i ≡ Some x → p x ≡ true
    → list_any p xs ≡ true
any_at p [] i x is passes = let never : None ≡ Some x = is in absurd (cc)
any_at p (y ∷ xs) zero x is passes = or_left _ _ (ap p (same_Some y x is) ∙ passes)
any_at p (y ∷ xs) (suc i) x is passes = or_right _ _ (any_at p xs i x is passes)

-- so one is found
pub none_at : {A : Type 0} (p : A → Bool) (xs : List A) (i : ℕ) (x : A) → slice_get xs i ≡ Some x → p x ≡ true
    → find p xs ≡ None → ⊥
none_at p [] i x is passes none = let never : None ≡ Some x = is in absurd (cc)
none_at p (y ∷ xs) zero x is passes none =
    let never : Some y ≡ None = rw (ap p (same_Some y x is) ∙ passes) at none in absurd (cc)
none_at p (y ∷ xs) (suc i) x is passes none = elim (cases_Bool (p y)) [
  | inl here ↦ let never : Some y ≡ None = rw here at none in absurd (cc)
  | inr other ↦ none_at p xs i x is passes (rw other at none)
]

-- what is at an index, with one more at the end
pub at_seam : {A : Type 0} (ws : List A) (x w : A) (i : ℕ) → slice_get (ws ++ x ∷ []) i ≡ Some w
    → ((i < length ws) × (slice_get ws i ≡ Some w)) ⊎ ((i ≡ length ws) × (x ≡ w))
at_seam [] x w zero is = inr (refl, same_Some x w is)
at_seam [] x w (suc i) is = let never : None ≡ Some w = is in absurd (cc)
at_seam (v ∷ ws) x w zero is = inl (omega arith, is)
at_seam (v ∷ ws) x w (suc i) is = elim (at_seam ws x w i is) [
  | inl (early, there) ↦ inl (omega arith, there)
  | inr (last, same) ↦ inr (ap suc last, same)
]

-- one item more in front
pub take_next : {A : Type 0} (ws : List A) (m : ℕ) → m < length ws
    → (w : A) × (slice_get ws m ≡ Some w) × (take (suc m) ws ≡ take m ws ++ w ∷ [])
take_next [] m early = absurd (omega arith)
take_next (v ∷ ws) zero early = (v, refl, refl)
take_next (v ∷ ws) (suc m) early =
    let rest = take_next ws m (omega arith) in (rest.0, rest.1, ap (λ l. v ∷ l) rest.2)

-- one item less behind
pub drop_next : {A B : Type 0} (view : A → B) (xs : List A) (i : ℕ) (x : A) → i < length xs → x ≡ get_or xs i x
    → map view (drop i xs) ≡ view x ∷ map view (drop (i + 1) xs)
drop_next view xs i x early is =
    ap (map view) (drop-cons xs i x early)
    ∙ ap₂ (λ y ys. view y ∷ map view ys) (sym is) (ap (λ n. drop n xs) (sym (add-one i)))

-- the element at a position, or the default
pub at_position : {A : Type 0} (P : A → Type 0) (xs : List A) (i : ℕ) (d : A) → All P xs → P d → P (get_or xs i d)
at_position P [] i d all default = default
at_position P (x ∷ xs) zero d all default = All-head P x xs all
at_position P (x ∷ xs) (suc i) d all default = at_position P xs i d (All-tail P x xs all) default

-- ==== what holds of each

-- two facts of each element
pub each_of_both : {A : Type 0} (P Q R : A → Type 0) → ((x : A) → P x → Q x → R x) → (xs : List A) → All P xs
    → All Q xs → All R xs
each_of_both P Q R both [] all more = All-nil R
each_of_both P Q R both (x ∷ xs) all more = All-cons R x xs (both x (All-head P x xs all) (All-head Q x xs more))
    (each_of_both P Q R both xs (All-tail P x xs all) (All-tail Q x xs more))

-- of each that others are mapped to
pub all_of_map : {A B : Type 0} (P : B → Type 0) (f : A → B) (xs : List A) → All P (map f xs) → All (λ x. P (f x)) xs
all_of_map P f [] all = All-nil (λ x. P (f x))
all_of_map P f (x ∷ xs) all = All-cons (λ x. P (f x)) x xs (All-head P (f x) (map f xs) all)
    (all_of_map P f xs (All-tail P (f x) (map f xs) all))
