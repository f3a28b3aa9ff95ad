-- Lemmas on lists that std does not have.
use Rattle.std.proofs.Common.{◌≡◌, ◌↔◌, ℕ, ◌+◌, ◌<◌, List, [], ◌∷◌, ◌++◌, length, take, drop, get_or, All, sym, ap}
use Rattle.std.proofs.Common.{subst, ◌∙◌, arith}
use Rattle.std.proofs.lemmas.List.{drop_more, take_more, length-append, get_or_append_left, get_or-append-add}
use Rattle.std.proofs.lemmas.List.Elements.{All-cons, All-head, All-tail, All-append}

module _ {X : Type 0} (xs : List X) (i : ℕ) (x : X) (within : i < length xs) (is : x ≡ get_or xs i x) where
  -- the elements from an index on begin with the one there
  pub drop_here : drop i xs ≡ x ∷ drop (i + 1) xs
  drop_here = drop_more xs i x within ∙ ap (λ y. y ∷ drop (i + 1) xs) (sym is)

  -- and those up to it end with it
  pub take_here : take (i + 1) xs ≡ take i xs ++ x ∷ []
  take_here = take_more xs i x within ∙ ap (λ y. take i xs ++ y ∷ []) (sym is)

-- ---- what holds of each element

module _ {X : Type 0} (P : X → Type 0) where
  pub both_parts : (xs ys : List X) → All P (xs ++ ys) ↔ (All P xs × All P ys)
  both_parts xs ys = (
    (λ all. (
      (λ k d less. subst P (get_or_append_left xs ys d k less)
          (all k d (omega (arith, less, length-append xs ys)))),
      (λ k d less. subst P (get_or-append-add xs ys k d)
          (all (length xs + k) d (omega (arith, less, length-append xs ys)))),
    )),
    (λ both. All-append P xs ys both.0 both.1),
  )

  -- one element and the others
  pub one_and_others : (xs : List X) (y : X) (ys : List X) → All P (xs ++ y ∷ ys) ↔ (P y × All P (xs ++ ys))
  one_and_others xs y ys = (
    (λ all. let parts = (both_parts xs (y ∷ ys)).0 all in
        (All-head P y ys parts.1, All-append P xs ys parts.0 (All-tail P y ys parts.1))),
    (λ both. let parts = (both_parts xs ys).0 both.1 in
        All-append P xs (y ∷ ys) parts.0 (All-cons P y ys both.0 parts.1)),
  )
