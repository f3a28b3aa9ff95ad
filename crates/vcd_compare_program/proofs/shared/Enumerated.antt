-- What items give that are taken in turn, with their places.
use Rattle.std.proofs.Common.{◌≡◌, ◌<◌, ◌≤◌, ◌+◌, ℕ, List, ◌∷◌, ◌++◌, length, drop, get_or, sym, ap, ◌∙◌}
use Rattle.std.proofs.Common.{append_assoc}
use Rattle.std.specs.List.{enumerate_from, flat_map}
use Rattle.std.proofs.lemmas.List.{append-nil, drop_all, drop_more}

module _ {X A : Type 0} (f : ℕ × X → List A) (xs : List X) (k : ℕ) (out new whole : List A) where
  -- one item more
  pub item_given : (x : X) → k < length xs → x ≡ get_or xs k x → new ≡ out ++ f (k, x)
      → out ++ flat_map f (enumerate_from k (drop k xs)) ≡ whole
      → new ++ flat_map f (enumerate_from (k + 1) (drop (k + 1) xs)) ≡ whole
  item_given x within is grown all =
      let rest = flat_map f (enumerate_from (k + 1) (drop (k + 1) xs)) in
      ap (λ (l : List A). l ++ rest) grown ∙ append_assoc out (f (k, x)) rest
      ∙ ap (λ (l : List X). out ++ flat_map f (enumerate_from k l))
      (sym (drop_more xs k x within ∙ ap (λ (y : X). y ∷ drop (k + 1) xs) (sym is))) ∙ all

  -- no item is left
  pub items_given : length xs ≤ k → out ++ flat_map f (enumerate_from k (drop k xs)) ≡ whole → out ≡ whole
  items_given past all = sym (append-nil out)
      ∙ ap (λ (l : List X). out ++ flat_map f (enumerate_from k l)) (sym (drop_all k xs past)) ∙ all
