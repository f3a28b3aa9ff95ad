-- Words that are joined one after another, each when the next one comes.
use Rattle.std.proofs.Common.{◌≡◌, ℕ, List, [], ◌∷◌, ◌++◌, refl, sym, ap, ◌∙◌, append-nil, append_assoc}
use Rattle.std.specs.List.{concat}

-- the text that is joined, after this one and the last word, with these words to come
unfoldable pub joined : (text last : List ℕ) → List (List ℕ) → List ℕ
joined text last [] = text
joined text last (w ∷ ws) = joined (text ++ last) w ws

-- all words but the last one
pub joined_is : (text last : List ℕ) (names : List (List ℕ)) (end : List ℕ)
    → joined text last (names ++ end ∷ []) ≡ text ++ (last ++ concat names)
unfolding joined
joined_is text last [] end = ap (λ l. text ++ l) (sym (append-nil last))
joined_is text last (n ∷ ns) end =
    joined_is (text ++ last) n ns end ∙ append_assoc text last (n ++ concat ns)

pub one_more : (text last w : List ℕ) (words left : List (List ℕ)) → words ≡ w ∷ left
    → joined (text ++ last) w left ≡ joined text last words
unfolding joined
one_more text last w words left is = rw is refl

pub no_more : (text last : List ℕ) (words : List (List ℕ)) → words ≡ [] → text ≡ joined text last words
unfolding joined
no_more text last words is = rw is refl
