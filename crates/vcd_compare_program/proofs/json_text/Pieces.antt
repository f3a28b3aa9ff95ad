-- Pieces that are appended one by one are appended together.
use Rattle.std.proofs.Common.{◌≡◌, ◌∙◌, ◌++◌, ℕ, List, ap, append_assoc}

module _ (old : List ℕ) where
  two : (a b one both : List ℕ) → one ≡ old ++ a → both ≡ one ++ b → both ≡ old ++ (a ++ b)
  two a b one both first second = second ∙ ap (λ (l : List ℕ). l ++ b) first ∙ append_assoc old a b

  pub three : (a b c one both all : List ℕ) → one ≡ old ++ a → both ≡ one ++ b → all ≡ both ++ c
      → all ≡ old ++ (a ++ b ++ c)
  three a b c one both all first second third = two (a ++ b) c both all (two a b one both first second) third

  pub four : (a b c d one both more all : List ℕ) → one ≡ old ++ a → both ≡ one ++ b → more ≡ both ++ c
      → all ≡ more ++ d → all ≡ old ++ (a ++ b ++ c ++ d)
  four a b c d one both more all first second third fourth =
      two (a ++ b ++ c) d more all (three a b c one both more first second third) fourth

-- five pieces make a text
pub five : (a b c d e one two_of three_of four_of all : List ℕ) → one ≡ a → two_of ≡ one ++ b → three_of ≡ two_of ++ c
    → four_of ≡ three_of ++ d → all ≡ four_of ++ e → all ≡ a ++ b ++ c ++ d ++ e
five a b c d e one two_of three_of four_of all first second third fourth fifth =
    fifth ∙ ap (λ (l : List ℕ). l ++ e) (fourth
    ∙ ap (λ (l : List ℕ). l ++ d) (third ∙ ap (λ (l : List ℕ). l ++ c) (second ∙ ap (λ (l : List ℕ). l ++ b) first)))
