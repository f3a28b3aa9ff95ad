-- A fact about each of some words, or bytes, is one about any of them.
use Rattle.std.proofs.Common.{◌≡◌, ◌==◌, ℕ, Bool, true, List, [], ◌∷◌, IsTrue, bytes_eq, inl, inr}
use Rattle.std.specs.List.{AllByRecursion, list_any}
use Rattle.std.proofs.lemmas.Slice.Eq.{bytes_eq-Decides}
use Rattle.std.proofs.lemmas.Bool.{or_cases, false≢true, eqb-true}
use Rattle.vcd_text.specs.Letters.{is_among}
use Rattle.vcd_core.specs.Word.{is_one_of}

-- for any test of equality
by_equal : {A : Type 0} (same : A → A → Bool) → ((x y : A) → same x y ≡ true → x ≡ y)
    → (P : A → Type 0) (xs : List A) (x : A) → list_any (same x) xs ≡ true → AllByRecursion P xs → P x
by_equal same equal P [] x h all = absurd (false≢true h)
by_equal same equal P (y ∷ ys) x h all =
    elim (or_cases (same x y) (list_any (same x) ys) h) [
      | inl here ↦ rw (equal x y here) all.0
      | inr later ↦ by_equal same equal P ys x later all.1
    ]

pub by_among : (P : ℕ → Type 0) (bytes : List ℕ) (b : ℕ) → IsTrue (is_among bytes b) → AllByRecursion P bytes → P b
by_among P bytes b among all = by_equal (λ x y. x == y) eqb-true P bytes b among all

pub by_one_of : (P : List ℕ → Type 0) (words : List (List ℕ)) (word : List ℕ) → IsTrue (is_one_of words word)
    → AllByRecursion P words → P word
by_one_of P words word one all = by_equal bytes_eq (λ x y h. (bytes_eq-Decides x y).0 h) P words word one all
