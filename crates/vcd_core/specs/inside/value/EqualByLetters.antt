-- Comparing values letter by letter decides whether they are equal.
use Rattle.std.proofs.Common.{◌≡◌, ℕ, List, zero, suc, refl, sym, ap, ◌∙◌}
use Rattle.std.specs.Bool.{Decides}
use Rattle.std.specs.Cmp.{IsPartialEquivalence, partial_equiv_from_equiv, on_equiv, nat_eq_equiv}
use Rattle.std.proofs.lemmas.Cmp.{lists_equiv}
use Rattle.std.specs.Cmp.Lexicographic.{pointwise_decides}
use Rattle.std.proofs.lemmas.Bool.Decides.{Decides-like, Decides-eqb}
use Rattle.vcd_core.specs.declared.bit.Bit.{Bit}
use Rattle.vcd_core.specs.declared.bit.Bit.TheVariants.{Zero, One, X, Z}
use Rattle.vcd_core.specs.Value.{same_letter, same_letters, letter_number}

-- the letter with a number
numbered : ℕ → Bit
numbered zero = Zero
numbered (suc zero) = One
numbered (suc (suc zero)) = X
numbered (suc (suc (suc _))) = Z

numbered-letter_number : (b : Bit) → numbered (letter_number b) ≡ b
unfolding numbered
numbered-letter_number Zero = refl
numbered-letter_number One = refl
numbered-letter_number X = refl
numbered-letter_number Z = refl

letter_from_number : (a b : Bit) → letter_number a ≡ letter_number b → a ≡ b
letter_from_number a b same =
    sym (numbered-letter_number a) ∙ ap numbered same ∙ numbered-letter_number b

pub same_letter-Decides : (a b : Bit) → Decides (same_letter a b) (a ≡ b)
same_letter-Decides a b =
    Decides-like _ (letter_from_number a b) (ap letter_number) (Decides-eqb _ _)

-- values with the same letters are equal
pub same_letters-Decides : (v w : List Bit) → Decides (same_letters v w) (v ≡ w)
same_letters-Decides = pointwise_decides same_letter-Decides

-- the comparison is symmetric and transitive
pub same_letters-equiv : IsPartialEquivalence same_letters
same_letters-equiv = partial_equiv_from_equiv (lists_equiv (on_equiv letter_number nat_eq_equiv))
