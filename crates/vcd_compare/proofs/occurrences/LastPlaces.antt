-- The last place of a number, if one more stands at the end.
use Rattle.std.proofs.Common.{◌≡◌, ◌≢◌, ℕ, ◌+◌, ◌≤◌, Option, Some, None, List, [], ◌∷◌, ◌++◌, length, get_or, sym}
use Rattle.std.proofs.Common.{◌∙◌}
use Rattle.std.proofs.Common.{arith, inl, inr, subst}
use Rattle.std.proofs.Math.ListN.{get_or-append}
use Rattle.std.proofs.Math.Seq.{get_or-append_seam}
use Rattle.std.proofs.lemmas.Bool.{cases_eq}
use Rattle.vcd_compare.specs.inside.Occurrences.{IsLastPlace}

-- below a bound nothing changes
pub last_kept : (numbers : List ℕ) (bound number more : ℕ) (at : Option ℕ) → bound ≤ length numbers
    → IsLastPlace numbers bound number at → IsLastPlace (numbers ++ more ∷ []) bound number at
last_kept numbers bound number more None within is =
    λ j below e. is j below (sym (get_or-append numbers (more ∷ []) 0 j (omega arith)) ∙ e)
last_kept numbers bound number more (Some i) within (below, at, none) = (
  below,
  get_or-append numbers (more ∷ []) 0 i (omega arith) ∙ at,
  λ j above upto e. none j above upto (sym (get_or-append numbers (more ∷ []) 0 j (omega arith)) ∙ e),
)

-- the number at the end is another
pub last_other : (numbers : List ℕ) (n number more : ℕ) (at : Option ℕ) → n ≡ length numbers + 1 → more ≢ number
    → IsLastPlace numbers (length numbers) number at → IsLastPlace (numbers ++ more ∷ []) n number at
last_other numbers n number more None one_more other is =
    λ j below e. elim (cases_eq j (length numbers)) [
      | inl last ↦
          other (sym (get_or-append_seam numbers more [] 0)
          ∙ subst (λ k. get_or (numbers ++ more ∷ []) k 0 ≡ number) last e)
      | inr before ↦
          is j (omega (arith, before)) (sym (get_or-append numbers (more ∷ []) 0 j (omega (arith, before))) ∙ e)
    ]
last_other numbers n number more (Some i) one_more other (below, at, none) = (
  omega arith,
  get_or-append numbers (more ∷ []) 0 i (omega arith) ∙ at,
  λ j above upto e. elim (cases_eq j (length numbers)) [
    | inl last ↦
        other (sym (get_or-append_seam numbers more [] 0)
        ∙ subst (λ k. get_or (numbers ++ more ∷ []) k 0 ≡ number) last e)
    | inr before ↦
        none j above (omega (arith, before))
        (sym (get_or-append numbers (more ∷ []) 0 j (omega (arith, before))) ∙ e)
  ],
)

-- it is this one
pub last_same : (numbers : List ℕ) (n number : ℕ) → n ≡ length numbers + 1
    → IsLastPlace (numbers ++ number ∷ []) n number (Some (length numbers))
last_same numbers n number one_more = (
  omega arith,
  get_or-append_seam numbers number [] 0,
  λ j above upto e. absurd (omega arith),
)

-- a place whose last before is another number has the same last place
pub last_same_number : (numbers : List ℕ) (bound number other : ℕ) (at : Option ℕ) → number ≡ other
    → IsLastPlace numbers bound number at → IsLastPlace numbers bound other at
last_same_number numbers bound number other at same is = subst (λ m. IsLastPlace numbers bound m at) same is
