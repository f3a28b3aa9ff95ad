-- The first of some variables with a code.
use Rattle.std.proofs.Common.{◌≡◌, ℕ, zero, suc, ◌≤◌, Bool, true, List, [], ◌∷◌, Some, refl, sym, ap, ◌∙◌}
use Rattle.std.proofs.Common.{inl, inr, arith, bytes_eq}
use Rattle.std.specs.Prelude.{slice_get, find, filter}
use Rattle.std.proofs.lemmas.Bool.{cases_Bool}
use Rattle.std.proofs.lemmas.Option.{same_Some}
use Rattle.std.proofs.lemmas.Slice.Eq.{bytes_eq-Decides}
use Rattle.vcd_text.specs.Grammar.{VariableDeclaration}
use Rattle.vcd_text.specs.HeardChanges.{first_with}

-- one has the code, so a first one has it, at or before that
pub record FirstFound (code : List ℕ) (ds : List VariableDeclaration) (p : ℕ) : Type 0 where
  pub early : first_with code ds ≤ p
  pub found : VariableDeclaration
  pub at_first : slice_get ds (first_with code ds) ≡ Some found
  pub own_code : found.code ≡ code

pub first_found : (code : List ℕ) (ds : List VariableDeclaration) (p : ℕ) (d : VariableDeclaration)
    → slice_get ds p ≡ Some d → d.code ≡ code → FirstFound code ds p
unfolding first_with
first_found code [] p d at same = absurd (cc)
first_found code (e ∷ ds) zero d at same =
    let one : bytes_eq code e.code ≡ true =
    (bytes_eq-Decides code e.code).1 (sym same ∙ ap (λ (x : VariableDeclaration). x.code) (sym (same_Some e d at))) in
    record {
      early = rw one (omega arith);
      found = e;
      at_first = rw one refl;
      own_code = sym ((bytes_eq-Decides code e.code).0 one);
    }
first_found code (e ∷ ds) (suc p) d at same =
    elim (cases_Bool (bytes_eq code e.code)) [
      | inl one ↦ record {
        early = rw one (omega arith);
        found = e;
        at_first = rw one refl;
        own_code = sym ((bytes_eq-Decides code e.code).0 one);
      }
      | inr other ↦
          let later = first_found code ds p d at same in
          let early = later.early in
          record {
            early = rw other (omega (arith, early));
            found = later.found;
            at_first = rw other later.at_first;
            own_code = later.own_code;
          }
    ]

-- the first variable of a code, if a test takes it, is the first one with the code of those that it takes
pub first_taken : (takes : VariableDeclaration → Bool) (code : List ℕ) (ds : List VariableDeclaration)
    (e : VariableDeclaration) → find (λ (d : VariableDeclaration). bytes_eq code d.code) ds ≡ Some e → takes e ≡ true
    → slice_get (filter takes ds) (first_with code (filter takes ds)) ≡ Some e
unfolding first_with
first_taken takes code [] e found is = absurd (cc found)
first_taken takes code (d ∷ ds) e found is =
    elim (cases_Bool (bytes_eq code d.code)) [
      | inl here ↦
          let one : d ≡ e = same_Some d e (rw here at found) in
          rw (ap takes one ∙ is) (rw here (ap (λ (x : VariableDeclaration). Some x) one))
      | inr apart ↦ elim (cases_Bool (takes d)) [
        | inl some ↦ rw some (rw apart (first_taken takes code ds e (rw apart at found) is))
        | inr none ↦ rw none (first_taken takes code ds e (rw apart at found) is)
      ]
    ]
