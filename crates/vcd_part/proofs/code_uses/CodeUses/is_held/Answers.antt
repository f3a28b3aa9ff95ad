use Rattle.std.proofs.Common.{◌≡◌, ◌∙◌, ◌&&◌, Bool, true, false, not, Option, Some, None, sym, refl, inl, inr}
use Rattle.std.specs.Prelude.{is_some, bytes_eq, position}
use Rattle.std.proofs.lemmas.Bool.{false≢true, cases_Bool}
use Rattle.vcd_part.specs.PartPieces.{has_signal, lasting_codes}
use Rattle.vcd_part.proofs.code_uses.LastChanges.{last_stays, last_misses, one_more, means_as_found, place_as_found}
use Rattle.vcd_part.proofs.code_uses.CodeUses.is_held.Goals as goal

not_false : (b : Bool) → not b ≡ false → b ≡ true
not_false true is = refl
not_false false never = absurd (false≢true (sym never))

none_if : {A : Type 0} (o : Option A) → is_some o ≡ false → o ≡ None
none_if None is = refl
none_if (Some x) never = absurd (false≢true (sym never))

pub returns-then-is_some : goal.returns-then-is_some
returns-then-is_some c = λ isnt r declared before p uses held change some.
    let code = c.args.code.now in
    let nothing = means_as_found _ r declared code _ c.args.is_text _ uses c.get-found.ensures
    c.means_nothing.ensures in
    record {
      are = held.are ∙ last_stays declared before p code c.args.is_text change (nothing ∙ not_false _ isnt)
          (lasting_codes r declared);
      some = one_more before p held.some some;
    }

pub returns-else-is_some : goal.returns-else-is_some
returns-else-is_some c = λ isnt r declared before p uses held change some.
    let code = c.args.code.now in
    let none : position (bytes_eq code) (lasting_codes r declared) ≡ None =
    place_as_found _ r declared code _ uses c.get-found.ensures ∙ none_if _ (sym c.is_some.ensures ∙ isnt) in
    record {
      are = held.are ∙ elim (cases_Bool (c.args.is_text && has_signal declared code)) [
        | inl nothing ↦ last_stays declared before p code c.args.is_text change nothing (lasting_codes r declared)
        | inr something ↦ last_misses r declared before p code c.args.is_text change something none
      ];
      some = one_more before p held.some some;
    }
