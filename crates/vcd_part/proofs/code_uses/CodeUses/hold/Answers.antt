use Rattle.std.proofs.Common.{◌≡◌, ◌∙◌, Some, ap}
use Rattle.std.specs.Prelude.{bytes_eq, position}
use Rattle.std.specs.List.{position_or_len}
use Rattle.std.proofs.Math.ListN.{set}
use Rattle.std.proofs.lemmas.Result.{on_ok_weaker}
use Rattle.vcd_part.specs.PartPieces.{lasting_codes}
use Rattle.vcd_part.proofs.code_uses.LastChanges.{last_stays, last_put, last_misses, one_more, place_if_some}
use Rattle.vcd_part.proofs.code_uses.LastChanges.{means_as_found, place_as_found}
use Rattle.vcd_part.proofs.code_uses.CodeUses.hold.Goals as goal

pub returns-then-means_nothing-clause-holds : goal.returns-then-means_nothing-clause-holds
returns-then-means_nothing-clause-holds c = λ r declared before p uses held change body some.
    let code = c.args.code.now in
    let nothing = means_as_found _ r declared code _ c.args.is_text _ uses c.get-found.ensures
    c.means_nothing.ensures in
    record {
      are = held.are ∙ last_stays declared before p code c.args.is_text change (nothing ∙ c.if-means_nothing.true)
          (lasting_codes r declared);
      some = one_more before p held.some (rw body some);
    }

pub returns-in-Some-clause-holds : goal.returns-in-Some-clause-holds
returns-in-Some-clause-holds c = on_ok_weaker c.put.result (λ put r declared before p uses held change body some.
    let code = c.args.code.now in
    let all = lasting_codes r declared in
    let nothing = means_as_found _ r declared code _ c.args.is_text _ uses c.get-found.ensures
    c.means_nothing.ensures in
    let place : position (bytes_eq code) all ≡ Some c.in-Some.index =
    place_as_found _ r declared code _ uses c.get-found.ensures ∙ c.in-Some.is in
    let at : position_or_len (bytes_eq code) all ≡ c.in-Some.index = place_if_some (bytes_eq code) all _ place in
    record {
      are = put ∙ ap (λ l. set l c.in-Some.index c.args.body.now) held.are
          ∙ rw (← at, ← body) (last_put r declared before p code c.args.is_text change
          (nothing ∙ c.if-means_nothing.false));
      some = one_more before p held.some (rw body some);
    }) c.put.ensures

pub returns-in-None-clause-holds : goal.returns-in-None-clause-holds
returns-in-None-clause-holds c = λ r declared before p uses held change body some.
    let code = c.args.code.now in
    let nothing = means_as_found _ r declared code _ c.args.is_text _ uses c.get-found.ensures
    c.means_nothing.ensures in
    record {
      are = held.are ∙ last_misses r declared before p code c.args.is_text change (nothing ∙ c.if-means_nothing.false)
          (place_as_found _ r declared code _ uses c.get-found.ensures ∙ c.in-None.is);
      some = one_more before p held.some (rw body some);
    }
