use Rattle.std.proofs.Common.{ℕ, length, map, sym, ap, subst, ◌∙◌, arith}
use Rattle.std.proofs.lemmas.List.{with_items_is}
use Rattle.vcd_compare.specs.inside.Occurrences.{HasOccurrences}
use Rattle.vcd_compare.specs.inside.Pairs.{variable_in, chosen, ArePairsAfter}
use Rattle.vcd_compare.specs.declared.pairs.Which.TheVariants.{First, Second}
use Rattle.vcd_compare.proofs.pairs.Changes.{all_changed, none_changed, same_variables}
use Rattle.vcd_compare.proofs.pairs.Listed.{has_listed, last_listed, after_lent}
use Rattle.vcd_compare.proofs.pairs.Pairs.change.Goals as goal

pub returns-in_default-clause-changed : goal.returns-in_default-clause-changed
returns-in_default-clause-changed c count others is below =
    let change = c.args.change.now in
    let which = change.which in
    let old = c.args.self.now.all.items in
    let limit : ℕ = chosen which count others in
    let has = has_listed which count others c.args.self.now _ c.places_of-places.ensures is in
    all_changed c.args.self.now.bounds which c.args.variable change.tick change.text.now (length old) old old
    (omega arith) (none_changed c.args.self.now.bounds which c.args.variable change.tick change.text.now old)
    (last_listed which c.args.variable old _ _ c.in_default.is (c.last.ensures limit _ below has))

pub returns-clause-listed : goal.returns-clause-listed
returns-clause-listed c count others is below =
    let change = c.args.change.now in
    let which = change.which in
    let text = change.text.now in
    let old = c.args.self.now.all.items in
    let bounds = c.args.self.now.bounds in
    let limit : ℕ = chosen which count others in
    let has = has_listed which count others c.args.self.now _ c.places_of-places.ensures is in
    let last = last_listed which c.args.variable old _ _ c.in-Some.is (c.last.ensures limit _ below has) in
    let after = after_lent bounds which c.args.variable change.tick limit text c.in-Some.last _ old _ _
    c.deref_mut.ensures.value (c.in_ok-change_all.ensures limit c.args.variable) has last in
    let new_is = with_items_is c.args.self.now.all c.change_all.new.all
    (c.change_all.auto.all ∙ c.deref_mut.ensures.len) in
    record {
      first = subst (λ l. HasOccurrences count l c.args.self.now.of_first)
          (sym (ap (map (variable_in First)) new_is
          ∙ same_variables bounds which c.args.variable change.tick text First old _ after)) is.first;
      second = subst (λ l. HasOccurrences others l c.args.self.now.of_second)
          (sym (ap (map (variable_in Second)) new_is
          ∙ same_variables bounds which c.args.variable change.tick text Second old _ after)) is.second;
    }

pub returns-clause-changed : goal.returns-clause-changed
returns-clause-changed c count others is below =
    let change = c.args.change.now in
    let which = change.which in
    let text = change.text.now in
    let old = c.args.self.now.all.items in
    let bounds = c.args.self.now.bounds in
    let limit : ℕ = chosen which count others in
    let has = has_listed which count others c.args.self.now _ c.places_of-places.ensures is in
    let last = last_listed which c.args.variable old _ _ c.in-Some.is (c.last.ensures limit _ below has) in
    let new_is = with_items_is c.args.self.now.all c.change_all.new.all
    (c.change_all.auto.all ∙ c.deref_mut.ensures.len) in
    subst (ArePairsAfter bounds which c.args.variable change.tick text old) (sym new_is)
    (after_lent bounds which c.args.variable change.tick limit text c.in-Some.last _ old _ _
    c.deref_mut.ensures.value (c.in_ok-change_all.ensures limit c.args.variable) has last)
