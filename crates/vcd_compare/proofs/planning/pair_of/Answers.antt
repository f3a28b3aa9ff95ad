use Rattle.std.proofs.Common.{◌≡◌, ◌∙◌, ap, subst, true, get_or}
use Rattle.vcd_compare.specs.inside.Outcomes.{no_variable}
use Rattle.vcd_compare.specs.inside.Planning.{AreFirstWaves, planned_variables}
use Rattle.vcd_compare.specs.inside.SizedWaves.{waves_in}
use Rattle.vcd_compare.specs.inside.Walk.{is_kept_at}
use Rattle.vcd_compare.specs.declared.variables.PlannedVariable.{PlannedVariable}
use Rattle.vcd_compare.proofs.planning.Begun.{begun_of, width_kept}
use Rattle.vcd_compare.proofs.variables.Positions.{at_kept, entry_first, entry_kind, entry_width}
use Rattle.vcd_compare.proofs.planning.pair_of.Goals as goal

pub returns-clause-planned : goal.returns-clause-planned
returns-clause-planned c ds es own_are other_are are =
    let k = c.args.positions.0 in
    let j = c.args.positions.1 in
    let waves = waves_in c.in_ok-waves.waves in
    let own : c.variable_at-own.result ≡ get_or (planned_variables ds) k no_variable =
    c.variable_at-own.ensures ∙ ap (λ l. get_or l k no_variable) own_are in
    let other : c.variable_at-other.result ≡ get_or (planned_variables es) j no_variable =
    c.variable_at-other.ensures ∙ ap (λ l. get_or l j no_variable) other_are in
    let kind : c.variable_at-own.result.is_signal ≡ is_kept_at ds k =
    ap (λ (v : PlannedVariable). v.is_signal) own ∙ entry_kind ds k are.own are.at_first in
    let width : is_kept_at ds k ≡ true → c.min-width.result ≡ are.own.size =
    λ kept. width_kept ds k are.own c.variable_at-own.result.width c.max.result c.min-width.result
    (at_kept ds k are.own are.at_first kept)
    (ap (λ (v : PlannedVariable). v.width) own ∙ entry_width ds k are.own are.at_first kept)
    c.max.ensures c.min-width.ensures in
    record {
      own = are.own;
      partner = are.partner;
      at_first = are.at_first;
      at_second = are.at_second;
      first_variable = ap (λ (v : PlannedVariable). v.first) own ∙ entry_first ds k are.own are.at_first;
      second_variable = ap (λ (v : PlannedVariable). v.first) other ∙ entry_first es j are.partner are.at_second;
      begun = begun_of c.args.bounds ds es k j are c.min-width.result waves width
          (subst (λ b. AreFirstWaves c.args.bounds b c.min-width.result waves) kind c.in_ok-waves.ensures.begun);
    }
