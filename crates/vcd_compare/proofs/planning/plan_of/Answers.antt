use Rattle.std.proofs.Common.{◌∙◌, sym, subst}
use Rattle.vcd_core.specs.Names.{full_names}
use Rattle.vcd_compare.specs.inside.Matching.{IsMatching}
use Rattle.vcd_compare.specs.inside.Outcomes.{HasWidths, MatchesNames}
use Rattle.vcd_compare.specs.inside.Pairing.{texts}
use Rattle.vcd_compare.proofs.planning.plan_of.Goals as goal

pub returns : goal.returns
returns c s t a b at_s at_t own other =
    let r = c.args.request.now in
    let m = c.in_ok-matching.matching in
    let of_first : HasWidths c.deref.result.now a =
    subst (λ vs. HasWidths vs a) (sym (c.deref.ensures.value ∙ c.in_ok-variables.ensures s at_s)) own.widths in
    let of_second : HasWidths c.deref-2.result.now b =
    subst (λ vs. HasWidths vs b) (sym (c.deref-2.ensures.value ∙ c.in_ok-others.ensures t at_t)) other.widths in
    let matches : MatchesNames r a b m =
    subst (λ ns. IsMatching r ns (full_names b.signals) m) (c.in_ok-names.ensures s at_s ∙ own.names)
    (subst (λ ns. IsMatching r (texts c.in_ok-names.names.items) ns m)
    (c.in_ok-names_of.ensures t at_t ∙ other.names) c.in_ok-matching.ensures) in
    record {
      outcomes = c.in_ok-outcomes_of.ensures r a b matches of_first of_second;
      only_in_second = c.in_ok-only_in_second.ensures r a b matches;
      unmet_pattern = matches.unmet_pattern;
      unmet_map = matches.unmet_map;
    }
