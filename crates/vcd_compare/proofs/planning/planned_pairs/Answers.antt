use Rattle.std.proofs.Common.{◌≡◌, ◌∙◌, ap, subst, sym, length, map, List, get_or, Some}
use Rattle.std.specs.Prelude.{slice_get}
use Rattle.std.proofs.lemmas.Option.{slice_get-get_or}
use Rattle.std.proofs.lemmas.List.Elements.{All-nil, All-push}
use Rattle.vcd_compare.specs.declared.comparison.Outcome.TheVariants as outcomes
use Rattle.vcd_compare.specs.inside.Pairs.{AreListed}
use Rattle.vcd_compare.specs.inside.Planning.{pair_positions}
use Rattle.vcd_compare.specs.inside.Walk.{all_variables, ArePlanned, IsPlannedPair}
use Rattle.vcd_compare.proofs.planning.Planned.{one_pair, no_pair, same_within}
use Rattle.vcd_compare.proofs.variables.Listed.{all_counted}
use Rattle.vcd_compare.proofs.variables.Positions.{first_below}
use Rattle.vcd_compare.proofs.planning.planned_pairs.Goals as goal
use Rattle.vcd_compare.proofs.planning.planned_pairs.Goals.{in-Compared+in_ok-pair+in_ok-push, in_default}

pub loop-position-init : goal.loop-position-init
loop-position-init c =
    let made = c.in_ok-pairs.pairs in
    record {
      bounds = c.in_ok-pairs.ensures.bounds;
      positions = ap (map pair_positions) c.in_ok-pairs.ensures.none;
      pairs = λ ds es own other are. record {
        planned = subst (ArePlanned c.args.bounds ds es) (sym c.in_ok-pairs.ensures.none) (All-nil _);
        listed = subst (λ n. AreListed n (length (all_variables es)) made) (all_counted ds c.args.variables.now own)
            (subst (λ n. AreListed (length c.args.variables.now) n made) (all_counted es c.args.others.now other)
            c.in_ok-pairs.ensures.listed);
      };
    }

pub loop-position-preserved : goal.loop-position-preserved
loop-position-preserved c =
    let n = c.loop-position.position in
    let os = c.args.outcomes.now in
    let kept = c.loop-position.invariant in
    let old = c.loop-position.pairs in
    elim c.match-outcomes-position.branch [
      | in-Compared+in_ok-pair+in_ok-push w ↦
          let pair = w.in_ok-pair.pair in
          let new = w.push.new.self in
          let is : get_or os n outcomes.NotAsked ≡ outcomes.Compared w.in-Compared.partner =
          same_within os n outcomes.NotAsked _ c.loop-position-test.true ∙ w.in-Compared.is in
          let at : slice_get os n ≡ Some (outcomes.Compared w.in-Compared.partner) =
          slice_get-get_or os n outcomes.NotAsked c.loop-position-test.true ∙ ap (λ o. Some o) is in
          rw w.pairs-is (record {
            bounds = w.in_ok-push.ensures.bounds ∙ kept.bounds;
            positions = one_pair n os old.all.items kept.positions pair new.all.items w.in-Compared.partner is
                w.in_ok-pair.ensures.first w.in_ok-pair.ensures.second w.in_ok-push.ensures.all;
            pairs = λ ds es own other are.
                let before = kept.pairs ds es own other are in
                let planned = w.in_ok-pair.ensures.planned ds es own other (are n w.in-Compared.partner at) in
                record {
                  planned = subst (ArePlanned c.args.bounds ds es) (sym w.in_ok-push.ensures.all)
                      (All-push (IsPlannedPair c.args.bounds ds es) old.all.items pair before.planned planned);
                  listed = w.in_ok-push.ensures.listed (length (all_variables ds)) (length (all_variables es))
                      before.listed
                      (rw (sym planned.first_variable) at
                      (first_below ds pair.first planned.own planned.at_first))
                      (rw (sym planned.second_variable) at
                      (first_below es pair.second planned.partner planned.at_second));
                };
          })
      | in_default w ↦
          rw w.pairs-is (record {
            bounds = kept.bounds;
            positions = no_pair n os old.all.items kept.positions (λ j is. w.in_default.not-Compared j is);
            pairs = kept.pairs;
          })
    ]
