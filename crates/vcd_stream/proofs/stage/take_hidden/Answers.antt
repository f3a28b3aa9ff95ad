use Rattle.std.proofs.Common.{◌∷◌, ◌++◌, map, sym, ap, ◌∙◌, arith}
use Rattle.vcd_stream.specs.declared.stage.Work.TheVariants as works
use Rattle.vcd_stream.specs.Stages.{seen, all_seen, given, made_changes, earlier_change}
use Rattle.vcd_edit.specs.inside.plans.RemainingChanges.{without_repeats}
use Rattle.vcd_stream.proofs.shared.GoingOn.{none_given, given_first}
use Rattle.vcd_stream.proofs.shared.TakenChanges.{hidden, shown}
use Rattle.vcd_stream.proofs.stage.take_hidden.Goals as goal

pub returns-then-saturating_sub-ticks : goal.returns-then-saturating_sub-ticks
unfolding made_changes
returns-then-saturating_sub-ticks g c =
    let letters = g.V.Letters.letters c.args.last.width in
    none_given letters _ _ c.args.change _
    (λ more. hidden c.args.ticks (letters c.args.now) (seen letters c.args.change) more (omega arith))

pub returns : goal.returns
unfolding given made_changes
returns g c =
    let letters = g.V.Letters.letters c.args.last.width in
    given_first letters c.args.out.now.items
    (record { work = works.Hide c.args.ticks c.args.now; last = c.args.last.value }) c.args.change _ _ _
    (record { work = works.Earlier c.args.ticks.by; last = c.in_ok-value.value })
    (λ more. c.in_ok-value.ensures (map (earlier_change c.args.ticks.by) (seen letters c.args.change ∷ more))
    ∙ ap (λ l. all_seen letters c.args.out.now.items ++ without_repeats (letters c.args.last.value) l)
    (sym (shown c.args.ticks (letters c.args.now) (seen letters c.args.change) more (omega arith))))
    c.take_earlier.ensures
