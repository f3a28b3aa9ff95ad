use Rattle.std.proofs.Common.{◌∷◌, ◌++◌, sym, ap, ◌∙◌, arith}
use Rattle.vcd_edit.specs.inside.plans.RemainingChanges.{without_repeats}
use Rattle.vcd_stream.specs.declared.stage.Work.TheVariants as works
use Rattle.vcd_stream.specs.Stages.{seen, all_seen, given, made_changes, shown_changes}
use Rattle.vcd_stream.proofs.shared.GoingOn.{one_given, given_first}
use Rattle.vcd_stream.proofs.shared.TakenChanges.{replaced_to_come, replaced_begins}
use Rattle.vcd_stream.proofs.stage.take_replaced.Goals as goal

pub returns-then-change-ticks : goal.returns-then-change-ticks
unfolding made_changes
returns-then-change-ticks g c =
    let letters = g.V.Letters.letters c.args.last.width in
    let r = c.args.replacement in
    one_given letters _ _ c.args.change _ _ _ c.in_ok-last.ensures
    (λ more. replaced_to_come r.ticks (letters r.value) (letters c.args.now) (seen letters c.args.change) more
    c.if-change-ticks.true)

pub returns : goal.returns
unfolding given made_changes
returns g c =
    let letters = g.V.Letters.letters c.args.last.width in
    let r = c.args.replacement in
    given_first letters c.args.out.now.items
    (record { work = works.Replace r.ticks r.value c.args.now; last = c.args.last.value }) c.args.change _ _ _
    (record { work = works.Hide r.ticks c.args.now; last = c.in_ok-value.value })
    (λ more. c.in_ok-value.ensures
    (shown_changes r.ticks (letters c.args.now) (seen letters c.args.change ∷ more))
    ∙ ap (λ l. all_seen letters c.args.out.now.items ++ without_repeats (letters c.args.last.value) l)
    (sym (replaced_begins r.ticks (letters r.value) (letters c.args.now) (seen letters c.args.change) more
    (omega arith))))
    c.take_hidden.ensures
