use Rattle.std.proofs.Common.{◌≡◌, ◌++◌, sym, ap, subst, ◌∙◌, arith}
use Rattle.std.specs.Result.{OnOk}
use Rattle.std.proofs.lemmas.List.{append-nil}
use Rattle.vcd_edit.specs.inside.plans.RemainingChanges.{without_repeats}
use Rattle.vcd_stream.specs.Stages.{all_seen}
use Rattle.vcd_stream.proofs.shared.TakenChanges.{shown_last, hidden_to_end}
use Rattle.vcd_stream.proofs.stage.finish_hidden.Goals as goal

pub returns-then-ticks : goal.returns-then-ticks
unfolding without_repeats
returns-then-ticks g c =
    let letters = g.V.Letters.letters c.args.last.width in
    sym (append-nil _)
    ∙ ap (λ l. all_seen letters c.args.out.now.items ++ without_repeats (letters c.args.last.value) l)
    (sym (hidden_to_end c.args.ticks (letters c.args.now) (omega arith)))

pub returns : goal.returns
returns g c =
    let letters = g.V.Letters.letters c.args.last.width in
    subst (λ l. OnOk c.finish_with.result (all_seen letters c.finish_with.new.out.items
    ≡ all_seen letters c.args.out.now.items ++ without_repeats (letters c.args.last.value) l))
    (sym (shown_last c.args.ticks (letters c.args.now) (omega arith))) c.finish_with.ensures
