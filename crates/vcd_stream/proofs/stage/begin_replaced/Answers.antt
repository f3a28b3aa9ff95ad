use Rattle.std.proofs.Common.{◌++◌, sym, ap, arith}
use Rattle.vcd_edit.specs.inside.plans.RemainingChanges.{without_repeats}
use Rattle.vcd_stream.specs.Stages.{all_seen}
use Rattle.vcd_stream.proofs.shared.TakenChanges.{begun_none}
use Rattle.vcd_stream.proofs.stage.begin_replaced.Goals as goal

pub returns-then-ticks : goal.returns-then-ticks
returns-then-ticks g c =
    let letters = g.V.Letters.letters c.args.last.width in
    λ more. ap (λ l. all_seen letters c.args.out.now.items ++ without_repeats (letters c.args.last.value) l)
    (sym (begun_none c.args.replacement.ticks (letters c.args.replacement.value) more (omega arith)))
