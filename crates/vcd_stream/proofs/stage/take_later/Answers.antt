use Rattle.std.proofs.Common.{arith}
use Rattle.vcd_stream.specs.Stages.{seen, made_changes}
use Rattle.vcd_stream.proofs.shared.GoingOn.{one_given, none_given}
use Rattle.vcd_stream.proofs.shared.TakenChanges.{later_near, later_far}
use Rattle.vcd_stream.proofs.stage.take_later.Goals as goal
use Rattle.vcd_stream.proofs.stage.take_later.Goals.{then-by-end-via-then-by-end}
use Rattle.vcd_stream.proofs.stage.take_later.Goals.{then-by-end-via-else-by-end+then-change-end}

pub returns-then-by-end : goal.returns-then-by-end
unfolding made_changes
returns-then-by-end g c =
    let letters = g.V.Letters.letters c.args.last.width in
    none_given letters _ _ c.args.change _
    (λ more. later_far c.args.by c.args.end (seen letters c.args.change) more (elim c.then-by-end.branch [
      | then-by-end-via-then-by-end w ↦ omega arith
      | then-by-end-via-else-by-end+then-change-end w ↦ omega arith
    ]))

pub returns : goal.returns
unfolding made_changes
returns g c =
    let letters = g.V.Letters.letters c.args.last.width in
    one_given letters _ _ c.args.change _ _ _ c.in_ok-last.ensures
    (λ more. later_near c.args.by c.args.end (seen letters c.args.change) more (omega arith))
