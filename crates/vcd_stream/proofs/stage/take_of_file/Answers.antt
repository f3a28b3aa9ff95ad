use Rattle.std.proofs.Common.{arith}
use Rattle.vcd_stream.specs.Stages.{seen, made_changes}
use Rattle.vcd_stream.proofs.shared.GoingOn.{one_given, none_given}
use Rattle.vcd_stream.proofs.shared.TakenChanges.{last_over, last_within}
use Rattle.vcd_stream.proofs.stage.take_of_file.Goals as goal

pub returns-then-change-held : goal.returns-then-change-held
unfolding made_changes
returns-then-change-held g c =
    let letters = g.V.Letters.letters c.args.last.width in
    none_given letters _ _ c.args.change _
    (λ more. last_within (seen letters c.args.held) (seen letters c.args.change) more c.if-change-held.true)

pub returns : goal.returns
unfolding made_changes
returns g c =
    let letters = g.V.Letters.letters c.args.last.width in
    one_given letters _ _ c.args.change _ _ _ c.in_ok-last.ensures
    (λ more. last_over (seen letters c.args.held) (seen letters c.args.change) more (omega arith))
