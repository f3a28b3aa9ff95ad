use Rattle.std.proofs.Common.{◌-◌, subst, arith}
use Rattle.vcd_core.specs.Wave.{AllUpTo}
use Rattle.vcd_core.proofs.shared.Pushes.{all_from_upto}
use Rattle.vcd_edit.proofs.plans.cut.has_no_change_from.Goals as goal

pub returns-then-tick-gt0 : goal.returns-then-tick-gt0
returns-then-tick-gt0 c = λ quiet k d within.
    let last = c.args.tick - 1 in
    let upto = subst (AllUpTo last) c.changes-changes.ensures.changes (c.ends_by.ensures.0 quiet) in
    omega (arith, all_from_upto last c.args.wave.now.changes upto k d within, c.if-tick-gt0.true)
