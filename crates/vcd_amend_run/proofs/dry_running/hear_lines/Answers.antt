use Rattle.std.proofs.Common.{arith}
use Rattle.vcd_amend_run.proofs.dry_running.LinesLeft.{line_more, none_left}
use Rattle.vcd_amend_run.proofs.dry_running.hear_lines.Goals as goal

pub loop-line-preserved : goal.loop-line-preserved
loop-line-preserved c = record {
  left = line_more c.loop-line.invariant.left c.in-Some.ensures.0 c.hear_line.new.state c.in-Ok.ensures;
  number = omega (arith, c.in-Some.ensures.1);
}

pub returns-clause-heard : goal.returns-clause-heard
returns-clause-heard c = none_left c.loop-line.rest.now c.loop-line.invariant.left c.in_default.ensures
