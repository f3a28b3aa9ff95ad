-- The line that is added.
use Rattle.std.proofs.Common.{refl}
use Rattle.vcd_amend_run.proofs.dry_running.line_plan.LinePlan.stream.Goals as goal

pub returns : goal.returns
returns c = record {
  added = record { number = c.args.number; lines = c.args.lines; cuts = c.in_ok-cuts.cuts };
  number_is = refl;
  lines_are = refl;
  cuts_are = c.in_ok-cuts.ensures;
  plan = rw (c.in_ok-push.ensures.items, ← c.self.view_is) refl;
}
