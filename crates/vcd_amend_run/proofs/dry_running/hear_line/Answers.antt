-- What a line changes.
use Rattle.std.proofs.Common.{rules}
use Rattle.vcd_amend_run.proofs.dry_running.hear_line.Goals as goal

pub returns-then-reply : goal.returns-then-reply
returns-then-reply c = record {
  machine = search rules;
  notes = search rules;
  taken = c.take.new.self;
  takes = search rules;
  plan = search rules;
}

pub returns : goal.returns
returns c = record {
  machine = search rules;
  notes = search rules;
  taken = c.take.new.self;
  takes = search rules;
  plan = search rules;
}
