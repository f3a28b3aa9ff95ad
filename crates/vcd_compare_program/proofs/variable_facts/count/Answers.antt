-- The name is counted once more.
use Rattle.std.proofs.Common.{rules}
use Rattle.vcd_compare_program.proofs.variable_facts.NameCounts.{counted_more}
use Rattle.vcd_compare_program.proofs.variable_facts.count.Goals as goal

pub returns-clause-counted : goal.returns-clause-counted
returns-clause-counted c = λ names few counted. counted_more c.args.counts.now c.insert.new.self c.args.name
    c.unwrap_or-before.result c.saturating_add.result c.in_ok-insert.ensures.updates names few (search rules)
    c.saturating_add.ensures counted
