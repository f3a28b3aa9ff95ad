use Rattle.std.proofs.Common.{subst, rules}
use Rattle.vcd_amend.specs.inside.declarations.Collector.{IsDeclared}
use Rattle.vcd_amend.proofs.declarations.collector.collect.Goals as goal

pub returns-clause-declared : goal.returns-clause-declared
returns-clause-declared c = λ kind size code names is.
    let v = c.in_ok-variable_of.field-0 in (
      v,
      search rules,
      subst (λ s. IsDeclared v s kind size code names) c.in_ok-shared.ensures.shared
          (c.in_ok-variable_of.ensures kind size code names is),
    )
