use Rattle.std.proofs.lemmas.Option.{IfSome_then}
use Rattle.vcd_amend.proofs.declarations.collector.Collected.{all_declared}
use Rattle.vcd_amend.proofs.declarations.declared_variables.Goals as goal

pub returns-in-Ok-clause-declared : goal.returns-in-Ok-clause-declared
returns-in-Ok-clause-declared g c = IfSome_then (g.R.Source.coming c.args.reader.now) c.in-Ok.ensures.told
    (λ file told state accepts. all_declared c.args.limit c.copy.new.amender file state told accepts)

pub returns-in-Err-clause-fails : goal.returns-in-Err-clause-fails
returns-in-Err-clause-fails g c = c.read_error.ensures _ _ _ _ _ _ _ _ c.in-Err.ensures.fails
