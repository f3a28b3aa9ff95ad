use Rattle.std.proofs.Common.{◌∙◌, ap, arith, length, map, ◌++◌}
use Rattle.vcd_compare.specs.inside.Planning.{planned_listed}
use Rattle.vcd_compare.proofs.variables.Listed.{all_listed}
use Rattle.vcd_compare.proofs.variables.variables_of.Goals as goal

pub returns : goal.returns
returns c s at =
    let signals = c.in_ok-variables.variables.items in
    all_listed s.declared signals c.add_skipped.new.variables.items (c.in_ok-variables.ensures s at)
    (c.in_ok-add_skipped.ensures
    ∙ ap (λ l. signals ++ map (planned_listed (length signals)) l) (c.skipped_variables.ensures s at))
    (omega (arith, c.add_skipped.new.variables.small))
