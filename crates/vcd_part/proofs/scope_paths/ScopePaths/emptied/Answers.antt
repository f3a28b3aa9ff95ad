use Rattle.std.proofs.Common.{◌∙◌}
use Rattle.vcd_part.proofs.scope_paths.NotedPaths.{emptied_are}
use Rattle.vcd_part.proofs.scope_paths.ScopePaths.emptied.Goals as goal

pub returns : goal.returns
returns c = λ r declared at. c.names_without.ensures ∙ emptied_are c.args.self r declared at
