use Rattle.std.proofs.Common.{◌∙◌, sym, ap}
use Rattle.vcd_edit.specs.inside.fitting.Adjacency.{floor_after}
use Rattle.vcd_edit.proofs.fitting.FittingPieces.{floor_after-push, floor_of_none}
use Rattle.vcd_edit.proofs.fitting.adjacency.floor_after.Goals as goal

pub returns-in-Some : goal.returns-in-Some
returns-in-Some c = sym (ap (floor_after 0) c.in-Some.ensures.cases.0 ∙ floor_after-push 0 _ c.in-Some.last.now)

pub returns-in-None : goal.returns-in-None
returns-in-None c = floor_of_none c.args.changes.now c.in-None.ensures.cases
