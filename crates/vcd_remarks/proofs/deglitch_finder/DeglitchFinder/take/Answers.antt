use Rattle.std.proofs.Common.{◌∷◌, refl, sym}
use Rattle.vcd_remarks.specs.ValueRuns.{runs_begun}
use Rattle.vcd_remarks.proofs.deglitch_finder.RunsTaken.{later_begins}
use Rattle.vcd_remarks.proofs.deglitch_finder.DeglitchFinder.take.Goals as goal
use Rattle.vcd_remarks.proofs.deglitch_finder.DeglitchFinder.take.Goals.{then-self-change, else-self-change}

pub returns : goal.returns
unfolding runs_begun
returns c = λ more.
    let d = c.args.change.now in
    let begins = later_begins d more in
    elim c.if-self-change.branch [
      | then-self-change w ↦
          rw (w.self-is, w.if-self-change.true, begins, sym w.saturating_sub-self.ensures)
          (w.take.ensures (runs_begun c.args.self.now.rule.end (d ∷ more)))
      | else-self-change w ↦ rw (w.self-is, w.if-self-change.false, begins) refl
    ]
