use Rattle.std.proofs.Common.{refl, rules, tests}
use Rattle.vcd_remarks.specs.EditFindings.{is_moved_past, is_moved_before_zero}
use Rattle.vcd_remarks.proofs.change_finders.ChangesTaken.{change_taken}
use Rattle.vcd_remarks.proofs.change_finders.ShiftFinder.take.Goals as goal

pub returns : goal.returns
returns c = λ more.
    let f = c.args.self.now in
    let d = c.args.change.now in
    let past = change_taken f.past _ d more (is_moved_past f.end f.by) _ c.with_tick_if-self.ensures
    (search (rules, tests)) in
    let early = change_taken f.early _ d more (is_moved_before_zero f.by) _ c.with_tick_if-self-2.ensures
    (search (rules, tests)) in
    rw (past, early) refl
