use Rattle.std.proofs.Common.{refl}
use Rattle.std.specs.List.{list_any}
use Rattle.vcd_remarks.specs.EditFindings.{is_z}
use Rattle.vcd_remarks.proofs.change_finders.ChangesTaken.{change_taken}
use Rattle.vcd_remarks.proofs.edit_finder.EditFinder.take.Goals as goal

pub returns-in-Invert : goal.returns-in-Invert
returns-in-Invert c = λ more.
    let found = change_taken c.in-Invert.found _ c.args.change.now more (λ d. list_any is_z d.value) _
    c.with_tick_if.ensures c.has_z.ensures in
    rw (c.in-Invert.is, found) refl
