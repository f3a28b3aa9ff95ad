use Rattle.std.proofs.Common.{◌∙◌, ◌≤◌, ◌+◌, sym, ap, subst, length}
use Rattle.vcd_core.specs.CaptureContents.{contents}
use Rattle.vcd_journal.specs.Machine.{Machine}
use Rattle.vcd_journal.proofs.session.RecordsOfHistory.{length_reached_captures, few_captures}
use Rattle.vcd_journal.proofs.session.Session.redoable.Goals as goal

pub returns-clause-count : goal.returns-clause-count
returns-clause-count c =
    c.len.ensures.len ∙ sym (length_reached_captures (contents c.self.inside.capture) c.self.inside.future.items)
    ∙ ap (λ (m : Machine). length m.future) c.self.view_is

pub returns-clause-most : goal.returns-clause-most
returns-clause-most c =
    let inside = c.self.inside in
    subst (λ (m : Machine). length m.past + length m.future ≤ m.depth) c.self.view_is
    (few_captures (contents inside.capture) inside.past inside.future inside.depth c.self.invariant)
