use Rattle.std.proofs.Common.{refl, arith}
use Rattle.std.proofs.lemmas.Result.{err_from_is_err_and}
use Rattle.vcd_core.specs.CaptureContents.{contents}
use Rattle.vcd_journal.proofs.shared.Steps.{edit_accepted, edit_refused}
use Rattle.vcd_journal.proofs.session.RecordsOfHistory.{fit_after_edit, few_after_edit, machine_of_edit, same_machine}
use Rattle.vcd_journal.proofs.session.Session.apply.Goals as goal

pub invariant_of-self-2 : goal.invariant_of-self-2
invariant_of-self-2 c =
    let old = c.self.inside in
    let held = c.self.invariant in
    let made = c.in_ok-record.ensures in
    let newest = c.in_ok-record.record in
    let kept = few_after_edit newest old.past.items old.depth in
    rw (c.clear.ensures) (record {
      sound = made.sound;
      past_fits = rw (c.push_newest.ensures.items)
          (fit_after_edit (contents old.capture) (contents c.apply.new.capture) newest old.past.items old.depth
          made.restores made.fits held.past_fits);
      future_fits = tt;
      few = rw (c.push_newest.ensures.items) (omega (arith, kept));
      most = held.most;
      past_room = rw (c.push_newest.ensures.capacity) held.past_room;
      future_room = held.future_room;
    })

pub returns-clause-step : goal.returns-clause-step
returns-clause-step c =
    let old = c.self.inside in
    let made = c.in_ok-record.ensures in
    let newest = c.in_ok-record.record in
    rw (← c.self.view_is, c.push_newest.ensures.items, c.clear.ensures)
    (edit_accepted c.args.edit.now _ _ made.allowed
    (machine_of_edit c.args.edit.now (contents old.capture) (contents c.apply.new.capture) newest old.past.items
    old.future.items old.depth made.effect made.restores))

pub returns-in_err-record-clause-step : goal.returns-in_err-record-clause-step
returns-in_err-record-clause-step c =
    let refused = err_from_is_err_and c.from_residual.result c.from_residual.ensures.1 in
    let old = c.self.inside in
    let made = c.in_err-record.ensures in
    rw (refused.1, refused.2, ← c.self.view_is)
    (edit_refused c.args.edit.now _ _ _ made.refused
    (λ removes none. let never = made.never_refused removes none in cc)
    (same_machine (contents old.capture) _ old.past.items _ old.future.items _ old.depth made.unchanged refl refl))
