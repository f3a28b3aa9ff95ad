use Rattle.std.proofs.Common.{◌≡◌, ◌-◌, true, length, refl, sym, ◌∙◌, arith}
use Rattle.std.proofs.lemmas.List.{length-take}
use Rattle.std.proofs.lemmas.Result.{err_from_is_err_and}
use Rattle.vcd_core.specs.CaptureContents.{contents}
use Rattle.vcd_journal.specs.History.{is_depth}
use Rattle.vcd_journal.specs.ReachedCaptures.{reached_captures}
use Rattle.vcd_journal.proofs.shared.Steps.{depth_within, depth_too_small, depth_no_memory, depth_accepted}
use Rattle.vcd_journal.proofs.session.RecordsOfHistory.{length_reached_captures, AllRecordsFit_take, same_machine}
use Rattle.vcd_journal.proofs.session.RecordsOfHistory.{machine_of_depth}
use Rattle.vcd_journal.proofs.session.Session.set_depth.Goals.{After-len-redoable}
use Rattle.vcd_journal.proofs.session.Session.set_depth.Goals as goal

-- the depth is one, and there is a capture for each step that can be redone
known : (c : After-len-redoable) → (is_depth c.args.depth ≡ true)
    × (length (reached_captures (contents c.self.inside.capture) c.self.inside.future.items) ≡ c.len-redoable.result)
known c = (
  sym c.if-not-is_depth.ensures,
  length_reached_captures (contents c.self.inside.capture) c.self.inside.future.items ∙ sym c.len-redoable.ensures.len,
)

pub returns-then-depth-redoable-clause-step : goal.returns-then-depth-redoable-clause-step
returns-then-depth-redoable-clause-step c =
    let is = known (goal.at.returns-then-depth-redoable-clause-step c).After-len-redoable in
    rw (← c.self.view_is) (depth_too_small c.args.depth _ _ is.0 (omega (arith, is.1)) refl)

pub returns-in_err-enlarge-clause-step : goal.returns-in_err-enlarge-clause-step
returns-in_err-enlarge-clause-step c =
    let refused = err_from_is_err_and c.from_residual.result c.from_residual.ensures.1 in
    let old = c.self.inside in
    let is = known (goal.at.returns-in_err-enlarge-clause-step c).After-len-redoable in
    rw (refused.1, refused.2, ← c.self.view_is)
    (depth_no_memory c.args.depth _ _ is.0 (omega (arith, is.1))
    (omega (arith, c.self.invariant.past_room, c.in_err-enlarge.ensures.lacks_room))
    (same_machine (contents old.capture) _ old.past.items _ old.future.items _ old.depth refl
    c.in_err-enlarge.ensures.items refl))

pub returns-in_err-enlarge-2-clause-step : goal.returns-in_err-enlarge-2-clause-step
returns-in_err-enlarge-2-clause-step c =
    let refused = err_from_is_err_and c.from_residual-in_err-enlarge-2.result
    c.from_residual-in_err-enlarge-2.ensures.1 in
    let old = c.self.inside in
    let is = known (goal.at.returns-in_err-enlarge-2-clause-step c).After-len-redoable in
    rw (refused.1, refused.2, ← c.self.view_is)
    (depth_no_memory c.args.depth _ _ is.0 (omega (arith, is.1))
    (omega (arith, c.self.invariant.future_room, c.in_err-enlarge-2.ensures.lacks_room))
    (same_machine (contents old.capture) _ old.past.items _ old.future.items _ old.depth refl
    c.in_ok-enlarge.ensures.items c.in_err-enlarge-2.ensures.items))

pub invariant_of-self-2 : goal.invariant_of-self-2
invariant_of-self-2 c =
    let old = c.self.inside in
    let held = c.self.invariant in
    let kept = length-take (c.args.depth - c.len-redoable.result) old.past.items in
    rw (c.drop_older.ensures) (record {
      sound = held.sound;
      past_fits = rw (c.in_ok-enlarge.ensures.items)
          (AllRecordsFit_take (contents old.capture) (c.args.depth - c.len-redoable.result) old.past.items
          held.past_fits);
      future_fits = rw (c.in_ok-enlarge-2.ensures.items) held.future_fits;
      few = rw (c.in_ok-enlarge.ensures.items, c.in_ok-enlarge-2.ensures.items)
          (omega (arith, kept, c.len-redoable.ensures.len));
      most = depth_within c.args.depth (known (goal.at.invariant_of-self-2 c).After-len-redoable).0;
      past_room = c.in_ok-enlarge.ensures.room;
      future_room = c.in_ok-enlarge-2.ensures.room;
    })

pub returns-clause-step : goal.returns-clause-step
returns-clause-step c =
    let old = c.self.inside in
    let is = known (goal.at.returns-clause-step c).After-len-redoable in
    rw (
      ← c.self.view_is,
      c.drop_older.ensures,
      c.in_ok-enlarge.ensures.items,
      c.in_ok-enlarge-2.ensures.items,
      c.len-redoable.ensures.len,
    )
    (depth_accepted c.args.depth _ _ is.0 (omega (arith, is.1, c.len-redoable.ensures.len))
    (machine_of_depth (contents old.capture) old.past.items old.future.items old.depth c.args.depth))
