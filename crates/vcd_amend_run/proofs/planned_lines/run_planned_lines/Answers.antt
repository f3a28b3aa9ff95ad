-- The lines so far with one line more, or with none where they end.
use Rattle.std.proofs.Common.{◌≡◌, ℕ, List, rules, arith, refl}
use Rattle.vcd_script.specs.Script.{script_lines}
use Rattle.vcd_script.proofs.shared.LinesLeft.{no_lines}
use Rattle.vcd_amend_run.specs.AmendRunEnds.{FailsOnceMore}
use Rattle.vcd_amend_run.proofs.planned_lines.LinesAfter.{all_are_left, one_less}
use Rattle.vcd_amend_run.proofs.planned_lines.PlannedRun.{first_machines, first_replies, first_remarks}
use Rattle.vcd_amend_run.proofs.planned_lines.PlannedRun.{at_line, machines_on, replies_on, remarks_on, line_stops}
use Rattle.vcd_amend_run.proofs.planned_lines.PlannedRun.{remarks_stop, remarks_end, machines_end, lines_ran}
use Rattle.vcd_amend_run.proofs.planned_lines.PlannedRun.{flush_stops}
use Rattle.vcd_amend_run.proofs.planned_lines.run_planned_lines.Goals as goal

pub loop-text-init : goal.loop-text-init
loop-text-init g c =
    let skipped : ℕ = c.args.input.now.skipped in
    let lines : List (List ℕ) = script_lines c.args.input.now.script.now in
    record {
      left = all_are_left lines;
      machines = first_machines skipped lines c.args.input.now.streamed.now c.args.session.now;
      replied = first_replies skipped lines c.args.input.now.streamed.now c.args.session.now _ _;
      remarked = first_remarks skipped lines c.args.input.now.streamed.now c.args.session.now _ _;
      ready = search rules;
      again_ready = search rules;
      whole = refl;
      number = omega arith;
      refused = omega arith;
    }

pub loop-text-preserved : goal.loop-text-preserved
loop-text-preserved g c =
    let skipped : ℕ = c.args.input.now.skipped in
    let lines : List (List ℕ) = script_lines c.args.input.now.script.now in
    let before = c.loop-text.invariant in
    let parts = c.in-Some.ensures.0 in
    let same : g.O.Reopen.whole c.loop-text.again ≡ g.O.Reopen.whole c.args.again.now = before.whole in
    let answers = rw same at c.in-Ok.ensures.answers in
    record {
      left = one_less (at_line skipped c.loop-text.number lines _ _ _ c.args.input.now.streamed.now
          c.loop-text.streamed.now c.args.session.now c.loop-text.session before.left parts before.machines);
      machines = rw c.streamed_after-streamed.ensures
          (machines_on skipped c.loop-text.number lines _ _ _ c.args.input.now.streamed.now c.loop-text.streamed.now
          c.args.session.now c.loop-text.session before.left parts before.machines c.run_line.new.session
          c.in-Ok.ensures.session);
      replied = replies_on skipped c.loop-text.number lines _ _ _ c.args.input.now.streamed.now c.loop-text.streamed.now
          c.args.session.now c.loop-text.session before.left parts before.machines _ _ _ _ _ _ _ _ c.in-Ok.taken
          before.replied answers (search rules) c.saturating_add-written.ensures;
      remarked = remarks_on skipped c.loop-text.number lines _ _ _ c.args.input.now.streamed.now
          c.loop-text.streamed.now c.args.session.now c.loop-text.session before.left parts before.machines _ _ _
          c.in-Ok.taken _ _ _ _ _ _ _ before.remarked (rw c.capture.ensures.now at c.remark_before.ensures) answers
          c.remark_after.ensures;
      ready = c.in-Ok.ensures.not_failed;
      again_ready = c.in-Ok.ensures.again_ready;
      whole = search rules;
      number = omega (arith, c.in-Some.ensures.1);
      refused = search rules;
    }

pub returns-in-Err-clause-stopped : goal.returns-in-Err-clause-stopped
returns-in-Err-clause-stopped g c =
    let before = c.loop-text.invariant in
    let same : g.O.Reopen.whole c.loop-text.again ≡ g.O.Reopen.whole c.args.again.now = before.whole in
    rw c.end_at_line.ensures.error
    (line_stops c.args.input.now.skipped c.loop-text.number (script_lines c.args.input.now.script.now) _ _ _
    c.args.input.now.streamed.now c.loop-text.streamed.now c.args.session.now c.loop-text.session before.left
    c.in-Some.ensures.0 before.machines _ _ _ _ _ (FailsOnceMore (g.O.Reopen.whole c.args.again.now)
    (g.O.Reopen.has_failed c.run_line.new.again)) _ _ _ c.in-Err.fault before.replied
    (rw same at c.in-Err.ensures.stops) c.end_at_line.ensures.bytes)

pub returns-in-Err-clause-remarked : goal.returns-in-Err-clause-remarked
returns-in-Err-clause-remarked g c =
    let before = c.loop-text.invariant in
    remarks_stop c.args.input.now.skipped c.loop-text.number (script_lines c.args.input.now.script.now) _ _ _
    c.args.input.now.streamed.now c.loop-text.streamed.now c.args.session.now c.loop-text.session before.left
    c.in-Some.ensures.0 before.machines _ _ _ _ _ _ before.remarked
    (rw c.capture.ensures.now at c.remark_before.ensures)

pub returns-in-Ok-flush-clause-ran : goal.returns-in-Ok-flush-clause-ran
returns-in-Ok-flush-clause-ran g c =
    let before = c.loop-text.invariant in
    lines_ran c.args.input.now.skipped c.loop-text.number (script_lines c.args.input.now.script.now) _
    c.args.input.now.streamed.now c.loop-text.streamed.now c.args.session.now c.loop-text.session before.left
    (no_lines c.loop-text.rest.now c.in_default.ensures) _ _ _ _ _ _ before.machines before.replied
    c.in-Ok-flush.ensures.bytes

pub returns-in-Ok-flush-clause-session : goal.returns-in-Ok-flush-clause-session
returns-in-Ok-flush-clause-session g c =
    let before = c.loop-text.invariant in
    machines_end c.args.input.now.skipped c.loop-text.number (script_lines c.args.input.now.script.now) _
    c.args.input.now.streamed.now c.loop-text.streamed.now c.args.session.now c.loop-text.session before.left
    (no_lines c.loop-text.rest.now c.in_default.ensures) before.machines

pub returns-in-Ok-flush-clause-remarked : goal.returns-in-Ok-flush-clause-remarked
returns-in-Ok-flush-clause-remarked g c =
    let before = c.loop-text.invariant in
    remarks_end c.args.input.now.skipped c.loop-text.number (script_lines c.args.input.now.script.now) _
    c.args.input.now.streamed.now c.loop-text.streamed.now c.args.session.now c.loop-text.session before.left _ _ _ _
    before.remarked

pub returns-in-Err-flush-clause-stopped : goal.returns-in-Err-flush-clause-stopped
returns-in-Err-flush-clause-stopped g c =
    let before = c.loop-text.invariant in
    flush_stops c.args.input.now.skipped c.loop-text.number (script_lines c.args.input.now.script.now) _
    c.args.input.now.streamed.now c.loop-text.streamed.now c.args.session.now c.loop-text.session before.left
    (no_lines c.loop-text.rest.now c.in_default.ensures) _ _ _ _ (FailsOnceMore (g.O.Reopen.whole c.args.again.now)
    (g.O.Reopen.has_failed c.loop-text.again)) _ _ before.replied c.in-Err-flush.ensures.bytes

pub returns-in-Err-flush-clause-remarked : goal.returns-in-Err-flush-clause-remarked
returns-in-Err-flush-clause-remarked g c =
    let before = c.loop-text.invariant in
    remarks_end c.args.input.now.skipped c.loop-text.number (script_lines c.args.input.now.script.now) _
    c.args.input.now.streamed.now c.loop-text.streamed.now c.args.session.now c.loop-text.session before.left _ _ _ _
    before.remarked
