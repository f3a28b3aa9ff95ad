-- The replies so far, with that of one more line, or with none where the lines end.
use Rattle.std.proofs.Common.{arith, rules}
use Rattle.std.proofs.KnownBytes.{Appends-kept}
use Rattle.std.proofs.lemmas.Result.{IfOk-weaker}
use Rattle.vcd_script.proofs.shared.PartsOfRun.{at_error}
use Rattle.vcd_script.proofs.shared.LinesLeft.{reply_more, none_left, no_lines, line_stops, flush_stops}
use Rattle.vcd_script.proofs.running.run_lines.run_lines.Goals as goal

pub loop-line-init : goal.loop-line-init
loop-line-init g c = record {
  replied = search rules;
  ready = search rules;
  number = search rules;
  refused = search rules;
  written = search rules;
}

pub loop-line-preserved : goal.loop-line-preserved
loop-line-preserved g c =
    let answers = rw (c.in_ok-reply.ensures.same) at c.answer_line-answer.ensures.answers in record {
      replied = reply_more c.loop-line.invariant.replied c.in-Some.ensures.0 c.answer_line-answer.new.session
          c.in_ok-reply.reply c.from-refused.result c.len.result (g.P.Sink.taken c.write_answer.new.replies) answers
          c.in_ok-reply.ensures.written (search rules) (search rules);
      ready = c.in_ok-reply.ensures.not_failed;
      number = omega (arith, c.in-Some.ensures.1);
      refused = search rules;
      written = search rules;
    }

pub returns-in_err-reply-clause-stopped : goal.returns-in_err-reply-clause-stopped
returns-in_err-reply-clause-stopped g c =
    at_error c.from_residual.result c.in_err-reply.field-0.0 _ c.from_residual.ensures.1
    (line_stops c.loop-line.invariant.replied c.in-Some.ensures.0 (g.P.Sink.taken c.write_answer.new.replies)
    c.in_err-reply.field-0.0
    (c.in_err-reply.ensures.stopped _
    (IfOk-weaker c.answer_line-answer.result _ _ (λ reply answers. answers.1.0)
    c.answer_line-answer.ensures.answers)))

pub returns-in-Ok-clause-ran : goal.returns-in-Ok-clause-ran
returns-in-Ok-clause-ran g c =
    let so = none_left c.loop-line.invariant.replied (no_lines c.loop-line.rest.now c.in_default.ensures) in
    (so.0, Appends-kept _ _ _ _ so.1 c.in-Ok.ensures.bytes, so.2)

pub returns-in-Err-clause-stopped : goal.returns-in-Err-clause-stopped
returns-in-Err-clause-stopped g c =
    flush_stops c.loop-line.invariant.replied (no_lines c.loop-line.rest.now c.in_default.ensures)
    (g.P.Sink.taken c.flush.new.self) c.in-Err.ensures.bytes
