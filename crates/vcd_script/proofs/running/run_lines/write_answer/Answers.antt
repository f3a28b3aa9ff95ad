use Rattle.std.proofs.Common.{◌≡◌}
use Rattle.vcd_script.proofs.shared.PartsOfRun.{at_error}
use Rattle.vcd_script.proofs.running.run_lines.write_answer.Goals as goal

pub returns-in_err-write_reply-in-Ok-clause-stopped : goal.returns-in_err-write_reply-in-Ok-clause-stopped
returns-in_err-write_reply-in-Ok-clause-stopped g c =
    at_error c.from_residual.result c.in_err-write_reply-in-Ok.field-0.0 _ c.from_residual.ensures.1 (λ text is.
    let same : c.in-Ok.reply.text.items ≡ text = rw (c.in-Ok.is) at is in
    rw (c.as_slice.ensures.value, same) at c.in_err-write_reply-in-Ok.ensures.stopped c.args.number)
