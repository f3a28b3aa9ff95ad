use Rattle.std.proofs.Common.{refl}
use Rattle.vcd_core.specs.CaptureContents.{contents}
use Rattle.vcd_core.specs.Devices.{device_end}
use Rattle.vcd_script.specs.declared.running.run_error.RunError.TheVariants as run_errors
use Rattle.vcd_script.proofs.shared.PartsOfRun.{script_gives_where_known, capture_ends, script_ends, lines_end}
use Rattle.vcd_script.proofs.shared.PartsOfRun.{at_error, flushed_at_script}
use Rattle.vcd_script.proofs.shared.PartsOfRun.{file_means, is_accepted, session_ends, flushed_at_line}
use Rattle.vcd_script.proofs.running.run.run_script.Goals as goal

pub returns-in_err-loaded-clause-ended : goal.returns-in_err-loaded-clause-ended
returns-in_err-loaded-clause-ended g c =
    at_error c.from_residual.result (run_errors.Capture c.in_err-loaded.field-0.0) _ c.from_residual.ensures.1
    (capture_ends _ _ c.in_err-loaded.field-0.0 c.in_err-loaded.ensures.refused
    c.in_err-loaded.ensures.failed c.in_err-loaded.ensures.too_large (
      refl,
      c.requires.script_ready,
    ) c.args.depth _ (refl, c.requires.replies_ready))

pub returns-in_err-script-clause-ended : goal.returns-in_err-script-clause-ended
returns-in_err-script-clause-ended g c =
    at_error c.from_residual-in_err-script.result c.in_err-script.field-0.0 _ c.from_residual-in_err-script.ensures.1
    (script_ends _ _ _ c.args.depth c.in_err-script.field-0.0 c.in_err-script.ensures.fails
    (is_accepted _ (contents c.in_ok-loaded.loaded.capture) c.in_ok-loaded.loaded.skipped
    c.in_ok-loaded.ensures.not_failed c.in_ok-loaded.ensures.ended c.in_ok-loaded.ensures.means)
    (refl, c.requires.replies_ready))

pub returns-in_err-session-clause-ended : goal.returns-in_err-session-clause-ended
returns-in_err-session-clause-ended g c =
    at_error c.from_residual-in_err-session.result c.in_err-session.field-0.0 _ c.from_residual-in_err-session.ensures.1
    (session_ends _ _ _ c.args.depth c.in_err-session.field-0.0 c.in_err-session.ensures.fault
    (is_accepted _ (contents c.in_ok-loaded.loaded.capture) c.in_ok-loaded.loaded.skipped
    c.in_ok-loaded.ensures.not_failed c.in_ok-loaded.ensures.ended c.in_ok-loaded.ensures.means)
    (refl, c.requires.replies_ready))

pub returns-in_err-refused-clause-ended : goal.returns-in_err-refused-clause-ended
returns-in_err-refused-clause-ended g c =
    let stopped = rw (c.in_ok-session.ensures.new, c.as_slice.ensures.value) at
    c.in_err-refused.ensures.stopped in
    at_error c.from_residual-in_err-refused.result c.in_err-refused.field-0.0 _ c.from_residual-in_err-refused.ensures.1
    (lines_end _ _ _ c.in_ok-script.script.items c.args.depth c.in_ok-loaded.loaded.skipped
    (contents c.in_ok-loaded.loaded.capture)
    (is_accepted _ (contents c.in_ok-loaded.loaded.capture) c.in_ok-loaded.loaded.skipped
    c.in_ok-loaded.ensures.not_failed c.in_ok-loaded.ensures.ended c.in_ok-loaded.ensures.means)
    c.in_ok-script.ensures.is_read
    (file_means _ (contents c.in_ok-loaded.loaded.capture) c.in_ok-loaded.loaded.skipped c.in_ok-loaded.ensures.means)
    c.in_ok-script.ensures.all _ c.in_err-refused.field-0.0 c.in_err-refused.ensures.failed stopped)

pub returns-clause-gives : goal.returns-clause-gives
returns-clause-gives g c =
    let ran = rw (c.in_ok-session.ensures.new, c.as_slice.ensures.value) at c.in_ok-refused.ensures.ran in
    script_gives_where_known _ _ c.in_ok-script.script.items c.args.depth c.in_ok-loaded.loaded.skipped
    (contents c.in_ok-loaded.loaded.capture) c.run_lines.new.session c.in_ok-refused.refused _ _
    (file_means _ (contents c.in_ok-loaded.loaded.capture) c.in_ok-loaded.loaded.skipped c.in_ok-loaded.ensures.means)
    c.in_ok-script.ensures.all ran

pub returns-in_err-script-clause-flushed_at : goal.returns-in_err-script-clause-flushed_at
returns-in_err-script-clause-flushed_at g c =
    at_error c.from_residual-in_err-script.result c.in_err-script.field-0.0 _ c.from_residual-in_err-script.ensures.1
    (flushed_at_script (device_end g.S.Source.coming g.S.Source.has_failed c.args.script_reader.now
    c.read_script.new.source)
    _ _ c.in_err-script.field-0.0 c.in_err-script.ensures.fails)

pub returns-in_err-refused-clause-flushed_at : goal.returns-in_err-refused-clause-flushed_at
returns-in_err-refused-clause-flushed_at g c =
    at_error c.from_residual-in_err-refused.result c.in_err-refused.field-0.0 _ c.from_residual-in_err-refused.ensures.1
    (flushed_at_line _ _ c.in_err-refused.field-0.0 c.in_err-refused.ensures.fault c.in_err-refused.ensures.failed)
