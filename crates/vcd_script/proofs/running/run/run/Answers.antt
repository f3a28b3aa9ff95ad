use Rattle.std.proofs.Common.{Some, None, inl, inr, refl}
use Rattle.vcd_script.proofs.shared.PartsOfRun.{run_reaches_end, run_stops_at_output, given_or_none, ends_with}
use Rattle.vcd_script.proofs.shared.PartsOfRun.{ends_with_writer}
use Rattle.vcd_script.proofs.running.run.run.Goals as goal

pub returns-in_err-session-clause-ends : goal.returns-in_err-session-clause-ends
returns-in_err-session-clause-ends g c =
    elim (given_or_none c.args.out) [
      | inl none ↦ rw none (ends_with c.from_residual.result c.in_err-session.field-0.0 c.args.depth _ _ _ _
          c.from_residual.ensures.1 (c.in_err-session.ensures.ended _ tt))
      | inr some ↦ rw (some.1) (ends_with_writer c.from_residual.result c.in_err-session.field-0.0 c.args.depth _ _ _ _
          c.from_residual.ensures.1 c.in_err-session.ensures.ended (refl, c.requires.out_ready some.0 some.1))
    ]

pub returns-in-Some-clause-ends : goal.returns-in-Some-clause-ends
returns-in-Some-clause-ends g c =
    let wrote = rw (c.capture.ensures.now) at c.in_ok-write-in-Some.ensures.written in
    rw (c.in-Some.is) (run_reaches_end _ _ _ (Some _) c.args.depth _ c.in_ok-session.session.now
    c.in_ok-session.ensures.accepted c.in_ok-session.ensures.script_read
    c.in_ok-session.ensures.not_failed c.in_ok-session.ensures.gives
    (c.in_ok-write-in-Some.ensures.not_failed, wrote))

pub returns-clause-ends : goal.returns-clause-ends
returns-clause-ends g c =
    rw (c.in-None.is) (run_reaches_end _ _ _ None c.args.depth _ c.in_ok-session.session.now
    c.in_ok-session.ensures.accepted c.in_ok-session.ensures.script_read
    c.in_ok-session.ensures.not_failed c.in_ok-session.ensures.gives tt)

pub returns-in_err-write-in-Some-clause-ends : goal.returns-in_err-write-in-Some-clause-ends
returns-in_err-write-in-Some-clause-ends g c =
    let stopped = rw (c.capture.ensures.now) at c.in_err-write-in-Some.ensures.failed in
    rw (c.in-Some.is) (ends_with c.from_residual-in_err-write-in-Some.result _ c.args.depth _ _ _ _
    (c.from_residual-in_err-write-in-Some.ensures.1)
    (run_stops_at_output _ _ _ _ c.args.depth c.in_ok-session.refused
    c.in_ok-session.session.now c.in_err-write-in-Some.field-0.0
    c.in_ok-session.ensures.accepted
    c.in_ok-session.ensures.script_read c.in_ok-session.ensures.not_failed c.in_ok-session.ensures.gives
    stopped))

pub returns-in-Some-clause-output_flushed : goal.returns-in-Some-clause-output_flushed
returns-in-Some-clause-output_flushed g c = rw (c.in-Some.is) (c.in_ok-write-in-Some.ensures.flushed)
