-- The texts are what both sinks took.
use Rattle.std.proofs.Common.{refl}
use Rattle.vcd_script.proofs.shared.LawsOfRun.{run_laws}
use Rattle.vcd_script.proofs.running.ResultOfRun.{texts_of_run, refusal_of_run}
use Rattle.vcd_script.proofs.running.run_on_bytes.run_on_bytes.Goals as goal

pub returns-in-Ok-clause-headline : goal.returns-in-Ok-clause-headline
returns-in-Ok-clause-headline c =
    texts_of_run c.args.capture.now c.args.script.now c.into_bytes-replies.result.items c.into_bytes.result.items
    c.args.depth _ _ _ _ c.in-Ok.summary c.new.ensures.coming c.new-2.ensures.coming
    c.new-replies.ensures.taken c.into_bytes-replies.ensures.taken
    c.new-output.ensures.taken c.into_bytes.ensures.taken
    c.in-Ok.ensures.ends

pub returns-in-Err-clause-headline : goal.returns-in-Err-clause-headline
returns-in-Err-clause-headline c =
    rw (c.refusal_of.ensures)
    (refusal_of_run c.args.capture.now c.args.script.now c.args.depth c.into_bytes-replies.result c.new-in-Err.result
    c.new-in-Err.ensures.items _ _ _ _ c.new.ensures.coming refl c.new-2.ensures.coming refl
    c.new-replies.ensures.taken c.into_bytes-replies.ensures.taken c.in-Err.error c.in-Err.ensures.ends)

pub returns-in-Ok-clause-laws : goal.returns-in-Ok-clause-laws
returns-in-Ok-clause-laws c = run_laws c.args.depth

pub returns-in-Err-clause-laws : goal.returns-in-Err-clause-laws
returns-in-Err-clause-laws c = run_laws c.args.depth
