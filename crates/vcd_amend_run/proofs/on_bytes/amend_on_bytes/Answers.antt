-- The texts are what both sinks took.
use Rattle.std.proofs.Common.{refl}
use Rattle.vcd_amend_run.proofs.on_bytes.ResultOfRun.{texts_of_run, refusal_of_run, unmarked_ends}
use Rattle.vcd_amend_run.proofs.on_bytes.amend_on_bytes.Goals as goal

pub returns-in-Ok-clause-headline : goal.returns-in-Ok-clause-headline
returns-in-Ok-clause-headline c =
    let p = c.passes_over-passes.ensures in
    (texts_of_run c.args.file.now c.args.script.now c.args.depth c.into_bytes-replies.result.items _ _ _ _
    (p.declarations, p.outline, p.changes, p.copy, p.again) c.new.ensures.coming c.new-replies.ensures.taken
    c.into_bytes-replies.ensures.taken c.into_bytes.result.items c.in-Ok.summary c.new-output.ensures.taken
    c.into_bytes.ensures.taken (unmarked_ends c.args.depth _ _ _ _ c.in-Ok.summary c.in-Ok.ensures.ends)).0

pub returns-in-Ok-clause-text : goal.returns-in-Ok-clause-text
returns-in-Ok-clause-text c =
    let p = c.passes_over-passes.ensures in
    (texts_of_run c.args.file.now c.args.script.now c.args.depth c.into_bytes-replies.result.items _ _ _ _
    (p.declarations, p.outline, p.changes, p.copy, p.again) c.new.ensures.coming c.new-replies.ensures.taken
    c.into_bytes-replies.ensures.taken c.into_bytes.result.items c.in-Ok.summary c.new-output.ensures.taken
    c.into_bytes.ensures.taken (unmarked_ends c.args.depth _ _ _ _ c.in-Ok.summary c.in-Ok.ensures.ends)).1

pub returns-in-Err-clause-headline : goal.returns-in-Err-clause-headline
returns-in-Err-clause-headline c =
    let p = c.passes_over-passes.ensures in
    refusal_of_run c.args.file.now c.args.script.now c.args.depth c.into_bytes-replies.result.items _ _ _ _
    (p.declarations, p.outline, p.changes, p.copy, p.again) c.new.ensures.coming c.new-replies.ensures.taken
    c.into_bytes-replies.ensures.taken refl refl refl refl refl refl c.in-Err.error c.in-Err.ensures.ends
