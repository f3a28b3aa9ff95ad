use Rattle.std.proofs.Common.{Some, refl}
use Rattle.vcd_core.specs.CaptureContents.{contents}
use Rattle.vcd_amend.specs.DeclaredVariables.{declarations_of}
use Rattle.vcd_amend_run.specs.inside.Running.{error_of_copy}
use Rattle.vcd_amend_run.proofs.running.EndsOfRun.{ends_with, ends_with_output, ends_without_output, ends_at_copy}
use Rattle.vcd_amend_run.proofs.running.EndsOfRun.{ends_unwritten, error_ends, unwritten_with}
use Rattle.vcd_amend_run.proofs.running.RemarkedRun.{line_remarks_alone, with_output_remarks}
use Rattle.vcd_amend_run.proofs.running.amend_run.Goals as goal

pub returns-in_err-edited-in-Some-clause-ends : goal.returns-in_err-edited-in-Some-clause-ends
returns-in_err-edited-in-Some-clause-ends g c =
    rw (c.in-Some.is) (ends_with c.from_residual.result c.in_err-edited-in-Some.field-0.0 c.args.options.now
    _ _ _ _ c.from_residual.ensures.1 (error_ends c.args.options.now _ _ _ _ c.in_err-edited-in-Some.field-0.0
    (c.in_err-edited-in-Some.ensures.fails (Some _) refl (refl, c.requires.out_ready c.in-Some.out c.in-Some.is))))

pub returns-in_err-refuse_line-in-Some-clause-ends : goal.returns-in_err-refuse_line-in-Some-clause-ends
returns-in_err-refuse_line-in-Some-clause-ends g c =
    let e = c.in_ok-edited-in-Some.edited in
    let fault = c.in_err-refuse_line-in-Some.ensures.fault in
    rw (c.in-Some.is) (unwritten_with c.from_residual-in_err-refuse_line-in-Some.result
    c.in_err-refuse_line-in-Some.field-0.0 c.args.options.now _ _ _ _
    c.from_residual-in_err-refuse_line-in-Some.ensures.1 fault.0
    (ends_unwritten c.args.options.now _ _ _ (declarations_of e.declared.items) (contents e.first) e.origins.items
    e.cuts.items e.session.now e.refused _ c.in_ok-edited-in-Some.ensures.edited fault.1 fault.2
    (refl, c.requires.out_ready c.in-Some.out c.in-Some.is)))

pub returns-in_err-copy_amended-in-Some-clause-ends : goal.returns-in_err-copy_amended-in-Some-clause-ends
returns-in_err-copy_amended-in-Some-clause-ends g c =
    let e = c.in_ok-edited-in-Some.edited in
    let fails = rw (c.in_ok-edited-in-Some.ensures.copy_kept) at c.in_err-copy_amended-in-Some.ensures.fails in
    let begun = rw (c.in_ok-edited-in-Some.ensures.copy_kept) at c.in_err-copy_amended-in-Some.ensures.begun in
    rw (c.in-Some.is) (ends_with c.from_residual-in_err-copy_amended-in-Some.result
    (error_of_copy c.in_err-copy_amended-in-Some.field-0.0) c.args.options.now _ _ _ _
    c.from_residual-in_err-copy_amended-in-Some.ensures.1
    (ends_at_copy c.args.options.now _ _ _ (declarations_of e.declared.items) (contents e.first) e.origins.items
    e.cuts.items e.session.now e.refused e.edit_lines.items _ c.in_err-copy_amended-in-Some.field-0.0
    c.in_ok-edited-in-Some.ensures.edited c.in_ok-edited-in-Some.ensures.lines fails begun))

pub returns-in_ok-copy_amended-in-Some-clause-ends : goal.returns-in_ok-copy_amended-in-Some-clause-ends
returns-in_ok-copy_amended-in-Some-clause-ends g c =
    let e = c.in_ok-edited-in-Some.edited in
    let amended = rw (c.in_ok-edited-in-Some.ensures.copy_kept) at c.in_ok-copy_amended-in-Some.ensures.amended in
    rw (c.in-Some.is) (ends_with_output c.args.options.now _ _ _ (declarations_of e.declared.items) (contents e.first)
    e.origins.items e.cuts.items e.session.now e.refused e.edit_lines.items _
    c.in_ok-edited-in-Some.ensures.edited c.in_ok-edited-in-Some.ensures.lines
    c.in_ok-edited-in-Some.ensures.not_failed c.in_ok-copy_amended-in-Some.ensures.not_failed
    c.in_ok-edited-in-Some.ensures.file_short c.in_ok-refuse_line-in-Some.ensures.done amended)

pub returns-in_ok-copy_amended-in-Some-clause-output_flushed :
    goal.returns-in_ok-copy_amended-in-Some-clause-output_flushed
returns-in_ok-copy_amended-in-Some-clause-output_flushed g c =
    rw (c.in-Some.is) c.in_ok-copy_amended-in-Some.ensures.flushed

pub returns-in_ok-edited-in-None-clause-ends : goal.returns-in_ok-edited-in-None-clause-ends
returns-in_ok-edited-in-None-clause-ends g c =
    let e = c.in_ok-edited-in-None.edited in
    rw (c.in-None.is) (ends_without_output c.args.options.now.depth _ _ _ (declarations_of e.declared.items)
    (contents e.first)
    e.origins.items e.cuts.items e.session.now e.refused _ c.in_ok-edited-in-None.ensures.edited
    c.in_ok-edited-in-None.ensures.not_failed c.in_ok-edited-in-None.ensures.file_short)

-- ---- the remarks

pub returns-in_err-edited-in-Some-clause-remarked : goal.returns-in_err-edited-in-Some-clause-remarked
returns-in_err-edited-in-Some-clause-remarked g c =
    line_remarks_alone c.args.options.now.depth _ _ _ c.in_err-edited-in-Some.ensures.remarked

pub returns-in_err-edited-in-None-clause-remarked : goal.returns-in_err-edited-in-None-clause-remarked
returns-in_err-edited-in-None-clause-remarked g c =
    line_remarks_alone c.args.options.now.depth _ _ _ c.in_err-edited-in-None.ensures.remarked

pub returns-in_err-refuse_line-in-Some-clause-remarked : goal.returns-in_err-refuse_line-in-Some-clause-remarked
returns-in_err-refuse_line-in-Some-clause-remarked g c =
    line_remarks_alone c.args.options.now.depth _ _ _ c.in_ok-edited-in-Some.ensures.remarked

pub returns-in_ok-edited-in-None-clause-remarked : goal.returns-in_ok-edited-in-None-clause-remarked
returns-in_ok-edited-in-None-clause-remarked g c =
    let e = c.in_ok-edited-in-None.edited in
    with_output_remarks c.args.options.now.depth _ _ _ _ _ _ _ _ _ _ (declarations_of e.declared.items)
    (contents e.first)
    e.origins.items e.cuts.items e.session.now e.refused c.in_ok-edited-in-None.ensures.remarked (λ file shows. shows)
    c.in_ok-edited-in-None.ensures.edited c.remark_without_output.ensures

pub returns-in_err-copy_amended-in-Some-clause-remarked : goal.returns-in_err-copy_amended-in-Some-clause-remarked
returns-in_err-copy_amended-in-Some-clause-remarked g c =
    let e = c.in_ok-edited-in-Some.edited in
    with_output_remarks c.args.options.now.depth _ _ _ _ _ _ _ _ _ _ (declarations_of e.declared.items)
    (contents e.first)
    e.origins.items e.cuts.items e.session.now e.refused c.in_ok-edited-in-Some.ensures.remarked (λ file shows. shows)
    c.in_ok-edited-in-Some.ensures.edited c.in_err-copy_amended-in-Some.ensures.remarked

pub returns-in_ok-copy_amended-in-Some-clause-remarked : goal.returns-in_ok-copy_amended-in-Some-clause-remarked
returns-in_ok-copy_amended-in-Some-clause-remarked g c =
    let e = c.in_ok-edited-in-Some.edited in
    with_output_remarks c.args.options.now.depth _ _ _ _ _ _ _ _ _ _ (declarations_of e.declared.items)
    (contents e.first)
    e.origins.items e.cuts.items e.session.now e.refused c.in_ok-edited-in-Some.ensures.remarked (λ file shows. shows)
    c.in_ok-edited-in-Some.ensures.edited c.in_ok-copy_amended-in-Some.ensures.remarked
