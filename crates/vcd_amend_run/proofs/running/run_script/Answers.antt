use Rattle.std.proofs.Common.{List, false, refl, sym, ap, subst, ◌∙◌}
use Rattle.std.specs.Global.{Vec}
use Rattle.std.specs.Io.KnownBytes.{Appends}
use Rattle.vcd_core.specs.CaptureContents.{contents}
use Rattle.vcd_core.specs.Contents.{Contents}
use Rattle.vcd_script.specs.Script.{script_lines}
use Rattle.vcd_text.specs.Grammar.{VariableDeclaration}
use Rattle.vcd_amend.specs.DeclaredVariables.{declarations_of, HaveSizesOf}
use Rattle.vcd_amend.specs.declared.declarations.DeclaredVariable.{DeclaredVariable}
use Rattle.vcd_amend_run.specs.inside.Running.{IsEdited}
use Rattle.vcd_amend_run.proofs.running.CarriedOut.{is_edited, comes_from, hollow_of_none}
use Rattle.vcd_amend_run.proofs.running.EndsOfRun.{plan_ends, lines_end, at_error}
use Rattle.vcd_amend_run.proofs.running.RemarkedRun.{none_taken, remarks_of_plan}
use Rattle.vcd_amend_run.proofs.running.run_script.Goals as goal

pub returns-in_err-plan-clause-fails : goal.returns-in_err-plan-clause-fails
returns-in_err-plan-clause-fails g c =
    at_error c.from_residual.result c.in_err-plan.field-0.0 _ c.from_residual.ensures.1
    (c.in_err-plan.ensures.fails c.args.depth c.args.writes _ (refl, c.requires.replies_ready))

pub returns-in_err-check_plan-clause-fails : goal.returns-in_err-check_plan-clause-fails
returns-in_err-check_plan-clause-fails g c =
    let plan = c.in_ok-plan.plan in
    at_error c.from_residual-in_err-check_plan.result c.in_err-check_plan.field-0.0 _
    c.from_residual-in_err-check_plan.ensures.1
    (plan_ends c.args.depth c.args.writes _ _ _ (declarations_of plan.declared.items) plan.skipped (contents plan.first)
    plan.streamed.items plan.origins.items plan.cuts.items plan.takes_skipped_name plan.script.items
    c.in_err-check_plan.field-0.0
    c.in_err-check_plan.ensures.refused c.in_ok-plan.ensures.planned (refl, c.requires.replies_ready))

pub returns-in_err-edited-clause-fails : goal.returns-in_err-edited-clause-fails
returns-in_err-edited-clause-fails g c =
    let plan = c.in_ok-plan.plan in
    at_error c.from_residual-in_err-edited.result c.in_err-edited.field-0.0 _ c.from_residual-in_err-edited.ensures.1
    (lines_end c.args.depth c.args.writes _ _ _ (declarations_of plan.declared.items) plan.skipped (contents plan.first)
    plan.streamed.items plan.origins.items plan.cuts.items plan.takes_skipped_name plan.script.items
    c.in_ok-plan.ensures.planned
    c.in_err-edited.field-0.0 (rw (c.in_ok-plan.ensures.again_kept) at c.in_err-edited.ensures.stops))

pub returns-clause-edited : goal.returns-clause-edited
returns-clause-edited g c file lines shows script_shows =
    let plan = c.in_ok-plan.plan in
    let e = c.in_ok-edited.edited in
    subst (λ (ds : List VariableDeclaration). IsEdited file lines c.args.depth c.args.writes
    (Appends (g.P.Sink.taken c.args.replies.now) (g.P.Sink.taken c.edit.new.replies)) ds (contents e.first)
    e.origins.items e.cuts.items e.session.now e.refused)
    (ap (λ (all : Vec DeclaredVariable). declarations_of all.items) (sym c.in_ok-edited.ensures.kept.0))
    (rw (c.in_ok-edited.ensures.kept.1, c.in_ok-edited.ensures.kept.2, c.in_ok-edited.ensures.kept.3)
    (is_edited file lines plan.script.items c.args.depth c.args.writes (declarations_of plan.declared.items)
    plan.skipped (contents plan.first) plan.streamed.items plan.origins.items plan.cuts.items plan.takes_skipped_name
    _ (g.O.Reopen.has_failed c.edit.new.again) e.session e.refused _ _
    (c.in_ok-plan.ensures.planned file lines shows script_shows)
    c.in_ok-check_plan.ensures.free
    (ap g.O.Reopen.whole c.in_ok-plan.ensures.again_kept ∙ shows.3) c.in_ok-edited.ensures.ran))

pub returns-clause-lines : goal.returns-clause-lines
returns-clause-lines g c file lines shows script_shows = λ d n means.
    ap (λ v. v.items) c.in_ok-edited.ensures.kept.4
    ∙ c.in_ok-plan.ensures.lines file lines shows script_shows d n means

pub returns-clause-sizes : goal.returns-clause-sizes
returns-clause-sizes g c =
    let e = c.in_ok-edited.edited in
    subst (λ (ds : List VariableDeclaration). HaveSizesOf (contents e.first).signals ds)
    (ap (λ (all : Vec DeclaredVariable). declarations_of all.items) (sym c.in_ok-edited.ensures.kept.0))
    (subst (λ (first : Contents). HaveSizesOf first.signals (declarations_of c.in_ok-plan.plan.declared.items))
    (sym c.in_ok-edited.ensures.kept.1) c.in_ok-plan.ensures.sizes)

pub returns-clause-come : goal.returns-clause-come
returns-clause-come g c =
    let plan = c.in_ok-plan.plan in
    rw (c.in_ok-edited.ensures.kept.1, c.in_ok-edited.ensures.kept.2)
    (comes_from (contents plan.first) plan.skipped c.args.depth (script_lines plan.script.items) plan.origins.items
    c.in_ok-edited.edited.session c.in_ok-plan.ensures.placed
    (c.in_ok-edited.ensures.session (contents plan.first) (λ k. false) (sym (hollow_of_none (contents plan.first)))
    c.in_ok-plan.ensures.lines_planned))

-- ---- the remarks

pub returns-in_err-plan-clause-remarked : goal.returns-in_err-plan-clause-remarked
returns-in_err-plan-clause-remarked g c =
    none_taken c.args.depth _ _ (g.Q.Sink.taken c.args.remarks.now) (g.Q.Sink.has_failed c.args.remarks.now)

pub returns-in_err-check_plan-clause-remarked : goal.returns-in_err-check_plan-clause-remarked
returns-in_err-check_plan-clause-remarked g c =
    none_taken c.args.depth _ _ (g.Q.Sink.taken c.args.remarks.now) (g.Q.Sink.has_failed c.args.remarks.now)

pub returns-in_err-edited-clause-remarked : goal.returns-in_err-edited-clause-remarked
returns-in_err-edited-clause-remarked g c =
    let plan = c.in_ok-plan.plan in
    remarks_of_plan c.args.depth _ _ _ (declarations_of plan.declared.items) plan.skipped (contents plan.first)
    plan.streamed.items plan.origins.items plan.cuts.items plan.takes_skipped_name plan.script.items
    c.in_ok-plan.ensures.planned (rw (c.in_ok-plan.ensures.again_kept) at c.in_err-edited.ensures.remarked)

pub returns-clause-remarked : goal.returns-clause-remarked
returns-clause-remarked g c =
    let plan = c.in_ok-plan.plan in
    remarks_of_plan c.args.depth _ _ _ (declarations_of plan.declared.items) plan.skipped (contents plan.first)
    plan.streamed.items plan.origins.items plan.cuts.items plan.takes_skipped_name plan.script.items
    c.in_ok-plan.ensures.planned (rw (c.in_ok-plan.ensures.again_kept) at c.in_ok-edited.ensures.remarked)
