-- What was found after the lines.
use Rattle.std.proofs.Common.{Bool, List, length, subst, ap, ◌∙◌}
use Rattle.vcd_core.specs.CaptureContents.{contents}
use Rattle.vcd_script.specs.Script.{script_lines}
use Rattle.vcd_amend_run.proofs.dry_running.FoundInLines.{found_in_lines}
use Rattle.vcd_amend_run.proofs.dry_running.PlannedInHistory.{HearsMarked}
use Rattle.vcd_amend_run.proofs.dry_running.dry_run.Goals as goal

pub returns-in-Ok-cuts : goal.returns-in-Ok-cuts
returns-in-Ok-cuts c =
    let found = found_in_lines (contents c.args.outline) c.args.skipped c.args.depth (script_lines c.args.script.now)
    c.in-Ok.state c.hear_lines.new.state (record {
      session = c.in-Ok.ensures.session;
      history = c.in-Ok.ensures.history;
      plan = c.in-Ok.ensures.plan;
    }) c.in_ok-hear_lines.ensures.heard in
    record {
      planned = λ silent hears. rw c.found.ensures.streamed
          (found.planned silent (subst (HearsMarked silent) c.found.ensures.heard hears));
      one_each = ap (λ (l : List Bool). length l) c.found.ensures.heard ∙ found.one_each;
      origins = c.found.ensures.origins ∙ found.left;
      cuts = ap (λ v. v.items) c.found.ensures.cuts ∙ c.in-Ok-cuts.ensures ∙ found.cuts_are;
      lines = c.found.ensures.lines ∙ found.lines_are;
      last = c.found.ensures.last ∙ found.last;
      line = tt;
    }
