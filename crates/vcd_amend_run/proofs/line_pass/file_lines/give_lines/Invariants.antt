-- The lines passed have their changes.
use Rattle.std.proofs.Common.{drop}
use Rattle.vcd_text.specs.LentChanges.{heard_contents}
use Rattle.vcd_amend_run.specs.inside.FileLines.{changes_of_lines}
use Rattle.vcd_amend_run.specs.inside.PassSteps.{HasGiven}
use Rattle.vcd_amend_run.proofs.line_pass.file_lines.give_lines.Given as goal

abbrev pub invariant-loop-line : goal.invariant-loop-line
invariant-loop-line g l =
    HasGiven g.F.StreamedReply.text_left g.F.StreamedReply.remarks_left
    (changes_of_lines l.lines.cuts.now l.lines.firsts 0 (heard_contents l.change))
    (changes_of_lines l.lines.cuts.now (drop l.line l.lines.firsts) l.line (heard_contents l.change))
    l.fn.maker l.maker l.fn.reply l.reply l.fn.text.items l.text.items
