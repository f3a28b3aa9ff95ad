-- The changes passed are given.
use Rattle.std.proofs.Common.{drop}
use Rattle.vcd_amend_run.specs.inside.FileLines.{changes_of_heard}
use Rattle.vcd_amend_run.specs.inside.PassSteps.{HasGiven}
use Rattle.vcd_amend_run.proofs.line_pass.file_lines.give_heard.Given as goal

abbrev pub invariant-loop-position : goal.invariant-loop-position
invariant-loop-position g l =
    HasGiven g.F.StreamedReply.text_left g.F.StreamedReply.remarks_left
    (changes_of_heard l.lines.cuts.now l.lines.firsts l.heard)
    (changes_of_heard l.lines.cuts.now l.lines.firsts (drop l.position l.heard))
    l.fn.maker l.maker l.fn.reply l.reply l.fn.text.items l.text.items
