use Rattle.std.proofs.Common.{◌+◌, drop, arith, List, subst}
use Rattle.vcd_text.specs.HeardChanges.{HeardChange}
use Rattle.vcd_text.specs.LentChanges.{heard_contents}
use Rattle.vcd_amend_run.specs.inside.FileLines.{changes_of_lines, changes_of_heard}
use Rattle.vcd_amend_run.specs.inside.PassSteps.{HasGiven}
use Rattle.vcd_decode.specs.declared.edge_maker.LineChange.{LineChange}
use Rattle.vcd_amend_run.proofs.line_pass.GivenChanges.{given_next, next_heard, none_heard}
use Rattle.vcd_amend_run.proofs.line_pass.file_lines.give_heard.Goals as goal

pub loop-position-preserved : goal.loop-position-preserved
loop-position-preserved g c =
    let cuts = c.args.lines.now.cuts.now in
    let firsts = c.args.lines.now.firsts in
    let hs : List HeardChange = c.args.heard.now in
    let k = c.loop-position.position in
    let h = heard_contents c.get-change.result in
    given_next g.F.StreamedReply.text_left g.F.StreamedReply.remarks_left (changes_of_heard cuts firsts hs)
    (changes_of_heard cuts firsts (drop k hs)) (changes_of_lines cuts firsts 0 h)
    (changes_of_heard cuts firsts (drop (k + 1) hs))
    c.args.maker.now c.loop-position.maker c.give_lines.new.maker
    c.args.reply.now c.loop-position.reply c.give_lines.new.reply
    c.args.text.now.items c.loop-position.text.items c.give_lines.new.text.items
    (next_heard cuts firsts hs k h c.get-change.ensures)
    c.loop-position.invariant c.in_ok-give_lines.ensures

pub returns : goal.returns
returns g c =
    let cuts = c.args.lines.now.cuts.now in
    let firsts = c.args.lines.now.firsts in
    let hs : List HeardChange = c.args.heard.now in
    subst (λ (cs : List LineChange). HasGiven g.F.StreamedReply.text_left g.F.StreamedReply.remarks_left
    (changes_of_heard cuts firsts hs) cs
    c.args.maker.now c.loop-position.maker c.args.reply.now c.loop-position.reply
    c.args.text.now.items c.loop-position.text.items)
    (none_heard cuts firsts hs c.loop-position.position (omega arith))
    c.loop-position.invariant
