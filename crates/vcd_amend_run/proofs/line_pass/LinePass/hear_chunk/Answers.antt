use Rattle.std.proofs.Common.{List, subst}
use Rattle.vcd_amend_run.specs.inside.FileLines.{changes_of_heard}
use Rattle.vcd_amend_run.specs.inside.PassSteps.{HasGivenAll}
use Rattle.vcd_decode.specs.declared.edge_maker.LineChange.{LineChange}
use Rattle.vcd_amend_run.proofs.line_pass.LinePass.hear_chunk.Goals as goal

pub returns-in-Err-clause-fault : goal.returns-in-Err-clause-fault
returns-in-Err-clause-fault g c coming state heard at = record {
  refused = c.in-Err.ensures.refused coming state heard at;
  failed_reader = c.in-Err.ensures.failed;
  other = c.in-Err.ensures.unfailed;
}

pub firsts_of-requires : goal.firsts_of-requires
firsts_of-requires g c =
    let (coming, state, heard, at) = c.requires.streamed in
    let on = c.in-Ok.ensures.streamed coming state heard at in
    (on.later, on.at)

pub returns-in-Ok-give_heard-clause-given : goal.returns-in-Ok-give_heard-clause-given
returns-in-Ok-give_heard-clause-given g c state at =
    subst (λ (cs : List LineChange). HasGivenAll g.F.StreamedReply.text_left g.F.StreamedReply.remarks_left cs
    c.args.self.now.maker c.give_heard.new.maker c.args.reply.now c.give_heard.new.reply
    c.args.self.now.text.items c.give_heard.new.text.items)
    (λ i. changes_of_heard (c.as_slice.ensures.value i) (c.firsts_of.ensures state at i) (c.heard-heard.ensures i))
    c.in-Ok-give_heard.ensures
