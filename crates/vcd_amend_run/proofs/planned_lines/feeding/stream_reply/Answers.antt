-- The pass, and then the rest of the reply.
use Rattle.std.proofs.Common.{◌≡◌, rules}
use Rattle.std.proofs.lemmas.Result.{IfOk-weaker, IfErr-weaker}
use Rattle.vcd_amend_run.proofs.planned_lines.FedReplies.{streams, stops_at_end, stops_in_pass}
use Rattle.vcd_amend_run.proofs.planned_lines.feeding.stream_reply.Goals as goal

pub returns-in-Ok-clause-streamed : goal.returns-in-Ok-clause-streamed
returns-in-Ok-clause-streamed g c =
    IfOk-weaker c.finish_reply.result _ _
    (streams g.F.StreamedReply.text_left g.F.StreamedReply.remarks_left (g.O.Reopen.whole c.args.again.now)
    (g.R.Source.coming c.in_ok-source.source) c.args.line.now c.in_ok-source.ensures.bytes c.args.reply.now
    c.feed_line-fed.new.reply (g.P.Sink.taken c.args.replies.now) (g.P.Sink.taken c.feed_line-fed.new.replies)
    (g.P.Sink.taken c.finish_reply.new.replies) c.in-Ok.written c.in-Ok.ensures.fed)
    c.finish_reply.ensures.finished

pub returns-in-Ok-clause-stops : goal.returns-in-Ok-clause-stops
returns-in-Ok-clause-stops g c =
    IfErr-weaker c.finish_reply.result _ _
    (stops_at_end g.F.StreamedReply.text_left g.F.StreamedReply.remarks_left (g.O.Reopen.whole c.args.again.now)
    (g.R.Source.coming c.in_ok-source.source) c.args.line.now c.in_ok-source.ensures.bytes c.args.reply.now
    c.feed_line-fed.new.reply (g.P.Sink.taken c.args.replies.now) (g.P.Sink.taken c.feed_line-fed.new.replies)
    (g.P.Sink.taken c.finish_reply.new.replies) c.in-Ok.written c.in-Ok.ensures.fed _ _)
    c.finish_reply.ensures.stops

pub returns-in-Err-clause-stops : goal.returns-in-Err-clause-stops
returns-in-Err-clause-stops g c =
    let same : g.O.Reopen.has_failed c.close.new.self ≡ g.R.Source.has_failed c.feed_line-fed.new.source =
    search rules in
    stops_in_pass g.F.StreamedReply.text_left g.F.StreamedReply.remarks_left (g.O.Reopen.whole c.args.again.now)
    (g.R.Source.coming c.in_ok-source.source) c.args.line.now c.in_ok-source.ensures.bytes c.args.reply.now
    (g.P.Sink.taken c.args.replies.now) (g.P.Sink.taken c.feed_line-fed.new.replies)
    (g.R.Source.coming c.feed_line-fed.new.source) _ _ _ c.in-Err.fault same c.in-Err.ensures.stops
