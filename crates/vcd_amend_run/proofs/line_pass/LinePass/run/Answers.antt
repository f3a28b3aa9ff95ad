use Rattle.std.proofs.Common.{[], ◌++◌, ◌∙◌, subst, sym}
use Rattle.vcd_copy.specs.CopyEnds.{ReadFails}
use Rattle.vcd_core.specs.declared.capture.TheConstants.{SIGNAL_LIMIT}
use Rattle.vcd_text.specs.Grammar.{initial_state}
use Rattle.vcd_text.specs.declared.reading.TheConstants.{LONG_FILE_LIMIT}
use Rattle.vcd_text.specs.inside.reading.ChangeStream.{heard_by}
use Rattle.vcd_amend_run.specs.inside.PassSteps.{IsChunkFault}
use Rattle.vcd_amend_run.proofs.line_pass.PassEnds.{pass_begins, chunk_taken, text_sent, pass_over, line_fed}
use Rattle.vcd_amend_run.proofs.line_pass.PassEnds.{text_begins, text_ends, text_whole, chunk_fails, text_fails}
use Rattle.vcd_amend_run.proofs.line_pass.LinePass.run.Goals as goal

pub loop-self-init : goal.loop-self-init
loop-self-init g c =
    let begins = c.requires.begins in
    record {
      source_ready = c.requires.source_ready;
      replies_ready = c.requires.replies_ready;
      state = initial_state SIGNAL_LIMIT;
      heard = [];
      streamed = begins.streamed;
      given = pass_begins g.F.StreamedReply.text_left g.F.StreamedReply.remarks_left c.args.line.now c.args.reply.now
          (g.P.Sink.taken c.args.replies.now) c.args.self.now.maker c.args.self.now.text.items c.args.self.now.written
          begins.makes begins.none_waits begins.none_written;
    }

pub returns-in_err-hear_chunk-clause-stops : goal.returns-in_err-hear_chunk-clause-stops
returns-in_err-hear_chunk-clause-stops g c =
    let text_left = g.F.StreamedReply.text_left in
    let remarks_left = g.F.StreamedReply.remarks_left in
    let coming = g.R.Source.coming c.args.source.now in
    let inv = c.loop-self.invariant in
    let now = c.loop-self.self in
    let old = g.P.Sink.taken c.args.replies.now in
    let new = g.P.Sink.taken c.loop-self.replies in
    let reads = ReadFails SIGNAL_LIMIT LONG_FILE_LIMIT coming (g.R.Source.coming c.hear_chunk.new.source)
    (g.R.Source.has_failed c.hear_chunk.new.source) in
    chunk_fails text_left remarks_left c.args.line.now c.args.reply.now old coming new inv.given.sent now.text.items
    reads (g.P.Sink.has_failed c.loop-self.replies)
    c.in_err-hear_chunk.field-0.0 (c.in_err-hear_chunk.ensures.fault coming inv.state inv.heard inv.streamed)
    inv.replies_ready inv.given.taken
    (text_begins text_left remarks_left c.args.line.now c.args.reply.now old coming _ inv.state inv.heard now.stream
    now.maker c.loop-self.reply new now.text.items now.written inv.streamed inv.given)
    c.from_residual.result c.from_residual.ensures.1

pub loop-self-preserved : goal.loop-self-preserved
loop-self-preserved g c =
    let text_left = g.F.StreamedReply.text_left in
    let remarks_left = g.F.StreamedReply.remarks_left in
    let coming = g.R.Source.coming c.args.source.now in
    let line = c.args.line.now in
    let inv = c.loop-self.invariant in
    let was = c.loop-self.self in
    let now = c.hear_chunk.new.self in
    let old = g.P.Sink.taken c.args.replies.now in
    let new = g.P.Sink.taken c.loop-self.replies in
    let on = c.in_ok-hear_chunk.ensures.streamed coming inv.state inv.heard inv.streamed in
    let at = chunk_taken text_left remarks_left line c.args.reply.now old coming _ _ inv.state inv.heard was.stream
    now.stream _ was.maker now.maker c.loop-self.reply c.hear_chunk.new.reply new was.text.items now.text.items
    was.written now.written inv.streamed on inv.given (c.in_ok-hear_chunk.ensures.given on.later on.at)
    c.hear_chunk.ensures.written in
    record {
      source_ready = c.in_ok-hear_chunk.ensures.not_failed;
      replies_ready = c.in_ok-send_text.ensures.not_failed;
      state = on.later;
      heard = inv.heard ++ heard_by now.stream;
      streamed = on.goes_on c.if-branch.true;
      given = text_sent text_left remarks_left line c.args.reply.now old _ now.maker c.hear_chunk.new.reply new
          (g.P.Sink.taken c.send_text.new.replies) now.text.items c.send_text.new.text.items now.written
          c.send_text.new.written at c.in_ok-send_text.ensures.sent;
    }

pub returns-in_err-send_text-clause-stops : goal.returns-in_err-send_text-clause-stops
returns-in_err-send_text-clause-stops g c =
    let text_left = g.F.StreamedReply.text_left in
    let remarks_left = g.F.StreamedReply.remarks_left in
    let coming = g.R.Source.coming c.args.source.now in
    let line = c.args.line.now in
    let inv = c.loop-self.invariant in
    let was = c.loop-self.self in
    let now = c.hear_chunk.new.self in
    let old = g.P.Sink.taken c.args.replies.now in
    let new = g.P.Sink.taken c.loop-self.replies in
    let on = c.in_ok-hear_chunk.ensures.streamed coming inv.state inv.heard inv.streamed in
    let at = chunk_taken text_left remarks_left line c.args.reply.now old coming _ _ inv.state inv.heard was.stream
    now.stream _ was.maker now.maker c.loop-self.reply c.hear_chunk.new.reply new was.text.items now.text.items
    was.written now.written inv.streamed on inv.given (c.in_ok-hear_chunk.ensures.given on.later on.at)
    c.hear_chunk.ensures.written in
    let reads = ReadFails SIGNAL_LIMIT LONG_FILE_LIMIT coming (g.R.Source.coming c.hear_chunk.new.source)
    (g.R.Source.has_failed c.hear_chunk.new.source) in
    text_fails text_left remarks_left line c.args.reply.now old coming new (g.P.Sink.taken c.send_text.new.replies)
    at.sent now.text.items now.written _ _ c.in_err-send_text.field-0.0 c.in_err-send_text.ensures.stops
    c.in_err-send_text.ensures.failed at.taken at.count
    (text_begins text_left remarks_left line c.args.reply.now old coming _ on.later (inv.heard ++ heard_by now.stream)
    now.stream now.maker c.hear_chunk.new.reply new now.text.items now.written (on.goes_on c.if-branch.true) at)
    c.from_residual-in_err-send_text.result c.from_residual-in_err-send_text.ensures.1

pub returns-in_err-take_end-clause-stops : goal.returns-in_err-take_end-clause-stops
returns-in_err-take_end-clause-stops g c =
    let text_left = g.F.StreamedReply.text_left in
    let remarks_left = g.F.StreamedReply.remarks_left in
    let coming = g.R.Source.coming c.args.source.now in
    let line = c.args.line.now in
    let inv = c.loop-self.invariant in
    let was = c.loop-self.self in
    let now = c.hear_chunk.new.self in
    let old = g.P.Sink.taken c.args.replies.now in
    let new = g.P.Sink.taken c.loop-self.replies in
    let on = c.in_ok-hear_chunk.ensures.streamed coming inv.state inv.heard inv.streamed in
    let at = chunk_taken text_left remarks_left line c.args.reply.now old coming _ _ inv.state inv.heard was.stream
    now.stream _ was.maker now.maker c.loop-self.reply c.hear_chunk.new.reply new was.text.items now.text.items
    was.written now.written inv.streamed on inv.given (c.in_ok-hear_chunk.ensures.given on.later on.at)
    c.hear_chunk.ensures.written in
    let reads = ReadFails SIGNAL_LIMIT LONG_FILE_LIMIT coming (g.R.Source.coming c.hear_chunk.new.source)
    (g.R.Source.has_failed c.hear_chunk.new.source) in
    chunk_fails text_left remarks_left line c.args.reply.now old coming new at.sent now.text.items
    reads (g.P.Sink.has_failed c.loop-self.replies)
    c.in_err-take_end.field-0.0 (subst (IsChunkFault reads) (sym c.in_err-take_end.ensures.fault) tt)
    inv.replies_ready at.taken
    (text_ends text_left remarks_left line c.args.reply.now old coming on.later (inv.heard ++ heard_by now.stream)
    now.maker c.hear_chunk.new.reply new now.text.items now.written (on.ended c.if-branch.false) at)
    c.from_residual-in_err-take_end.result c.from_residual-in_err-take_end.ensures.1

pub returns-in_err-send_text-2-clause-stops : goal.returns-in_err-send_text-2-clause-stops
returns-in_err-send_text-2-clause-stops g c =
    let text_left = g.F.StreamedReply.text_left in
    let remarks_left = g.F.StreamedReply.remarks_left in
    let coming = g.R.Source.coming c.args.source.now in
    let line = c.args.line.now in
    let inv = c.loop-self.invariant in
    let was = c.loop-self.self in
    let now = c.hear_chunk.new.self in
    let end = c.take_end.new.self in
    let old = g.P.Sink.taken c.args.replies.now in
    let new = g.P.Sink.taken c.loop-self.replies in
    let on = c.in_ok-hear_chunk.ensures.streamed coming inv.state inv.heard inv.streamed in
    let at = chunk_taken text_left remarks_left line c.args.reply.now old coming _ _ inv.state inv.heard was.stream
    now.stream _ was.maker now.maker c.loop-self.reply c.hear_chunk.new.reply new was.text.items now.text.items
    was.written end.written inv.streamed on inv.given (c.in_ok-hear_chunk.ensures.given on.later on.at)
    (c.take_end.ensures.written ∙ c.hear_chunk.ensures.written) in
    let over = pass_over text_left remarks_left line c.args.reply.now old coming on.later
    (inv.heard ++ heard_by now.stream) now.maker c.hear_chunk.new.reply c.take_end.new.reply new now.text.items
    end.text.items end.written (on.ended c.if-branch.false) at c.in_ok-take_end.ensures.text
    c.in_ok-take_end.ensures.remarks in
    let reads = ReadFails SIGNAL_LIMIT LONG_FILE_LIMIT coming (g.R.Source.coming c.hear_chunk.new.source)
    (g.R.Source.has_failed c.hear_chunk.new.source) in
    text_fails text_left remarks_left line c.args.reply.now old coming new (g.P.Sink.taken c.send_text-2.new.replies)
    over.sent end.text.items end.written _ _ c.in_err-send_text-2.field-0.0 c.in_err-send_text-2.ensures.stops
    c.in_err-send_text-2.ensures.failed over.taken over.count
    (text_whole text_left remarks_left line c.args.reply.now old coming c.take_end.new.reply new end.text.items
    end.written over)
    c.from_residual-in_err-send_text-2.result c.from_residual-in_err-send_text-2.ensures.1

pub returns-clause-fed : goal.returns-clause-fed
returns-clause-fed g c =
    let text_left = g.F.StreamedReply.text_left in
    let remarks_left = g.F.StreamedReply.remarks_left in
    let coming = g.R.Source.coming c.args.source.now in
    let line = c.args.line.now in
    let inv = c.loop-self.invariant in
    let was = c.loop-self.self in
    let now = c.hear_chunk.new.self in
    let end = c.take_end.new.self in
    let old = g.P.Sink.taken c.args.replies.now in
    let new = g.P.Sink.taken c.loop-self.replies in
    let on = c.in_ok-hear_chunk.ensures.streamed coming inv.state inv.heard inv.streamed in
    let at = chunk_taken text_left remarks_left line c.args.reply.now old coming _ _ inv.state inv.heard was.stream
    now.stream _ was.maker now.maker c.loop-self.reply c.hear_chunk.new.reply new was.text.items now.text.items
    was.written end.written inv.streamed on inv.given (c.in_ok-hear_chunk.ensures.given on.later on.at)
    (c.take_end.ensures.written ∙ c.hear_chunk.ensures.written) in
    let over = pass_over text_left remarks_left line c.args.reply.now old coming on.later
    (inv.heard ++ heard_by now.stream) now.maker c.hear_chunk.new.reply c.take_end.new.reply new now.text.items
    end.text.items end.written (on.ended c.if-branch.false) at c.in_ok-take_end.ensures.text
    c.in_ok-take_end.ensures.remarks in
    line_fed text_left remarks_left line c.args.reply.now old coming c.take_end.new.reply new
    (g.P.Sink.taken c.send_text-2.new.replies) end.text.items c.send_text-2.new.text.items end.written
    c.send_text-2.new.written over c.in_ok-send_text-2.ensures.sent
