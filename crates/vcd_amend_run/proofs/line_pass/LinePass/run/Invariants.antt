-- What was heard so far was given to the reply, and what was settled of it is written.
use Rattle.std.proofs.Common.{◌≡◌, List, false}
use Rattle.vcd_text.specs.Grammar.{ParseState}
use Rattle.vcd_text.specs.HeardChanges.{HeardChange}
use Rattle.vcd_text.specs.inside.reading.ChangeStream.{HasStreamed, bytes_to_come}
use Rattle.vcd_amend_run.specs.inside.PassSteps.{IsPassAt, changes_so_far}
use Rattle.vcd_amend_run.proofs.line_pass.LinePass.run.Given as goal

abbrev pub invariant-loop-self : goal.invariant-loop-self
invariant-loop-self g l = record {
  source_ready : g.R.Source.has_failed l.source ≡ false;
  replies_ready : g.P.Sink.has_failed l.replies ≡ false;
  state : ParseState;
  heard : List HeardChange;
  streamed : HasStreamed (g.R.Source.coming l.fn.source) (g.R.Source.coming l.source) state heard l.self.stream;
  given : IsPassAt g.F.StreamedReply.text_left g.F.StreamedReply.remarks_left l.line
      (changes_so_far l.line state heard) l.self.maker l.fn.reply l.reply (g.P.Sink.taken l.fn.replies)
      (g.P.Sink.taken l.replies) l.self.text.items l.self.written;
}

abbrev pub decreases-loop-self : goal.decreases-loop-self
decreases-loop-self g l = bytes_to_come l.self.stream
