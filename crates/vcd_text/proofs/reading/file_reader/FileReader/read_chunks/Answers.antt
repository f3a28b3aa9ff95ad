use Rattle.std.proofs.Common.{◌++◌}
use Rattle.vcd_text.proofs.shared.Chunks.{nothing_heard}
use Rattle.vcd_text.proofs.reading.file_reader.FileReader.read_chunks.Goals as goal
use Rattle.vcd_text.proofs.shared.FailedResults.{err_is}

pub loop-progress-init : goal.loop-progress-init
loop-progress-init g c =
    let taken = c.new-progress.ensures (g.L.Listener.asked c.args.listener.now) in (
      nothing_heard (g.R.Source.coming c.args.source.now) _ taken (c.requires.begins _ taken.taken_words),
      c.requires.ready,
      λ goes. goes,
    )

pub take_chunk-requires-clause-matches : goal.take_chunk-requires-clause-matches
take_chunk-requires-clause-matches g c = (
  c.args.limit,
  c.args.most,
  c.args.listener.now,
  g.R.Source.coming c.args.source.now,
  c.loop-progress.invariant.0,
)

pub loop-progress-preserved : goal.loop-progress-preserved
loop-progress-preserved g c =
    let (bytes, came, heard) = c.loop-progress.invariant.0 in
    let (chunk, consumed, more) = c.in_ok-take_chunk.ensures.taken c.args.limit c.args.most c.args.listener.now
    (g.R.Source.coming c.args.source.now) bytes came heard in (
      (bytes ++ chunk, consumed, more),
      c.in_ok-take_chunk.ensures.not_failed,
      λ goes. c.take_chunk.ensures.goes_on c.args.listener.now (c.loop-progress.invariant.2 goes),
    )

pub returns-in_err-take_chunk-clause-refused : goal.returns-in_err-take_chunk-clause-refused
returns-in_err-take_chunk-clause-refused g c = rw (err_is _ c.from_residual.ensures.1)
    (c.in_err-take_chunk.ensures.refused c.args.limit c.args.most c.args.listener.now
    (g.R.Source.coming c.args.source.now) c.loop-progress.invariant.0)

pub returns-in_err-take_chunk-clause-goes_on : goal.returns-in_err-take_chunk-clause-goes_on
returns-in_err-take_chunk-clause-goes_on g c = λ goes.
    c.take_chunk.ensures.goes_on c.args.listener.now (c.loop-progress.invariant.2 goes)

pub returns-then-is_done-clause-heard : goal.returns-then-is_done-clause-heard
returns-then-is_done-clause-heard g c =
    let (bytes, came, heard) = c.loop-progress.invariant.0 in
    let (chunk, consumed, more) = c.in_ok-take_chunk.ensures.taken c.args.limit c.args.most c.args.listener.now
    (g.R.Source.coming c.args.source.now) bytes came heard in
    (bytes ++ chunk, consumed, more)

pub returns-then-is_done-clause-goes_on : goal.returns-then-is_done-clause-goes_on
returns-then-is_done-clause-goes_on g c = λ goes.
    c.take_chunk.ensures.goes_on c.args.listener.now (c.loop-progress.invariant.2 goes)

pub returns-clause-heard : goal.returns-clause-heard
returns-clause-heard g c =
    let (bytes, came, heard) = c.loop-progress.invariant.0 in
    let (chunk, consumed, more) = c.in_ok-take_chunk.ensures.taken c.args.limit c.args.most c.args.listener.now
    (g.R.Source.coming c.args.source.now) bytes came heard in
    (bytes ++ chunk, consumed, more)

pub returns-clause-goes_on : goal.returns-clause-goes_on
returns-clause-goes_on g c = λ goes.
    c.take_chunk.ensures.goes_on c.args.listener.now (c.loop-progress.invariant.2 goes)
