use Rattle.std.proofs.Common.{◌++◌, refl, arith}
use Rattle.vcd_core.specs.declared.capture.TheConstants.{SIGNAL_LIMIT}
use Rattle.vcd_text.specs.declared.reading.TheConstants.{LONG_FILE_LIMIT}
use Rattle.vcd_text.proofs.reading.change_stream.StreamedFile.{start_of, listens_again, streams_on, streams_to_end}
use Rattle.vcd_text.proofs.shared.Chunks.{at_end, is_no_file_failure}
use Rattle.vcd_text.proofs.shared.FailedResults.{err_is}
use Rattle.vcd_text.proofs.reading.change_stream.ChangeStream.read_more.Goals as goal

pub take_chunk-requires-clause-matches : goal.take_chunk-requires-clause-matches
take_chunk-requires-clause-matches g c =
    let (coming, state, heard, h) = c.requires.streamed in
    let s = c.args.self.now in (
      SIGNAL_LIMIT,
      LONG_FILE_LIMIT,
      start_of s heard,
      coming,
      (
        h.bytes,
        h.consumed,
        (
          h.reads,
          record {
            before = h.before;
            all = h.all;
            ends = h.ends;
            heard = listens_again coming (g.R.Source.coming c.args.source.now) state heard c.clear.new.self s h
                c.clear.ensures;
          },
        ),
      ),
    )

pub returns-in_err-take_chunk-clause-refused : goal.returns-in_err-take_chunk-clause-refused
returns-in_err-take_chunk-clause-refused g c = rw (err_is _ c.from_residual.ensures.1) (λ coming state heard h.
    let s = c.args.self.now in
    c.in_err-take_chunk.ensures.refused SIGNAL_LIMIT LONG_FILE_LIMIT (start_of s heard) coming (
      h.bytes,
      h.consumed,
      (
        h.reads,
        record {
          before = h.before;
          all = h.all;
          ends = h.ends;
          heard = listens_again coming (g.R.Source.coming c.args.source.now) state heard c.clear.new.self s h
              c.clear.ensures;
        },
      ),
    ))

pub returns-then-branch-clause-streamed : goal.returns-then-branch-clause-streamed
returns-then-branch-clause-streamed g c coming state heard h =
    let s = c.args.self.now in
    let (chunk, consumed, read) = c.in_ok-take_chunk.ensures.taken SIGNAL_LIMIT LONG_FILE_LIMIT (start_of s heard)
    coming h.bytes h.consumed (
      h.reads,
      record {
        before = h.before;
        all = h.all;
        ends = h.ends;
        heard = listens_again coming (g.R.Source.coming c.args.source.now) state heard c.clear.new.self s h
            c.clear.ensures;
      },
    ) in
    let hears = read.1 in
    streams_on coming (g.R.Source.coming c.args.source.now) (g.R.Source.coming c.take_chunk.new.source) state heard s _
    chunk h (start_of s heard) refl consumed read.0 hears.before hears.all hears.ends hears.heard

pub finish-requires : goal.finish-requires
finish-requires g c =
    let (coming, state, heard, h) = c.requires.streamed in
    let s = c.args.self.now in
    let (chunk, consumed, read) = c.in_ok-take_chunk.ensures.taken SIGNAL_LIMIT LONG_FILE_LIMIT (start_of s heard)
    coming h.bytes h.consumed (
      h.reads,
      record {
        before = h.before;
        all = h.all;
        ends = h.ends;
        heard = listens_again coming (g.R.Source.coming c.args.source.now) state heard c.clear.new.self s h
            c.clear.ensures;
      },
    ) in
    (SIGNAL_LIMIT, LONG_FILE_LIMIT, start_of s heard, h.bytes ++ chunk, rw c.replace-reader.ensures.value read)

pub returns-in_err-self-clause-refused : goal.returns-in_err-self-clause-refused
returns-in_err-self-clause-refused g c = rw (err_is _ c.from_residual-in_err-self.ensures.1) (λ coming state heard h.
    let s = c.args.self.now in
    let (chunk, consumed, read) = c.in_ok-take_chunk.ensures.taken SIGNAL_LIMIT LONG_FILE_LIMIT (start_of s heard)
    coming h.bytes h.consumed (
      h.reads,
      record {
        before = h.before;
        all = h.all;
        ends = h.ends;
        heard = listens_again coming (g.R.Source.coming c.args.source.now) state heard c.clear.new.self s h
            c.clear.ensures;
      },
    ) in
    at_end SIGNAL_LIMIT LONG_FILE_LIMIT coming (g.R.Source.coming c.take_chunk.new.source)
    (g.R.Source.has_failed c.take_chunk.new.source) (h.bytes ++ chunk) c.in_err-self.field-0.0
    c.in_ok-take_chunk.ensures.not_failed consumed (c.in_ok-take_chunk.ensures.ended c.if-branch.false)
    (let size = read.0.size in omega (arith, size)) (c.in_err-self.ensures.fault SIGNAL_LIMIT LONG_FILE_LIMIT
    (start_of s heard) (h.bytes ++ chunk) (rw c.replace-reader.ensures.value read)))

pub returns-in_err-self-clause-failed : goal.returns-in_err-self-clause-failed
returns-in_err-self-clause-failed g c =
    let (coming, state, heard, h) = c.requires.streamed in
    let s = c.args.self.now in
    let (chunk, consumed, read) = c.in_ok-take_chunk.ensures.taken SIGNAL_LIMIT LONG_FILE_LIMIT (start_of s heard)
    coming h.bytes h.consumed (
      h.reads,
      record {
        before = h.before;
        all = h.all;
        ends = h.ends;
        heard = listens_again coming (g.R.Source.coming c.args.source.now) state heard c.clear.new.self s h
            c.clear.ensures;
      },
    ) in
    rw (err_is _ c.from_residual-in_err-self.ensures.1) (λ is. absurd (is_no_file_failure SIGNAL_LIMIT
    (h.bytes ++ chunk) c.in_err-self.field-0.0 (c.in_err-self.ensures.fault SIGNAL_LIMIT LONG_FILE_LIMIT
    (start_of s heard) (h.bytes ++ chunk) (rw c.replace-reader.ensures.value read)) is))

pub returns-clause-streamed : goal.returns-clause-streamed
returns-clause-streamed g c coming state heard h =
    let s = c.args.self.now in
    let (chunk, consumed, read) = c.in_ok-take_chunk.ensures.taken SIGNAL_LIMIT LONG_FILE_LIMIT (start_of s heard)
    coming h.bytes h.consumed (
      h.reads,
      record {
        before = h.before;
        all = h.all;
        ends = h.ends;
        heard = listens_again coming (g.R.Source.coming c.args.source.now) state heard c.clear.new.self s h
            c.clear.ensures;
      },
    ) in
    let whole = c.in_ok-self.ensures.heard SIGNAL_LIMIT LONG_FILE_LIMIT (start_of s heard) (h.bytes ++ chunk)
    (rw c.replace-reader.ensures.value read) in
    streams_to_end coming (g.R.Source.coming c.args.source.now) (g.R.Source.coming c.take_chunk.new.source) state heard
    s _ chunk h (start_of s heard) refl consumed (c.in_ok-take_chunk.ensures.ended c.if-branch.false)
    (let size = read.0.size in omega (arith, size)) whole.complete whole.heard
