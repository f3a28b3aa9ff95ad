use Rattle.std.proofs.Common.{refl, arith}
use Rattle.std.proofs.lemmas.Result.{err_from_is_err_and}
use Rattle.vcd_core.specs.declared.capture.TheConstants.{SIGNAL_LIMIT}
use Rattle.vcd_text.specs.declared.reading.TheConstants.{LONG_FILE_LIMIT}
use Rattle.vcd_text.specs.inside.reading.Part.{seen_state}
use Rattle.vcd_text.proofs.shared.Chunks.{at_end, of_all, is_no_file_failure}
use Rattle.vcd_text.proofs.shared.FailedResults.{err_is}
use Rattle.vcd_amend_run.proofs.hollow_reading.HollowSignals.{hollow_is_sound}
use Rattle.vcd_amend_run.proofs.hollow_reading.read_hollow.Goals as goal

pub read_chunks-requires-clause-begins : goal.read_chunks-requires-clause-begins
read_chunks-requires-clause-begins g c = λ m taken. refl

pub returns-in_err-progress-clause-fails : goal.returns-in_err-progress-clause-fails
returns-in_err-progress-clause-fails g c =
    let p = err_from_is_err_and c.from_residual.result c.from_residual.ensures.1 in
    let read = c.in_err-progress.ensures in
    rw (p.1, p.2)
    (record { refused = read.refused; failed_reader = read.failed; other = read.unfailed })

pub finish-requires : goal.finish-requires
finish-requires g c =
    let (bytes, consumes, read) = c.in_ok-progress.ensures.heard in
    (SIGNAL_LIMIT, LONG_FILE_LIMIT, _, bytes, read)

pub returns-in_err-parser-clause-fails : goal.returns-in_err-parser-clause-fails
returns-in_err-parser-clause-fails g c =
    let source = c.read_chunks.new.source in
    let (bytes, consumes, read) = c.in_ok-progress.ensures.heard in
    let fault = c.in_err-parser.ensures.fault SIGNAL_LIMIT LONG_FILE_LIMIT _ bytes read in
    rw (err_is _ c.from_residual-in_err-parser.ensures.1) (record {
      refused = at_end SIGNAL_LIMIT LONG_FILE_LIMIT (g.R.Source.coming c.args.reader.now) (g.R.Source.coming source)
          (g.R.Source.has_failed source) bytes c.in_err-parser.field-0.0 c.in_ok-progress.ensures.not_failed consumes
          (c.in_ok-progress.ensures.ended refl) (omega (arith, read.0.size)) fault;
      failed_reader = λ is. absurd (is_no_file_failure SIGNAL_LIMIT bytes c.in_err-parser.field-0.0 fault is);
      other = λ _. c.in_ok-progress.ensures.not_failed;
    })

pub into_hollow-requires-clause-complete : goal.into_hollow-requires-clause-complete
into_hollow-requires-clause-complete g c =
    let (bytes, consumes, read) = c.in_ok-progress.ensures.heard in
    (c.in_ok-parser.ensures.heard SIGNAL_LIMIT LONG_FILE_LIMIT _ bytes read).complete

pub into_hollow-requires-clause-known : goal.into_hollow-requires-clause-known
into_hollow-requires-clause-known g c =
    let (bytes, consumes, read) = c.in_ok-progress.ensures.heard in
    let all = (c.in_ok-parser.ensures.heard SIGNAL_LIMIT LONG_FILE_LIMIT _ bytes read).taken_words in
    (seen_state c.in_ok-parser.parser.part all.state all.at.0.seen, all.at.0.variables)

pub returns-clause-means : goal.returns-clause-means
returns-clause-means g c =
    let (bytes, consumes, read) = c.in_ok-progress.ensures.heard in
    let all = (c.in_ok-parser.ensures.heard SIGNAL_LIMIT LONG_FILE_LIMIT _ bytes read).taken_words in
    of_all (g.R.Source.coming c.args.reader.now) (g.R.Source.coming c.read_chunks.new.source) bytes _ consumes
    (c.in_ok-progress.ensures.ended refl)
    (omega (arith, read.0.size), c.in_ok-into_hollow.ensures SIGNAL_LIMIT bytes all)

pub returns-clause-sound : goal.returns-clause-sound
returns-clause-sound g c =
    let (bytes, consumes, read) = c.in_ok-progress.ensures.heard in
    let all = (c.in_ok-parser.ensures.heard SIGNAL_LIMIT LONG_FILE_LIMIT _ bytes read).taken_words in
    hollow_is_sound c.args.names.now bytes _ _ (c.in_ok-into_hollow.ensures SIGNAL_LIMIT bytes all)

pub returns-clause-ended : goal.returns-clause-ended
returns-clause-ended g c = c.in_ok-progress.ensures.ended refl
