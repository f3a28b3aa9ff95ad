use Rattle.std.proofs.Common.{refl, arith}
use Rattle.vcd_core.specs.declared.capture.TheConstants.{SIGNAL_LIMIT}
use Rattle.vcd_text.specs.inside.reading.Part.{seen_state}
use Rattle.vcd_text.proofs.part.WholeParts.{loaded_is_sound}
use Rattle.vcd_text.proofs.shared.Chunks.{at_end, of_all, is_no_file_failure}
use Rattle.vcd_text.proofs.reading.read_within.Goals as goal
use Rattle.vcd_text.proofs.shared.FailedResults.{err_is}

pub read_chunks-requires-clause-begins : goal.read_chunks-requires-clause-begins
read_chunks-requires-clause-begins g c = λ m taken. refl

pub finish-requires : goal.finish-requires
finish-requires g c =
    let (bytes, consumes, read) = c.in_ok-progress.ensures.heard in
    (SIGNAL_LIMIT, c.args.most, _, bytes, read)

pub returns-in_err-parser-clause-refused : goal.returns-in_err-parser-clause-refused
returns-in_err-parser-clause-refused g c =
    let source = c.read_chunks.new.source in
    let (bytes, consumes, read) = c.in_ok-progress.ensures.heard in
    rw (err_is _ c.from_residual-in_err-parser.ensures.1) (at_end SIGNAL_LIMIT c.args.most
    (g.R.Source.coming c.args.reader.now) (g.R.Source.coming source) (g.R.Source.has_failed source) bytes
    c.in_err-parser.field-0.0 c.in_ok-progress.ensures.not_failed consumes (c.in_ok-progress.ensures.ended refl)
    (omega (arith, read.0.size)) (c.in_err-parser.ensures.fault SIGNAL_LIMIT c.args.most _ bytes read))

pub returns-in_err-parser-clause-failed : goal.returns-in_err-parser-clause-failed
returns-in_err-parser-clause-failed g c =
    let (bytes, consumes, read) = c.in_ok-progress.ensures.heard in
    rw (err_is _ c.from_residual-in_err-parser.ensures.1) (λ is. absurd (is_no_file_failure SIGNAL_LIMIT bytes
    c.in_err-parser.field-0.0 (c.in_err-parser.ensures.fault SIGNAL_LIMIT c.args.most _ bytes read) is))

pub into_loaded-requires-clause-complete : goal.into_loaded-requires-clause-complete
into_loaded-requires-clause-complete g c =
    let (bytes, consumes, read) = c.in_ok-progress.ensures.heard in
    (c.in_ok-parser.ensures.heard SIGNAL_LIMIT c.args.most _ bytes read).complete

pub into_loaded-requires-clause-known : goal.into_loaded-requires-clause-known
into_loaded-requires-clause-known g c =
    let (bytes, consumes, read) = c.in_ok-progress.ensures.heard in
    let all = (c.in_ok-parser.ensures.heard SIGNAL_LIMIT c.args.most _ bytes read).taken_words in
    (seen_state c.in_ok-parser.parser.part all.state all.at.0.seen, all.at.0.variables)

pub returns-clause-means : goal.returns-clause-means
returns-clause-means g c =
    let (bytes, consumes, read) = c.in_ok-progress.ensures.heard in
    let all = (c.in_ok-parser.ensures.heard SIGNAL_LIMIT c.args.most _ bytes read).taken_words in
    of_all (g.R.Source.coming c.args.reader.now) (g.R.Source.coming c.read_chunks.new.source) bytes _ consumes
    (c.in_ok-progress.ensures.ended refl)
    (omega (arith, read.0.size), c.in_ok-into_loaded.ensures.means SIGNAL_LIMIT _ bytes all)

pub returns-clause-sound : goal.returns-clause-sound
returns-clause-sound g c =
    let (bytes, consumes, read) = c.in_ok-progress.ensures.heard in
    let all = (c.in_ok-parser.ensures.heard SIGNAL_LIMIT c.args.most _ bytes read).taken_words in
    loaded_is_sound (g.C.Choice.takes c.args.choice.now) (g.C.Choice.ticks c.args.choice.now) bytes _
    (c.in_ok-into_loaded.ensures.means SIGNAL_LIMIT _ bytes all)

pub returns-clause-ended : goal.returns-clause-ended
returns-clause-ended g c = c.in_ok-progress.ensures.ended refl
