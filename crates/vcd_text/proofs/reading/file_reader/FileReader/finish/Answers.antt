use Rattle.std.proofs.Common.{◌≡◌, ◌++◌, inr, sym, ap, subst, ◌∙◌, arith}
use Rattle.vcd_text.specs.declared.fault.ReadError.{ReadError}
use Rattle.vcd_text.specs.Words.{complete_words}
use Rattle.vcd_text.specs.FoundFaults.{too_early}
use Rattle.vcd_text.proofs.shared.Chunks.{last_taken, last_refused}
use Rattle.vcd_text.proofs.shared.NoWordLeft.{stops}
use Rattle.vcd_text.proofs.shared.WordsByBytes.{complete_are_few, after_are_few}
use Rattle.vcd_text.proofs.reading.file_reader.FileReader.finish.Goals as goal
use Rattle.vcd_text.proofs.shared.FailedResults.{err_is}

pub take_words-requires : goal.take_words-requires
take_words-requires g c =
    let (limit, most, start, bytes, (taken, heard)) = c.requires in (
      limit,
      start,
      heard.before,
      heard.heard,
      heard.ends,
      (complete_words bytes, taken.taken_words, grind (arith, after_are_few, complete_are_few)),
    )

pub returns-in_err-take_words-clause-fault : goal.returns-in_err-take_words-clause-fault
returns-in_err-take_words-clause-fault g c = rw (err_is _ c.from_residual.ensures.1) (λ limit most start bytes read.
    let (taken, heard) = read in
    last_refused _ _ _ c.args.self _ _ _ taken c.as_slice.ensures (c.in_err-take_words.ensures.words limit start
    heard.before (complete_words bytes) heard.heard taken.taken_words))

pub returns-in_err-check_complete-clause-fault : goal.returns-in_err-check_complete-clause-fault
returns-in_err-check_complete-clause-fault g c =
    let m = c.take_words.new.parser in
    let (open_still, truncated) = c.in_err-check_complete.ensures.truncated in
    rw (err_is _ c.from_residual-in_err-check_complete.ensures.1) (λ limit most start bytes read.
    let (taken, heard) = read in
    let reads = last_taken _ _ _ c.args.self m _ _ taken c.as_slice.ensures (c.in_ok-take_words.ensures.words limit
    start heard.before (complete_words bytes) heard.heard taken.taken_words) in
    inr (too_early (stops limit (g.L.Listener.asked start) m _ reads open_still) (ap (λ (e : ReadError). e.line)
    truncated ∙ sym taken.lines) (ap (λ (e : ReadError). e.fault) truncated)))

pub returns-clause-heard : goal.returns-clause-heard
returns-clause-heard g c = λ limit most start bytes read.
    let (taken, heard) = read in
    let all : heard.before ++ c.as_slice.result.now ≡ bytes = ap (λ l. heard.before ++ l) c.as_slice.ensures
    ∙ sym heard.all in
    record {
      taken_words = last_taken _ _ _ c.args.self _ _ _ taken c.as_slice.ensures (c.in_ok-take_words.ensures.words limit
          start heard.before (complete_words bytes) heard.heard taken.taken_words);
      complete = c.in_ok-check_complete.ensures.complete;
      heard = subst (g.L.Listener.has_heard limit start c.take_words.new.self c.take_words.new.parser) all
          (c.in_ok-take_words.ensures.heard limit start heard.before heard.heard heard.ends);
    }
