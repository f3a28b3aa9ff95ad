use Rattle.std.proofs.Common.{◌++◌, ◌∙◌, ap, refl, arith}
use Rattle.std.proofs.KnownBytes.{Consumes-trans}
use Rattle.std.proofs.lemmas.List.{length-append}
use Rattle.vcd_text.proofs.shared.Chunks.{has_come, still_heard, refused_early, is_no_failure, full, broken}
use Rattle.vcd_text.proofs.reading.file_reader.FileReader.take_chunk.Goals as goal
use Rattle.vcd_text.proofs.shared.FailedResults.{err_is}

pub returns-in_default-clause-refused : goal.returns-in_default-clause-refused
returns-in_default-clause-refused g c = λ limit most start coming stands.
    let p = c.args.self.now in
    let source = c.read_from.new.source in
    let (bytes, came, (taken, heard)) = stands in
    broken limit most _ coming (g.R.Source.coming c.args.source.now) (g.R.Source.coming source)
    (g.R.Source.has_failed source) p bytes c.at.result c.in_default.ensures.failed came c.in_default.ensures.coming
    taken c.at.ensures

pub returns-then-count-self-clause-refused : goal.returns-then-count-self-clause-refused
returns-then-count-self-clause-refused g c = λ limit most start coming stands.
    let p = c.args.self.now in
    let source = c.read_from.new.source in
    let (bytes, came, (taken, heard)) = stands in
    let (chunk, second, text, count) = c.in-Ok.ensures.more in
    full limit most _ coming (g.R.Source.coming c.args.source.now) (g.R.Source.coming source)
    (g.R.Source.has_failed source) p bytes chunk c.at-then-count-self.result c.in-Ok.ensures.not_failed came second
    (omega (arith, count, c.if-count-self.true)) (c.in-Ok.ensures.within c.if-count-self.true) taken
    c.at-then-count-self.ensures

pub take_words-requires : goal.take_words-requires
take_words-requires g c =
    let p = c.args.self.now in
    let (limit, most, start, coming, (bytes, came, (taken, heard))) = c.requires.matches in
    let (chunk, consumes, text, count) = c.in-Ok.ensures.more in (
      limit,
      most,
      start,
      bytes ++ chunk,
      has_come _ _ _ p c.read_from.new.self _ _ _ _ _ taken text c.in_ok-make_room.ensures.same count
          (omega (arith, c.if-count-self.false)) c.len-unfinished_len.ensures,
      still_heard p _ bytes chunk heard (text ∙ ap (λ l. l ++ chunk) c.in_ok-make_room.ensures.same) refl refl,
    )

pub returns-in_err-take_words-clause-refused : goal.returns-in_err-take_words-clause-refused
returns-in_err-take_words-clause-refused g c =
    let p = c.args.self.now in
    let (chunk, second, text, count) = c.in-Ok.ensures.more in
    let source = c.read_from.new.source in
    rw (err_is _ c.from_residual-in_err-take_words.ensures.1) (λ limit most start coming stands.
    let (bytes, came, (taken, heard)) = stands in
    let come = has_come _ _ _ p c.read_from.new.self _ _ _ _ _ taken text c.in_ok-make_room.ensures.same count
    (omega (arith, c.if-count-self.false)) c.len-unfinished_len.ensures in
    refused_early limit most coming
    (g.R.Source.coming source)
    (g.R.Source.has_failed source) (bytes ++ chunk)
    c.in_err-take_words.field-0.0 c.in-Ok.ensures.not_failed
    (Consumes-trans coming (g.R.Source.coming c.args.source.now) (g.R.Source.coming source) bytes chunk came second)
    (omega (arith, length-append bytes chunk, count, c.if-count-self.false, taken.size))
    (c.in_err-take_words.ensures.taken limit most start (bytes ++ chunk) come
    (still_heard p _ bytes chunk heard (text ∙ ap (λ l. l ++ chunk) c.in_ok-make_room.ensures.same) refl refl)))

pub returns-in_err-take_words-clause-failed : goal.returns-in_err-take_words-clause-failed
returns-in_err-take_words-clause-failed g c =
    let p = c.args.self.now in
    let (limit, most, start, coming, (bytes, came, (taken, heard))) = c.requires.matches in
    let (chunk, second, text, count) = c.in-Ok.ensures.more in
    let come = has_come _ _ _ p c.read_from.new.self _ _ _ _ _ taken text c.in_ok-make_room.ensures.same count
    (omega (arith, c.if-count-self.false)) c.len-unfinished_len.ensures in
    rw (err_is _ c.from_residual-in_err-take_words.ensures.1) (λ is. absurd (is_no_failure limit _
    c.in_err-take_words.field-0.0 (c.in_err-take_words.ensures.taken limit most start (bytes ++ chunk) come
    (still_heard p _ bytes chunk heard (text ∙ ap (λ l. l ++ chunk) c.in_ok-make_room.ensures.same) refl refl)) is))

pub returns-clause-taken : goal.returns-clause-taken
returns-clause-taken g c = λ limit most start coming bytes came (taken, heard).
    let p = c.args.self.now in
    let (chunk, second, text, count) = c.in-Ok.ensures.more in
    let come = has_come _ _ _ p c.read_from.new.self _ _ _ _ _ taken text c.in_ok-make_room.ensures.same count
    (omega (arith, c.if-count-self.false)) c.len-unfinished_len.ensures in (
      chunk,
      Consumes-trans coming (g.R.Source.coming c.args.source.now) (g.R.Source.coming c.read_from.new.source) bytes chunk
          came second,
      c.in_ok-take_words.ensures.taken limit most start (bytes ++ chunk) come
          (still_heard p _ bytes chunk heard (text ∙ ap (λ l. l ++ chunk) c.in_ok-make_room.ensures.same) refl refl),
    )
