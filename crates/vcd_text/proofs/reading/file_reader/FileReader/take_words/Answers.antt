use Rattle.std.proofs.Common.{not, take, drop, sym, ap, ◌∙◌, arith}
use Rattle.std.specs.List.{list_all}
use Rattle.std.proofs.lemmas.List.{length-take, length-append}
use Rattle.vcd_core.specs.Word.{is_white_space}
use Rattle.vcd_text.specs.Words.{complete_words}
use Rattle.vcd_text.specs.inside.Words.{has_complete_words}
use Rattle.vcd_text.proofs.shared.Chunks.{now_taken, now_refused, word_is_first, chunk_heard}
use Rattle.vcd_text.proofs.shared.WordsByBytes.{complete_are_few, after_are_few}
use Rattle.vcd_text.proofs.reading.file_reader.FileReader.take_words.Goals as goal
use Rattle.vcd_text.proofs.shared.FailedResults.{err_is}

pub take_words-requires : goal.take_words-requires
take_words-requires g c =
    let (limit, most, start, bytes, come, heard) = c.requires in (
      limit,
      start,
      heard.before,
      heard.heard,
      heard.ends,
      (
        complete_words come.before,
        come.taken.taken_words,
        grind (arith, word_is_first limit most, length-append, length-take, after_are_few, complete_are_few),
      ),
    )

pub returns-in_err-self-clause-taken : goal.returns-in_err-self-clause-taken
returns-in_err-self-clause-taken g c = λ limit most start bytes come heard.
    let len = c.complete_words_len-len.result in
    let value = c.as_slice.ensures in
    let prefix = c.as_slice-2.ensures in
    rw (err_is _ c.from_residual.ensures.1) (now_refused _ _ _ _ _ len _ _ come (ap (λ l. has_complete_words (take len
    l)) (sym value) ∙ c.complete_words_len-len.ensures.complete) (ap (λ l. list_all (λ b. not (is_white_space b)) (drop
    len l)) (sym value) ∙ c.complete_words_len-len.ensures.no_space) (ap (take len) prefix) c.in_err-self.field-0.0
    (c.in_err-self.ensures.words limit start heard.before (complete_words come.before) heard.heard
    come.taken.taken_words))

pub returns-clause-taken : goal.returns-clause-taken
returns-clause-taken g c = λ limit most start bytes come heard.
    let len = c.complete_words_len-len.result in
    let value = c.as_slice.ensures in
    let prefix = c.as_slice-2.ensures in
    let taken = now_taken limit _ _ _ _ len _ _ come (ap (λ l. has_complete_words (take len l)) (sym value) ∙
    c.complete_words_len-len.ensures.complete) (ap (λ l. list_all (λ b. not (is_white_space b)) (drop len l)) (sym
    value) ∙ c.complete_words_len-len.ensures.no_space) (ap (take len) prefix) c.take_words.new.parser
    (c.in_ok-self.ensures.words limit start heard.before (complete_words come.before) heard.heard
    come.taken.taken_words) in (
      rw c.remove_prefix.ensures (rw c.in_ok-self.ensures.line_feeds taken),
      chunk_heard c.args.self.now _ len bytes _ heard (ap (take len) prefix)
          (ap (λ l. has_complete_words (take len l)) (prefix ∙ sym value)
          ∙ c.complete_words_len-len.ensures.complete) c.remove_prefix.ensures c.in_ok-self.ensures.line_feeds
          (c.in_ok-self.ensures.heard limit start heard.before heard.heard heard.ends),
    )
