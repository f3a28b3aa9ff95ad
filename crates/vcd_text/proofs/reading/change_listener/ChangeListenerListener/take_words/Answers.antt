use Rattle.std.proofs.Common.{◌≡◌, List, [], ◌∷◌, ◌++◌, length, sym, ap, ◌∙◌}
use Rattle.std.proofs.Common.{arith, append_assoc}
use Rattle.std.proofs.Common.{append-nil, length-append, refl}
use Rattle.vcd_text.specs.declared.fault.ReadError.{ReadError}
use Rattle.vcd_text.specs.Words.{WordOnLine, words_of}
use Rattle.vcd_text.specs.LentWords.{word_contents, words_left}
use Rattle.vcd_text.proofs.reading.change_listener.HeardWords.{words_of_both}
use Rattle.vcd_text.proofs.reading.change_listener.ChangeListenerListener.take_words.Goals as goal
use Rattle.vcd_text.proofs.shared.FailedResults.{err_is}

-- the words so far, this word, and the words left
in_turn : (all came words left : List WordOnLine) (word : WordOnLine) → all ≡ came ++ words → words ≡ word ∷ left
    → all ≡ (came ++ word ∷ []) ++ left
in_turn all came words left word parts next = grind (arith, append_assoc)

pub loop-word-init : goal.loop-word-init
loop-word-init c = (
  (
    [],
    refl,
    λ limit words_so_far reads. rw (append-nil words_so_far) reads,
    λ limit start words_so_far h. rw (append-nil words_so_far) h,
  ),
  refl,
)

pub hear_word-requires-clause-reading : goal.hear_word-requires-clause-reading
hear_word-requires-clause-reading c =
    let came = c.loop-word.invariant.0.0 in
    let (limit, start, before, h, ends, (words_so_far, reads, few)) = c.requires in (
      limit,
      (
        words_so_far ++ came,
        c.loop-word.invariant.0.2 limit words_so_far reads,
        omega (
          arith,
          few,
          length-append words_so_far came,
          length-append came (words_left c.loop-word.left),
          ap (length {A = WordOnLine}) c.loop-word.invariant.0.1,
          ap (length {A = WordOnLine}) c.in-Some.ensures.words,
        ),
      ),
    )

pub loop-word-smaller : goal.loop-word-smaller
loop-word-smaller c = grind (arith, length-append)

pub loop-word-preserved : goal.loop-word-preserved
loop-word-preserved c =
    let came = c.loop-word.invariant.0.0 in
    let word = word_contents c.in-Some.word in (
      (
        came ++ word ∷ [],
        in_turn (words_left c.args.words) came (words_left c.loop-word.left) (words_left c.next_word.new.self) word
            c.loop-word.invariant.0.1 c.in-Some.ensures.words,
        λ limit words_so_far reads. rw (append_assoc words_so_far came (word ∷ []))
            at (c.in_ok-hear_word.ensures.words limit (words_so_far ++ came)
            (c.loop-word.invariant.0.2 limit words_so_far reads)),
        λ limit start words_so_far h. rw (append_assoc words_so_far came (word ∷ []))
            at (c.in_ok-hear_word.ensures.heard limit start (words_so_far ++ came)
            (c.loop-word.invariant.0.3 limit start words_so_far h)),
      ),
      c.in-Some.ensures.line_feeds ∙ c.loop-word.invariant.1,
    )

pub returns-in_err-hear_word-clause-words : goal.returns-in_err-hear_word-clause-words
returns-in_err-hear_word-clause-words c = λ limit start before words_so_far h reads.
    let came = c.loop-word.invariant.0.0 in
    let word = word_contents c.in-Some.word in
    let more = words_left c.next_word.new.self in
    let all : (words_so_far ++ came) ++ word ∷ more ≡ words_so_far ++ (words_left c.args.words) =
    append_assoc words_so_far came _ ∙ ap (λ words. words_so_far ++ words)
    (sym (append_assoc came (word ∷ []) more) ∙ sym (in_turn (words_left c.args.words) came
    (words_left c.loop-word.left) more word c.loop-word.invariant.0.1 c.in-Some.ensures.words)) in
    let e : ReadError = c.in_err-hear_word.field-0.0 in
    rw (err_is _ c.from_residual.ensures.1) (rw all at (c.in_err-hear_word.ensures.words limit
    (words_so_far ++ came)
    (c.loop-word.invariant.0.2 limit words_so_far reads) more))

pub returns-clause-words : goal.returns-clause-words
returns-clause-words c = λ limit start before words_so_far h reads.
    let came = c.loop-word.invariant.0.0 in
    let all : came ≡ words_left c.args.words =
    sym (c.loop-word.invariant.0.1 ∙ ap (λ ws. came ++ ws) c.in_default.ensures.words ∙ append-nil came) in
    rw all at (c.loop-word.invariant.0.2 limit words_so_far reads)

pub returns-clause-heard : goal.returns-clause-heard
returns-clause-heard c = λ limit start before h ends.
    let came = c.loop-word.invariant.0.0 in
    let all : came ≡ words_left c.args.words =
    sym (c.loop-word.invariant.0.1 ∙ ap (λ ws. came ++ ws) c.in_default.ensures.words ∙ append-nil came) in
    rw (words_of_both before c.args.words.rest.now c.args.words.line_feeds ends)
    (rw all at (c.loop-word.invariant.0.3 limit start (words_of before) h))
