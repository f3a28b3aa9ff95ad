use Rattle.std.proofs.Common.{◌≡◌, inl, inr, ℕ, List, [], ◌∷◌, ◌++◌, length, sym, ap, ◌∙◌, subst}
use Rattle.std.proofs.Common.{arith, append_assoc}
use Rattle.std.proofs.Common.{append-nil, length-append, refl}
use Rattle.vcd_text.specs.declared.fault.ReadError.{ReadError}
use Rattle.vcd_text.specs.Words.{WordOnLine}
use Rattle.vcd_text.specs.LentWords.{word_contents, words_left}
use Rattle.vcd_copy.specs.inside.Copying.{HasCopiedUpTo}
use Rattle.vcd_copy.proofs.copying.pieces.SpacedWords.{next_is_spaced}
use Rattle.vcd_copy.proofs.copying.pieces.StandingBytes.{chunk_begun, chunk_ended}
use Rattle.vcd_text.proofs.shared.EmittedParts.{more_none, more_both, writes_more}
use Rattle.vcd_copy.proofs.copying.copier.copy_words.Goals as goal
use Rattle.vcd_text.proofs.shared.FailedResults.{err_is}

-- the words so far, this word, and the words left
in_turn : (all came words left : List WordOnLine) (word : WordOnLine) → all ≡ came ++ words → words ≡ word ∷ left
    → all ≡ (came ++ word ∷ []) ++ left
in_turn all came words left word parts next = grind (arith, append_assoc)

pub loop-word-init : goal.loop-word-init
loop-word-init g c = (
  (
    [],
    refl,
    λ limit words_so_far reads. rw (append-nil words_so_far) reads,
  ),
  refl,
  (
    [],
    refl,
    inl refl,
    λ limit start before h complete. rw (append-nil before) (chunk_begun c.args.copier.now.held c.args.words.rest.now
        h),
  ),
  refl,
  more_none,
  refl,
)

pub copy_word-requires-clause-reading : goal.copy_word-requires-clause-reading
copy_word-requires-clause-reading g c =
    let came = c.loop-word.invariant.0.0 in
    let (limit, (words_so_far, reads, few)) = c.requires.reading in (
      limit,
      (
        words_so_far ++ came,
        c.loop-word.invariant.0.2 limit words_so_far reads,
        omega (
          arith,
          few,
          length-append words_so_far came,
          length-append came (words_left c.loop-word.left),
          ap (length {A = WordOnLine}) c.loop-word.invariant.0.1,
          ap (length {A = WordOnLine}) c.in-Some.ensures.words,
        ),
      ),
    )

pub copy_word-requires-clause-copying : goal.copy_word-requires-clause-copying
copy_word-requires-clause-copying g c =
    let (limit, start, before, h, complete) = c.requires.copying in
    let (done, split, ends, copied) = c.loop-word.invariant.2 in
    let (space, is, white) = c.in-Some.ensures.bytes in
    let text = c.in-Some.word.text.now in
    let left = c.next_word.new.self.rest.now in (
      limit,
      g.A.Amender.rules (g.A.Amender.given c.args.copier.now.amender.now),
      start,
      before ++ done,
      c.loop-word.left.rest.now,
      space ++ text,
      copied limit start before h complete,
      is ∙ sym (append_assoc space text left),
      next_is_spaced before done
          c.loop-word.left.rest.now space text left complete ends is white c.in-Some.ensures.no_space
          c.in-Some.ensures.some,
    )

pub loop-word-smaller : goal.loop-word-smaller
loop-word-smaller g c = grind (arith, length-append)

pub loop-word-preserved : goal.loop-word-preserved
loop-word-preserved g c =
    let came = c.loop-word.invariant.0.0 in
    let word = word_contents c.in-Some.word in
    let (done, split, ends, copied) = c.loop-word.invariant.2 in
    let (space, is, white) = c.in-Some.ensures.bytes in
    let text = c.in-Some.word.text.now in
    let left = c.next_word.new.self.rest.now in
    let old = c.loop-word.left.rest.now in (
      (
        came ++ word ∷ [],
        in_turn (words_left c.args.words) came (words_left c.loop-word.left) (words_left c.next_word.new.self) word
            c.loop-word.invariant.0.1 c.in-Some.ensures.words,
        λ limit words_so_far reads. rw (append_assoc words_so_far came (word ∷ []))
            at (c.in_ok-copy_word.ensures.words limit (words_so_far ++ came)
            (c.loop-word.invariant.0.2 limit words_so_far reads)),
      ),
      c.in-Some.ensures.line_feeds ∙ c.loop-word.invariant.1,
      (
        done ++ (space ++ text),
        parts c.args.words.rest.now done old space text left split is,
        inr c.in-Some.ensures.ended,
        λ limit start before h complete. rw (append_assoc before done (space ++ text)) at (subst (λ r. HasCopiedUpTo
            g.W.Sink limit r (g.A.Amender.has_seen c.copy_word.new.copier.amender.now) start
            c.copy_word.new.copier.output
            c.copy_word.new.parser c.copy_word.new.copier.held c.copy_word.new.unwritten.all.now
            c.copy_word.new.unwritten.item.now left ((before ++ done) ++ (space ++ text)))
            (ap g.A.Amender.rules c.loop-word.invariant.3)
            (c.in_ok-copy_word.ensures.copied limit start (before ++ done) old (space ++ text) (subst
            (λ r. HasCopiedUpTo
            g.W.Sink limit r (g.A.Amender.has_seen c.loop-word.copier.amender.now) start c.loop-word.copier.output
            c.loop-word.parser
            c.loop-word.copier.held c.loop-word.unwritten.all.now c.loop-word.unwritten.item.now old (before ++ done))
            (ap g.A.Amender.rules (sym c.loop-word.invariant.3)) (copied limit start before h complete))
            (is ∙ sym (append_assoc space text left)) (next_is_spaced before done old space text left complete ends is
            white c.in-Some.ensures.no_space c.in-Some.ensures.some))),
      ),
      c.in_ok-copy_word.ensures.same ∙ c.loop-word.invariant.3,
      more_both c.loop-word.invariant.4 c.copy_word.ensures.more,
      c.copy_word.ensures.same_amender ∙ c.loop-word.invariant.5,
    )
  where
    parts : (all done old space text left : List ℕ) → all ≡ done ++ old → old ≡ space ++ (text ++ left)
        → all ≡ (done ++ (space ++ text)) ++ left
    parts all done old space text left split is = grind (arith, append_assoc)

pub returns-in_err-copy_word-clause-words : goal.returns-in_err-copy_word-clause-words
returns-in_err-copy_word-clause-words g c = λ limit words_so_far reads.
    let came = c.loop-word.invariant.0.0 in
    let word = word_contents c.in-Some.word in
    let more = words_left c.next_word.new.self in
    let all : (words_so_far ++ came) ++ word ∷ more ≡ words_so_far ++ (words_left c.args.words) =
    append_assoc words_so_far came _ ∙ ap (λ words. words_so_far ++ words)
    (sym (append_assoc came (word ∷ []) more) ∙ sym (in_turn (words_left c.args.words) came
    (words_left c.loop-word.left) more word c.loop-word.invariant.0.1 c.in-Some.ensures.words)) in
    let e : ReadError = c.in_err-copy_word.field-0.0 in
    rw (err_is _ c.from_residual.ensures.1) (rw all at (c.in_err-copy_word.ensures.words limit
    (words_so_far ++ came)
    (c.loop-word.invariant.0.2 limit words_so_far reads) more))

pub returns-clause-words : goal.returns-clause-words
returns-clause-words g c = λ limit words_so_far reads.
    let came = c.loop-word.invariant.0.0 in
    let all : came ≡ words_left c.args.words =
    sym (c.loop-word.invariant.0.1 ∙ ap (λ ws. came ++ ws) c.in_default.ensures.words ∙ append-nil came) in
    rw all at (c.loop-word.invariant.0.2 limit words_so_far reads)

pub write_standing-requires : goal.write_standing-requires
write_standing-requires g c =
    let (limit, start, before, h, complete) = c.requires.copying in
    let (done, split, ends, copied) = c.loop-word.invariant.2 in
    let r = copied limit start before h complete in
    (r.known, r.unwritten.all_is)

pub returns-clause-copied : goal.returns-clause-copied
returns-clause-copied g c = λ limit start before h complete.
    let (done, split, ends, copied) = c.loop-word.invariant.2 in
    let rest = c.loop-word.left.rest.now in
    let r = copied limit start before h complete in
    let all : (before ++ done) ++ rest ≡ before ++ c.args.words.rest.now =
    append_assoc before done rest ∙ ap (λ l. before ++ l) (sym split) in
    rw all at (chunk_ended c.loop-word.copier.held c.hold.new.held.items r c.in_default.ensures.space
    (c.write_standing.ensures r.known r.unwritten.all_is) c.in_ok-hold.ensures)

pub returns-in_err-copy_word-clause-more : goal.returns-in_err-copy_word-clause-more
returns-in_err-copy_word-clause-more g c = more_both c.loop-word.invariant.4 c.copy_word.ensures.more

pub returns-in_err-hold-clause-more : goal.returns-in_err-hold-clause-more
returns-in_err-hold-clause-more g c =
    let (limit, start, before, h, complete) = c.requires.copying in
    let (done, split, ends, copied) = c.loop-word.invariant.2 in
    let r = copied limit start before h complete in
    more_both c.loop-word.invariant.4 (writes_more (c.write_standing.ensures r.known r.unwritten.all_is))

pub returns-clause-more : goal.returns-clause-more
returns-clause-more g c =
    let (limit, start, before, h, complete) = c.requires.copying in
    let (done, split, ends, copied) = c.loop-word.invariant.2 in
    let r = copied limit start before h complete in
    more_both c.loop-word.invariant.4 (writes_more (c.write_standing.ensures r.known r.unwritten.all_is))
