use Rattle.std.proofs.Common.{◌++◌, sym, ap, subst}
use Rattle.vcd_text.specs.LentWords.{word_contents}
use Rattle.vcd_copy.proofs.copying.pieces.OneWordMore.{unbroken}
use Rattle.vcd_copy.proofs.copying.pieces.WordsInChunk.{unwritten_now, ended_piece, word_copied}
use Rattle.vcd_copy.proofs.copying.pieces.copy_word.Goals as goal

pub decide-requires-clause-seen : goal.decide-requires-clause-seen
decide-requires-clause-seen g c =
    let (limit, rules, start, before, old_rest, bytes, r, is, s) = c.requires.copying in
    let copier = c.args.copier.now in
    let rest = c.args.unwritten.now.rest.now in
    let w = word_contents c.args.word in
    let step = c.in_ok-take_word.ensures.step r.copied.asked _ r.copied.begun r.copied.at in
    let seen = g.A.Amender.has_seen copier.amender.now in
    let whole = unbroken c.args.word.text.now c.requires.word c.requires.no_space in
    let all = c.args.unwritten.now.all.now in
    let item = c.args.unwritten.now.item.now in
    let o = copier.output in
    let marked = c.mark_first.new.held in
    let same = ap (λ (b : _). b.items) c.mark_first.ensures.bytes in (
      r.copied.pieces,
      r.known,
      r.begun ++ bytes,
      r.copied.seen,
      unwritten_now g.W.Sink limit rules seen
          seen start o o c.args.parser.now c.take_word.new.parser copier.held marked marked all item old_rest all
          item
          rest before bytes w r is s whole same c.mark_first.ensures.first c.mark_first.ensures.later step.0,
    )

pub decide-requires-clause-ends : goal.decide-requires-clause-ends
decide-requires-clause-ends g c = λ nothing.
    let (limit, rules, start, before, old_rest, bytes, r, is, s) = c.requires.copying in
    let copier = c.args.copier.now in
    let rest = c.args.unwritten.now.rest.now in
    let w = word_contents c.args.word in
    let step = c.in_ok-take_word.ensures.step r.copied.asked _ r.copied.begun r.copied.at in
    let seen = g.A.Amender.has_seen copier.amender.now in
    let whole = unbroken c.args.word.text.now c.requires.word c.requires.no_space in
    let all = c.args.unwritten.now.all.now in
    let item = c.args.unwritten.now.item.now in
    let o = copier.output in
    let marked = c.mark_first.new.held in
    let same = ap (λ (b : _). b.items) c.mark_first.ensures.bytes in
    let (p, ends, held) = ended_piece g.W.Sink limit rules seen seen start o o c.args.parser.now c.take_word.new.parser
    copier.held marked marked all item old_rest all item rest before bytes w r is s whole same
    c.mark_first.ensures.first c.mark_first.ensures.later step.0 step.1 nothing in (
      limit,
      r.copied.pieces,
      p,
      r.known,
      r.begun ++ bytes,
      r.copied.seen,
      ends,
      unwritten_now g.W.Sink limit rules seen
          seen start o o c.args.parser.now c.take_word.new.parser copier.held marked marked all item old_rest all
          item
          rest before bytes w r is s whole same c.mark_first.ensures.first c.mark_first.ensures.later step.0,
      held,
    )

pub returns-clause-copied : goal.returns-clause-copied
returns-clause-copied g c = λ limit start before old_rest bytes r is s.
    let copier = c.args.copier.now in
    let rest = c.args.unwritten.now.rest.now in
    let after = c.decide.new.copier in
    let w = word_contents c.args.word in
    let rules = g.A.Amender.rules (g.A.Amender.given copier.amender.now) in
    let step = c.in_ok-take_word.ensures.step r.copied.asked _ r.copied.begun r.copied.at in
    let seen = g.A.Amender.has_seen copier.amender.now in
    let whole = unbroken c.args.word.text.now c.requires.word c.requires.no_space in
    let all = c.args.unwritten.now.all.now in
    let item = c.args.unwritten.now.item.now in
    let marked = c.mark_first.new.held in
    let same = ap (λ (b : _). b.items) c.mark_first.ensures.bytes in
    let now = unwritten_now g.W.Sink limit rules seen (g.A.Amender.has_seen after.amender.now) start
    copier.output after.output c.args.parser.now c.take_word.new.parser copier.held marked
    after.held all item old_rest c.decide.new.unwritten.all.now c.decide.new.unwritten.item.now rest
    before bytes w r is s whole same c.mark_first.ensures.first c.mark_first.ensures.later step.0 in
    word_copied g.W.Sink limit rules seen (g.A.Amender.has_seen after.amender.now) start
    copier.output after.output c.args.parser.now c.take_word.new.parser copier.held marked
    after.held all item old_rest c.decide.new.unwritten.all.now c.decide.new.unwritten.item.now rest
    before bytes w r is s whole same c.mark_first.ensures.first c.mark_first.ensures.later step.0 step.1
    (λ nothing p ends held. c.in_ok-decide.ensures.ended nothing limit r.copied.pieces p r.known (r.begun ++ bytes)
    r.copied.seen ends now held)
    (λ something. let (still, len) = c.in_ok-decide.ensures.goes_on something in (
      λ stands. c.in_ok-decide.ensures.stands stands r.copied.pieces r.known (r.begun ++ bytes) r.copied.seen now,
      c.in_ok-decide.ensures.waits something,
      subst (λ a. g.A.Amender.has_seen a r.copied.pieces) (sym still) r.copied.seen,
      len,
    ))
