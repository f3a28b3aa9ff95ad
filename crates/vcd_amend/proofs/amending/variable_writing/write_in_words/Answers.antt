use Rattle.std.proofs.Common.{refl, ap, ◌∙◌, sym, arith, ◌+◌, ◌≡◌, [], length, List}
use Rattle.std.proofs.Common.{false}
use Rattle.std.specs.List.{list_all}
use Rattle.vcd_core.specs.Word.{is_white_space}
use Rattle.vcd_text.specs.Grammar.{word_texts}
use Rattle.vcd_text.specs.Words.{WordOnLine}
use Rattle.vcd_text.specs.LentWords.{texts_left}
use Rattle.vcd_amend.specs.AmendedText.{with_words}
use Rattle.vcd_amend.specs.inside.amending.WordsInPlace.{words_in_place}
use Rattle.vcd_text.proofs.shared.EmittedParts.{prefix_begun, prefix_grows, prefix_whole, writes_as, writes_both}
use Rattle.vcd_amend.proofs.amending.InPlace.{word_step, words_end, front_of}
use Rattle.vcd_amend.proofs.amending.variable_writing.write_in_words.Goals as goal

pub loop-word-init : goal.loop-word-init
loop-word-init g c = record {
  text = prefix_begun (ap (λ (l : List WordOnLine). with_words false c.args.body.now (words_in_place 0 (word_texts l)
      c.args.names.now c.args.code.now)) c.new-words.ensures.words);
  left = sym c.new-words.ensures.rest;
  few = omega (arith, c.new-words.ensures.few);
}

pub loop-word-preserved : goal.loop-word-preserved
loop-word-preserved g c =
    let kept = c.loop-word.invariant in
    let rest = c.next_word.new.self.rest.now in
    let word = c.in-Some.word.text.now in
    let (space, is, white) = c.in-Some.ensures.bytes in
    let left = kept.left ∙ is in
    let next : c.saturating_add-index.result ≡ c.loop-word.index + 1 =
    omega (arith, kept.few, c.saturating_add-index.ensures) in
    record {
      text = prefix_grows _ kept.text (writes_both
          (writes_as (front_of c.loop-word.left.now rest word space left) c.write_bytes.ensures.written)
          (writes_as c.word_at.ensures c.write_bytes-in-Some.ensures.written))
          (word_step c.loop-word.left.now rest word space c.loop-word.index c.saturating_add-index.result
          (texts_left c.loop-word.words) (texts_left c.next_word.new.self) c.args.names.now c.args.code.now left white
          c.in-Some.ensures.some c.in-Some.ensures.no_space c.in-Some.ensures.ended
          (ap word_texts c.in-Some.ensures.words) next);
      left = refl;
      few = omega (arith, kept.few, next, ap (λ (l : List WordOnLine). length l) c.in-Some.ensures.words);
    }

pub returns : goal.returns
returns g c =
    let kept = c.loop-word.invariant in
    prefix_whole (prefix_grows [] kept.text c.write_bytes-2.ensures.written
    (words_end c.loop-word.left.now c.loop-word.index (texts_left c.loop-word.words) c.args.names.now c.args.code.now
    (ap word_texts c.in_default.ensures.words) (ap (list_all is_white_space) kept.left ∙ c.in_default.ensures.space)))
    refl
