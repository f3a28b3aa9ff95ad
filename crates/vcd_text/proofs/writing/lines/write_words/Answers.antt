-- Each turn writes one word.
use Rattle.std.proofs.Common.{[], ◌∷◌, ◌+◌, drop, ap}
use Rattle.std.proofs.lemmas.Grind.{flat_map-append}
use Rattle.vcd_text.specs.inside.writing.Lines.{spaced_words}
use Rattle.vcd_text.proofs.shared.EmittedParts.{prefix_item, writes_as}
use Rattle.vcd_text.proofs.writing.lines.write_words.Goals as goal

pub loop-word-preserved : goal.loop-word-preserved
loop-word-preserved g c = prefix_item spaced_words c.args.words.now c.loop-word.word-index c.word-item.result
    c.loop-word.invariant (writes_as (ap (λ l. spaced_words (l ∷ [])) c.as_slice.ensures) c.write_word.ensures)
    c.loop-word-test.true c.word-item.is (flat_map-append (λ w. 32 ∷ w) (c.word-item.result ∷ [])
    (drop (c.loop-word.word-index + 1) c.args.words.now))
