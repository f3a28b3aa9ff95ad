use Rattle.std.proofs.Common.{List, ◌∷◌, drop, ap, ◌∙◌}
use Rattle.vcd_core.specs.Contents.{SignalContents}
use Rattle.vcd_core.specs.CaptureContents.{contents}
use Rattle.vcd_edit.proofs.exchange.ExchangedPieces.{word_written}
use Rattle.vcd_edit.proofs.exchange.fields.replace_word.Goals as goal

pub returns-clause-effect : goal.returns-clause-effect
returns-clause-effect c =
    ap (λ (ss : List SignalContents). record (contents c.args.capture.now) { signals = ss })
    (word_written c.args.capture.now.signals c.args.signal c.item_mut.result.now c.args.word.items
    c.replace_first.new.self c.requires.within c.item_mut.ensures.value
    (c.replace_first.ensures.new ∙ ap (λ w. w ∷ drop 1 c.item_mut.result.now.words) c.from_vec.ensures))
