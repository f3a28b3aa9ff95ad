use Rattle.std.proofs.Common.{◌<◌, ap, ◌∙◌, arith}
use Rattle.vcd_decode.specs.declared.partial_word.PartialWord.{PartialWord}
use Rattle.vcd_decode.specs.inside.SpiWords.{spi_annotations_left}
use Rattle.vcd_decode.proofs.shared.EdgeByEdge.{words_are}
use Rattle.vcd_decode.proofs.spi_words.SpiDecoder.new.Goals as goal

pub returns : goal.returns
returns c = λ clk mosi miso cs end edges are.
    let some : 0 < c.args.setup.bits = omega (arith, c.bits_fit.ensures.least) in
    ap (λ (g : PartialWord). spi_annotations_left (record { setup = c.args.setup; group = g }) edges) c.new.ensures
    ∙ words_are c.args.setup some clk mosi miso cs end edges are
