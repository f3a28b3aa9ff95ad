use Rattle.std.proofs.Common.{◌≡◌, Option, Some, List, [], ◌∷◌, IfOk, ap, subst, ◌∙◌}
use Rattle.std.specs.Option.{option_copied}
use Rattle.vcd_core.specs.WaveView.{WaveView}
use Rattle.vcd_core.specs.BitEdges.{bit_edges_of}
use Rattle.vcd_decode.specs.inside.SpiWords.{spi_annotations_left}
use Rattle.vcd_decode.proofs.shared.EdgeTicks.{bit_edges_are}
use Rattle.vcd_decode.proofs.spi_words.spi.Goals as goal

pub returns : goal.returns
returns c =
    let waves : List (Option WaveView) = Some c.args.clk.now ∷ option_copied c.args.mosi
    ∷ option_copied c.args.miso ∷ option_copied c.args.cs ∷ [] in
    subst (λ xs. IfOk c.decode_edges.result (λ found. found.items ≡ xs))
    (ap (spi_annotations_left c.new.result) (c.new-edges.ensures.edges c.args.end c.requires.ended)
    ∙ c.new.ensures _ _ _ _ c.args.end (bit_edges_of waves c.args.end) (bit_edges_are waves c.args.end))
    c.decode_edges.ensures
