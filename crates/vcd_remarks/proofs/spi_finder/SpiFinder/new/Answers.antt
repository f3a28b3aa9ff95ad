use Rattle.std.proofs.Common.{◌∙◌}
use Rattle.vcd_remarks.specs.inside.SpiFinder.{spi_findings_left}
use Rattle.vcd_remarks.proofs.spi_finder.SpiLeft.{spi_found}
use Rattle.vcd_remarks.proofs.spi_finder.SpiFinder.new.Goals as goal

pub returns : goal.returns
returns c = λ clk mosi miso cs end edges has_mosi has_miso has_cs fits sound mosi_sound miso_sound are.
    (λ i. spi_findings_left (record {
      setup = c.args.setup;
      present = c.args.present;
      clk = c.none.ensures i;
      mosi = c.none-2.ensures i;
      miso = c.none-3.ensures i;
      cs = c.none-4.ensures i;
    }) edges)
    ∙ spi_found c.args.setup clk mosi miso cs end edges fits sound are c.args.present has_mosi has_miso has_cs
    mosi_sound miso_sound
