use Rattle.std.proofs.Common.{ap, ◌∙◌}
use Rattle.vcd_remarks.specs.declared.spi_selection.SelectionFinder.{SelectionFinder}
use Rattle.vcd_remarks.specs.inside.SpiSelection.{cs_left}
use Rattle.vcd_remarks.proofs.spi_selection.SelectionLeft.{selection_taken}
use Rattle.vcd_remarks.proofs.spi_selection.SelectionFinder.take.Goals as goal

pub returns : goal.returns
returns c = λ more. ap (λ (f : SelectionFinder). cs_left c.args.setup.now f more) c.with_edge.ensures
    ∙ selection_taken c.args.setup.now c.args.self.now c.args.edge.now more
