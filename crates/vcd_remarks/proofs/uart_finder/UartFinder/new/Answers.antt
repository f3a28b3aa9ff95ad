use Rattle.std.proofs.Common.{◌∙◌, arith}
use Rattle.vcd_remarks.specs.inside.UartFinder.{uart_findings_left}
use Rattle.vcd_remarks.proofs.uart_finder.UartFound.{all_found}
use Rattle.vcd_remarks.proofs.uart_finder.UartFinder.new.Goals as goal

pub returns : goal.returns
returns c = λ s edges sound one are. (λ i. uart_findings_left (record {
  setup = c.args.setup;
  decoder = c.new.ensures.state i;
  lost = c.none.ensures i;
  changes = c.none-2.ensures i;
  held = c.new-2.ensures.items i;
  amid_bits = c.none-3.ensures i;
}) edges) ∙ all_found c.args.setup c.args.end s edges (omega (arith, c.ranges.end.fits)) sound one are
