use Rattle.std.proofs.Common.{◌∙◌}
use Rattle.vcd_remarks.specs.inside.BusFindings.{bus_findings_left}
use Rattle.vcd_remarks.proofs.bus_finder.BusLeft.{bus_found}
use Rattle.vcd_remarks.proofs.bus_finder.BusFinder.new.Goals as goal

pub returns : goal.returns
returns c = λ scl sda end edges fits are. (λ i. bus_findings_left (record {
  scl_lost = c.none.ensures i;
  sda_lost = c.none-2.ensures i;
  events = c.none-3.ensures i;
  joint_rises = c.none-4.ensures i;
}) edges) ∙ bus_found scl sda end edges fits are
