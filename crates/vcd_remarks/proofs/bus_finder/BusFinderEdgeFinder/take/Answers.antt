use Rattle.std.proofs.Common.{ap, ◌∙◌}
use Rattle.vcd_remarks.specs.declared.bus_finder.BusFinder.{BusFinder}
use Rattle.vcd_remarks.specs.DecoderFindings.{told}
use Rattle.vcd_remarks.specs.inside.BusFindings.{bus_findings_left}
use Rattle.vcd_remarks.proofs.bus_finder.BusLeft.{bus_edge_taken}
use Rattle.vcd_remarks.proofs.bus_finder.BusFinderEdgeFinder.take.Goals as goal

pub returns : goal.returns
returns c = λ more. ap told (ap (λ (f : BusFinder). bus_findings_left f more) c.with_edge.ensures
    ∙ bus_edge_taken c.args.self.now c.args.edge.now more)
