use Rattle.std.proofs.Common.{ap, ◌∙◌}
use Rattle.vcd_remarks.specs.DecoderFindings.{told}
use Rattle.vcd_remarks.specs.inside.UartFinder.{UartSearch, uart_findings_left}
use Rattle.vcd_remarks.proofs.uart_finder.EdgeTaken.{edge_taken}
use Rattle.vcd_remarks.proofs.uart_finder.UartFinderEdgeFinder.take.Goals as goal

pub returns : goal.returns
returns c = λ more. ap told (ap (λ (f : UartSearch). uart_findings_left f more) c.in_ok-search_edge.ensures
    ∙ edge_taken c.args.self.now c.args.edge.now more)
