use Rattle.std.proofs.Common.{◌≡◌}
use Rattle.vcd_remarks.proofs.edge_finder.append_found.Given as goal

-- the remarks on what is found and left to find are all
abbrev pub invariant-loop-edge : goal.invariant-loop-edge
invariant-loop-edge g l = g.F.EdgeFinder.remarks_left l.finder l.edge-iterator
    ≡ g.F.EdgeFinder.remarks_left l.fn.finder l.fn.edges
