use Rattle.std.proofs.Common.{◌≡◌, ◌++◌}
use Rattle.vcd_decode.proofs.edge_decoder.decode_edges.Given as goal

-- the annotations found and those of the edges that are left are all annotations
abbrev pub invariant-loop-edge : goal.invariant-loop-edge
invariant-loop-edge g l = l.found.items ++ g.D.EdgeDecoder.annotations_left l.decoder l.edge-iterator
    ≡ g.D.EdgeDecoder.annotations_left l.fn.decoder l.fn.edges
