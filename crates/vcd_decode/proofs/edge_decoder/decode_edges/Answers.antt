use Rattle.std.proofs.Common.{List, ◌++◌, ap, sym, ◌∙◌}
use Rattle.vcd_core.specs.declared.bit_edges.BitEdge.{BitEdge}
use Rattle.vcd_decode.proofs.edge_decoder.decode_edges.Goals as goal

pub loop-edge-init : goal.loop-edge-init
loop-edge-init g c =
    ap (λ xs. xs ++ g.D.EdgeDecoder.annotations_left c.args.decoder c.into_iter-edge-iterator.result)
    c.new-found.ensures.items
    ∙ ap (g.D.EdgeDecoder.annotations_left c.args.decoder) c.into_iter-edge-iterator.ensures.into_iter_gives

pub loop-edge-preserved : goal.loop-edge-preserved
loop-edge-preserved g c = c.in_ok-take.ensures c.next.new.self
    ∙ sym (ap (λ (es : List BitEdge). c.loop-edge.found.items
    ++ g.D.EdgeDecoder.annotations_left c.loop-edge.decoder es)
    c.in-Some.ensures.steps) ∙ c.loop-edge.invariant

pub returns : goal.returns
returns g c = c.in_ok-finish.ensures
    ∙ sym (ap (λ (es : List BitEdge). c.loop-edge.found.items
    ++ g.D.EdgeDecoder.annotations_left c.loop-edge.decoder es)
    c.in-None.ensures.steps.0) ∙ c.loop-edge.invariant
