use Rattle.std.proofs.Common.{◌≡◌, Option, Some, None, List, [], ◌∷◌, IfOk, ap, subst, ◌∙◌}
use Rattle.vcd_core.specs.WaveView.{WaveView}
use Rattle.vcd_core.specs.BitEdges.{bit_edges_of}
use Rattle.vcd_decode.specs.inside.i2c_bus.BusWalk.{i2c_annotations_left}
use Rattle.vcd_decode.proofs.shared.EdgeTicks.{bit_edges_are}
use Rattle.vcd_decode.proofs.i2c_bus.bus_walk.i2c.Goals as goal

pub returns : goal.returns
returns c =
    let waves : List (Option WaveView) = Some c.args.scl.now ∷ Some c.args.sda.now ∷ None ∷ None ∷ [] in
    subst (λ xs. IfOk c.decode_edges.result (λ found. found.items ≡ xs))
    (ap (i2c_annotations_left c.new.result)
    (c.new-edges.ensures.edges c.args.end (c.requires.scl_ends, (c.requires.sda_ends, (tt, (tt, tt)))))
    ∙ c.new.ensures _ _ c.args.end (bit_edges_of waves c.args.end) (bit_edges_are waves c.args.end))
    c.decode_edges.ensures
