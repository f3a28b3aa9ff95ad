use Rattle.std.proofs.Common.{length, map, sym, ap, ◌∙◌, arith}
use Rattle.vcd_core.specs.BitEdges.{bit_edge}
use Rattle.vcd_core.specs.inside.EdgeWalk.{traces_left}
use Rattle.vcd_core.proofs.edges.EdgesInTurn.{walk_over, walk_next, walk_kept}
use Rattle.vcd_core.proofs.bit_edges.BitEdgesIterator.next.Goals as goal

pub returns-in_err-tick-clause-steps : goal.returns-in_err-tick-clause-steps
returns-in_err-tick-clause-steps c =
    let over = sym c.self.view_is ∙ ap (map bit_edge)
    (walk_over (traces_left c.self.inside.walk) c.self.invariant.0 (sym c.in_err-tick.ensures)) in
    rw c.from_residual.ensures (over, over)

pub invariant_of-self : goal.invariant_of-self
invariant_of-self c = (
  walk_kept (traces_left c.self.inside.walk) _ _ c.self.invariant.0
      (sym c.in_ok-tick.ensures) c.after-self-inside.ensures,
  c.bits-at.ensures,
)

pub returns-clause-steps : goal.returns-clause-steps
returns-clause-steps c =
    cc (ap (map bit_edge) (walk_next (traces_left c.self.inside.walk) _ _ c.self.invariant.0
    (sym c.in_ok-tick.ensures) c.after-self-inside.ensures))

pub returns-clause-goes : goal.returns-clause-goes
returns-clause-goes c =
    let first = ap (map bit_edge) (walk_next (traces_left c.self.inside.walk) _ _ c.self.invariant.0
    (sym c.in_ok-tick.ensures) c.after-self-inside.ensures) in
    let shorter = ap length (sym c.self.view_is ∙ first) in
    record { on = λ finite. (tt, finite, omega arith); keeps = tt; rests = λ _. tt }
