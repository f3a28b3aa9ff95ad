use Rattle.std.proofs.Common.{◌≡◌, suc, List, [], ◌∷◌, length, map, All, ap, sym, subst, ◌∙◌, arith}
use Rattle.vcd_core.specs.declared.bit.Bit.{Bit}
use Rattle.vcd_core.specs.declared.bit_edges.BitEdge.{BitEdge}
use Rattle.vcd_core.specs.Wave.{change, IsWave}
use Rattle.vcd_edit.specs.inside.plans.Derive.{edge_change, HasBits, DerivedSoFar}
use Rattle.vcd_edit.proofs.plans.derive.DerivedSignal.{pair_edges, no_edge_made, each_has_bits, edge_bit_is, one_made}
use Rattle.vcd_edit.proofs.plans.derive.DerivedSignal.{late_enough, pair_is}
use Rattle.vcd_edit.proofs.plans.derive.wave_of_two.Goals as goal

pub loop-edge-init : goal.loop-edge-init
loop-edge-init c =
    let op = c.args.operator in
    let a = c.args.first.now in
    let b = c.args.last.now in
    let gives = c.into_iter-edge-iterator.ensures.into_iter_gives in
    let (end, first, last) = c.requires.end in (
      subst (All HasBits) (sym (gives ∙ c.new-edge-items.ensures.edges end (first, (last, (tt, (tt, tt))))))
          (each_has_bits op a b end),
      λ end first last.
          subst (λ (es : List BitEdge). DerivedSoFar (map (edge_change op) (pair_edges op a b end))
          (map (edge_change op) es) c.new-wave.result)
          (sym (gives ∙ c.new-edge-items.ensures.edges end (first, (last, (tt, (tt, tt))))))
          (no_edge_made op a b end c.new-wave.result c.new-wave.ensures.width c.new-wave.ensures.changes),
    )

pub push-requires-clause-width : goal.push-requires-clause-width
push-requires-clause-width c =
    let (end, first, last) = c.requires.end in
    ap length c.filled.ensures ∙ sym (c.loop-edge.invariant.1 end first last).width

pub push-requires-clause-none_later : goal.push-requires-clause-none_later
push-requires-clause-none_later c =
    let op = c.args.operator in
    let (end, first, last) = c.requires.end in
    late_enough (map (edge_change op) (pair_edges op c.args.first.now c.args.last.now end))
    (map (edge_change op) c.loop-edge.edge-iterator) (map (edge_change op) c.next.new.self)
    (edge_change op c.in-Some.edge) c.loop-edge.wave (ap (map (edge_change op)) c.in-Some.ensures.steps)
    (c.loop-edge.invariant.1 end first last)

pub loop-edge-preserved : goal.loop-edge-preserved
loop-edge-preserved c =
    let op = c.args.operator in
    let e = c.in-Some.edge in
    let all_have : All HasBits (e ∷ c.next.new.self) =
    subst (All HasBits) c.in-Some.ensures.steps c.loop-edge.invariant.0 in
    let bit : edge_change op e ≡ change e.tick c.filled.result =
    ap (λ (b : Bit). change e.tick (b ∷ []))
    (edge_bit_is op e c.unwrap.result c.unwrap-in-loop-edge.result (all_have 0 e (omega arith))
    c.unwrap.ensures c.unwrap-in-loop-edge.ensures ∙ sym c.apply-bit.ensures)
    ∙ ap (change e.tick) (sym c.filled.ensures) in (
      λ k d less. all_have (suc k) d (omega (arith, less)),
      λ end first last.
          one_made (map (edge_change op) (pair_edges op c.args.first.now c.args.last.now end))
          (map (edge_change op) c.loop-edge.edge-iterator) (map (edge_change op) c.next.new.self)
          (change e.tick c.filled.result) c.loop-edge.wave c.push.new.self
          (ap (map (edge_change op)) c.in-Some.ensures.steps
          ∙ ap (λ f. f ∷ map (edge_change op) c.next.new.self) bit)
          (c.loop-edge.invariant.1 end first last) c.in_ok-push.ensures.width c.in_ok-push.ensures.values
          c.in_ok-push.ensures.last,
    )

pub returns : goal.returns
returns c = λ end first last. (
  c.shrink_to_fit.ensures.width ∙ (c.loop-edge.invariant.1 end first last).width,
  c.shrink_to_fit.ensures.changes
      ∙ pair_is c.args.operator c.args.first.now c.args.last.now end c.loop-edge.wave
      (subst (λ (es : List BitEdge). DerivedSoFar (map (edge_change c.args.operator)
      (pair_edges c.args.operator c.args.first.now c.args.last.now end)) (map (edge_change c.args.operator) es)
      c.loop-edge.wave) c.in-None.ensures.steps.0 (c.loop-edge.invariant.1 end first last))
      (subst (IsWave c.loop-edge.wave.width) c.shrink_to_fit.ensures.changes
      (subst (λ n. IsWave n c.shrink_to_fit.new.self.changes) c.shrink_to_fit.ensures.width
      c.changes_have_form.ensures)),
)
