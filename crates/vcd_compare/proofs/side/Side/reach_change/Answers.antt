use Rattle.std.proofs.Common.{◌++◌, refl, sym, ◌∙◌, arith}
use Rattle.std.proofs.lemmas.Bool.{both_ways}
use Rattle.vcd_compare.specs.inside.Side.{at_hand}
use Rattle.vcd_compare.proofs.side.ReadOn.{reads_none, reaches_then}
use Rattle.vcd_compare.proofs.side.Side.reach_change.Goals as goal

pub loop-alloc-init : goal.loop-alloc-init
loop-alloc-init g c = record {
  reads = λ coming state given at. reads_none coming _ state given c.args.self.now at;
  not_failed = c.requires.ready;
  factor = refl;
  not_more = omega arith;
  fewer = λ needs has. absurd (both_ways _ has needs);
}

pub loop-alloc-preserved : goal.loop-alloc-preserved
loop-alloc-preserved g c =
    let now = c.loop-alloc.self in
    let l = c.loop-alloc.invariant in
    let before = l.not_more in
    let smaller = c.in_ok-read_chunk.ensures.fewer in
    record {
      reads = λ coming state given at.
          let on = l.reads coming state given at in
          reaches_then coming _ _ state (given ++ at_hand c.args.self.now) given now c.read_chunk.new.self on
          (sym c.needs_chunk.ensures ∙ c.loop-alloc-test.true)
          (c.in_ok-read_chunk.ensures.reads coming on.later given on.at);
      not_failed = c.in_ok-read_chunk.ensures.not_failed;
      factor = c.in_ok-read_chunk.ensures.factor ∙ l.factor;
      not_more = omega (arith, before, smaller);
      fewer = λ needs has. omega (arith, before, smaller);
    }
