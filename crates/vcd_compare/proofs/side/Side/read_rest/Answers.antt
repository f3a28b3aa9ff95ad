use Rattle.std.proofs.Common.{◌++◌, refl, ◌∙◌}
use Rattle.std.proofs.lemmas.Bool.{both_ways}
use Rattle.vcd_compare.specs.inside.Side.{at_hand}
use Rattle.vcd_compare.proofs.side.ReadOn.{reads_none, reads_then}
use Rattle.vcd_compare.proofs.side.Side.read_rest.Goals as goal

pub loop-self-init : goal.loop-self-init
loop-self-init g c = record {
  reads = λ coming state given at.
      (given, reads_none coming _ state given c.args.self.now at, λ ended. (ended, refl, refl));
  not_failed = c.requires.ready;
  factor = refl;
}

pub loop-self-preserved : goal.loop-self-preserved
loop-self-preserved g c =
    let now = c.loop-self.self in
    let l = c.loop-self.invariant in
    record {
      reads = λ coming state given at.
          let (taken, on, stays) = l.reads coming state given at in (
            taken ++ at_hand now,
            reads_then coming _ _ state (given ++ at_hand c.args.self.now) taken (taken ++ at_hand now) now
                c.read_chunk.new.self on (c.in_ok-read_chunk.ensures.reads coming on.later taken on.at),
            λ ended. absurd (both_ways _ c.loop-self-test.true (stays ended).0),
          );
      not_failed = c.in_ok-read_chunk.ensures.not_failed;
      factor = c.in_ok-read_chunk.ensures.factor ∙ l.factor;
    }
