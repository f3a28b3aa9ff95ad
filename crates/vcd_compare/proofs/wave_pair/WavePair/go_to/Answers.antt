use Rattle.std.proofs.Common.{sym, ◌∙◌, arith, inr}
use Rattle.vcd_compare.proofs.wave_pair.WavePair.go_to.Goals as goal

pub returns-in_ok-settle-clause-found : goal.returns-in_ok-settle-clause-found
returns-in_ok-settle-clause-found g c wave other is has_a has_b =
    let at = c.args.self.now.tick in
    let later = c.if-tick-self.true in
    let now_a = has_a at (omega arith) later in
    let now_b = has_b at (omega arith) later in
    record {
      from = omega (arith, is.from, later);
      upto = inr (
        at,
        later,
        c.in_ok-settle.ensures.found wave other is (sym now_a) (sym now_b),
        (λ s from until. has_a s from until ∙ sym now_a),
        (λ s from until. has_b s from until ∙ sym now_b),
      );
    }
