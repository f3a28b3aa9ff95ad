use Rattle.std.proofs.Common.{sym, ap, ◌∙◌}
use Rattle.vcd_compare.specs.inside.WavePair.{first_after, second_after}
use Rattle.vcd_compare.proofs.wave_pair.WavePair.change.Goals as goal

pub returns-in-First : goal.returns-in-First
returns-in-First g c = record {
  found = λ wave other is has_a has_b.
      let found = c.in_ok-go_to.ensures.found wave other is has_a has_b in
      record { from = found.from; upto = found.upto };
  tick_is = c.in_ok-go_to.ensures.tick;
  a = sym (ap (λ w. first_after w c.args.value c.args.self.now.a) c.in-First.is);
  b = c.in_ok-go_to.ensures.b ∙ sym (ap (λ w. second_after w c.args.value c.args.self.now.b) c.in-First.is);
}

pub returns-in-Second : goal.returns-in-Second
returns-in-Second g c = record {
  found = λ wave other is has_a has_b.
      let found = c.in_ok-go_to.ensures.found wave other is has_a has_b in
      record { from = found.from; upto = found.upto };
  tick_is = c.in_ok-go_to.ensures.tick;
  a = c.in_ok-go_to.ensures.a ∙ sym (ap (λ w. first_after w c.args.value c.args.self.now.a) c.in-Second.is);
  b = sym (ap (λ w. second_after w c.args.value c.args.self.now.b) c.in-Second.is);
}
