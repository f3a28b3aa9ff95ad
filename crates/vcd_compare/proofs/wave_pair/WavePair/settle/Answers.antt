use Rattle.std.proofs.Common.{◌≡◌, sym, ap, ◌∙◌, subst, arith, inl, inr}
use Rattle.vcd_compare.specs.inside.WavePair.{HasFound}
use Rattle.vcd_compare.proofs.wave_pair.WavePair.settle.Goals as goal

pub returns-then-self-bounds-clause-found : goal.returns-then-self-bounds-clause-found
returns-then-self-bounds-clause-found g c wave other is is_a is_b =
    let first = c.args.bounds.first in
    let at : first ≡ c.args.self.now.tick = omega (arith, is.from, c.if-self-bounds.true) in
    subst (λ t. HasFound g.V.PartialEq.eq c.args.bounds.tolerance wave other first t c.in_ok-self.field-0) at
    (c.in_ok-self.ensures wave other (is_a ∙ ap wave (sym at)) (is_b ∙ ap other (sym at)))

pub returns-clause-found : goal.returns-clause-found
returns-clause-found g c wave other is is_a is_b =
    elim is.upto [
      | inl first ↦ absurd (omega (arith, first, c.if-self-bounds.false))
      | inr (t, before, found, keep_a, keep_b) ↦
          c.in_ok-change.ensures c.args.bounds.tolerance wave other c.args.bounds.first t before found keep_a keep_b
          is_a is_b
    ]
