use Rattle.std.proofs.Common.{◌+◌, sym, ◌∙◌, arith}
use Rattle.vcd_compare.specs.inside.WaveComparison.{KeepsUntil}
use Rattle.vcd_compare.proofs.wave_pair.WavePair.finish.Goals as goal

pub returns : goal.returns
returns g c small wave other upto is has_a has_b =
    let at = c.args.self.tick in
    let first = c.args.bounds.first in
    let now_a = has_a at (omega arith) (omega arith) in
    let now_b = has_b at (omega arith) (omega arith) in
    let keep_a : KeepsUntil wave at (c.args.last + 1) = λ s from until. has_a s from until ∙ sym now_a in
    let keep_b : KeepsUntil other at (c.args.last + 1) = λ s from until. has_b s from until ∙ sym now_b in
    let found = c.in_ok-settle.ensures.found wave other is (sym now_a) (sym now_b) in (
      c.finish.ensures.differences wave other first at upto small found keep_a keep_b,
      c.finish.ensures.short_run wave other first at upto found keep_a keep_b,
    )
