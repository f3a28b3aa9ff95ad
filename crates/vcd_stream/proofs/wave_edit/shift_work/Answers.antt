use Rattle.std.proofs.Common.{◌≡◌, ℤ, pos, w64, ap, arith}
use Rattle.std.proofs.lemmas.Int.{ints, to_z-of_z}
use Rattle.vcd_stream.specs.Stages.{made_changes}
use Rattle.vcd_stream.specs.inside.WaveEdits.{shifted_changes}
use Rattle.vcd_stream.proofs.wave_edit.shift_work.Goals as goal

pub returns : goal.returns
unfolding made_changes
returns g c = λ width cs.
    let same : pos c.unsigned_abs-2.result ≡ c.args.by =
    omega (arith, ints, c.if-by-lt0.false, c.unsigned_abs-2.ensures.value, to_z-of_z w64 c.args.by c.ranges.by) in
    ap (λ (b : ℤ). shifted_changes b c.args.end (g.V.Letters.letters width c.args.x) cs) same
