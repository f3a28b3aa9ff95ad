use Rattle.std.proofs.Common.{◌+◌, ◌*◌, ◌%◌, ◌^◌, refl, ap}
use Rattle.vcd_devices.specs.declared.summed.TheConstants.{FACTOR_OF_EIGHT}
use Rattle.vcd_devices.proofs.summed.EightBytes.{eight_after}
use Rattle.vcd_devices.proofs.summed.with_eight.Goals as goal

pub returns : goal.returns
returns c =
    eight_after c.args.sum _ _ c.args.eight.now c.ranges.sum.fits c.told-eight refl
    (ap (λ r. (c.args.sum * FACTOR_OF_EIGHT % 2 ^ 64 + r) % 2 ^ 64) c.with_bytes.ensures)
