-- A worked case: the sum of a file.
use Rattle.std.proofs.Common.{◌≡◌, ◌+◌, ◌*◌, ◌∷◌, [], refl}
use Rattle.vcd_devices.specs.Sums.{sum_of}
use Rattle.vcd_devices.specs.declared.summed.TheConstants.{FACTOR}

pub of_two_bytes : sum_of (3 ∷ 5 ∷ []) ≡ FACTOR * FACTOR + 3 * FACTOR + 5
of_two_bytes = refl
