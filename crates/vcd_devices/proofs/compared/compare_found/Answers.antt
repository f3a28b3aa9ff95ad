use Rattle.std.proofs.Common.{arith}
use Rattle.vcd_devices.proofs.compared.SameBytes.{all_same}
use Rattle.vcd_devices.proofs.compared.compare_found.Goals as goal

pub returns-clause-same : goal.returns-clause-same
returns-clause-same c = all_same c.args.bytes.now c.args.found.now
    (omega (arith, c.same_len-alike.ensures, c.if-alike-found.false))
