use Rattle.std.proofs.Common.{◌≡◌, is_some, false, rules}
use Rattle.vcd_devices.proofs.compared.ShownBytes.{shown_grows}
use Rattle.vcd_devices.proofs.compared.ComparedSink.write.Goals as goal

pub returns-in-Ok-clause-bytes : goal.returns-in-Ok-clause-bytes
returns-in-Ok-clause-bytes g c =
    let free : is_some c.args.self.now.fault ≡ false = search rules in
    rw free (shown_grows _ _ _ _ c.in-Ok.ensures.same)
