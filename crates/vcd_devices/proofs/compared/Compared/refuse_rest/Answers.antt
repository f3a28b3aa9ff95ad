use Rattle.std.proofs.Common.{◌≡◌, ◌<◌, is_some, false, length, rules, arith}
use Rattle.vcd_devices.proofs.compared.ShownBytes.{nothing_left, shown_last}
use Rattle.vcd_devices.proofs.compared.Compared.refuse_rest.Goals as goal

pub returns-in-Ok-eq0-clause-whole : goal.returns-in-Ok-eq0-clause-whole
returns-in-Ok-eq0-clause-whole g c =
    let free : is_some c.args.self.now.fault ≡ false = search rules in
    let none = c.in-Ok-eq0.field-0-test in
    let room : 0 < length c.read.new.buffer = omega (arith, c.read.auto.buffer) in
    let end = c.in-Ok-eq0.ensures.bytes.1 none room in
    rw free
    (shown_last _ _
    (nothing_left _ _ c.in-Ok-eq0.field-0 c.read.new.buffer none c.in-Ok-eq0.ensures.bytes.0 end))
