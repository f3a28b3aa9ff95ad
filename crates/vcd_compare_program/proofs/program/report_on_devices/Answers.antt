-- The report of a run on these devices.
use Rattle.std.proofs.Common.{inr}
use Rattle.vcd_core.specs.Devices.{device_end}
use Rattle.vcd_compare_program.proofs.program.report_on_devices.Goals as goal

pub returns : goal.returns
returns g c =
    let first = device_end g.A.Source.coming g.A.Source.has_failed c.args.first.now c.report_comparison.new.first in
    let second = device_end g.B.Source.coming g.B.Source.has_failed c.args.second.now c.report_comparison.new.second in
    let out = device_end g.W.Sink.taken g.W.Sink.has_failed c.args.output.now c.report_comparison.new.output in
    inr (inr (first, second, out, c.report_comparison.ensures.ends))
