-- The report is written, or not whole; or there is none.
use Rattle.std.proofs.Common.{refl}
use Rattle.vcd_core.specs.Devices.{device_end}
use Rattle.vcd_compare.specs.declared.comparison.CompareError.TheVariants as errors
use Rattle.vcd_compare_program.proofs.reporting.Ends.{not_compared, out_of_memory, written}
use Rattle.vcd_compare_program.proofs.reporting.report_comparison.Goals as goal

pub returns-in_err-comparison-clause-ends : goal.returns-in_err-comparison-clause-ends
returns-in_err-comparison-clause-ends g c =
    let first = device_end g.A.Source.coming g.A.Source.has_failed c.args.first.now c.compare.new.first in
    let second = device_end g.B.Source.coming g.B.Source.has_failed c.args.second.now c.compare.new.second in
    let out = device_end g.W.Sink.taken g.W.Sink.has_failed c.args.output.now c.args.output.now in
    not_compared c.args.asked.now first second out c.from_residual.result c.in_err-comparison.field-0.0
    c.from_residual.ensures.1 (refl, c.requires.output_ready) c.in_err-comparison.ensures.answer

pub returns-in_err-report-clause-ends : goal.returns-in_err-report-clause-ends
returns-in_err-report-clause-ends g c =
    let first = device_end g.A.Source.coming g.A.Source.has_failed c.args.first.now c.compare.new.first in
    let second = device_end g.B.Source.coming g.B.Source.has_failed c.args.second.now c.compare.new.second in
    let out = device_end g.W.Sink.taken g.W.Sink.has_failed c.args.output.now c.args.output.now in
    not_compared c.args.asked.now first second out c.from_residual-in_err-report.result errors.NoMemory
    c.from_residual-in_err-report.ensures.1 (refl, c.requires.output_ready)
    (out_of_memory c.args.asked.now first second)

pub returns-clause-ends : goal.returns-clause-ends
returns-clause-ends g c =
    let first = device_end g.A.Source.coming g.A.Source.has_failed c.args.first.now c.compare.new.first in
    let second = device_end g.B.Source.coming g.B.Source.has_failed c.args.second.now c.compare.new.second in
    let out = device_end g.W.Sink.taken g.W.Sink.has_failed c.args.output.now c.write_report.new.output in
    written c.args.asked.now first second out c.in_ok-comparison.comparison c.in_ok-report.report
    c.in_ok-report.ensures c.in_ok-comparison.ensures.answer c.write_report.result c.write_report.ensures.written
