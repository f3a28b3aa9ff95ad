-- Nothing follows the text.
use Rattle.std.proofs.Common.{append-nil, subst, ap}
use Rattle.std.specs.Io.KnownBytes.{Appends}
use Rattle.vcd_shell.specs.Report.{report_of}
use Rattle.vcd_shell.proofs.reporting.report.Goals as goal

pub returns : goal.returns
returns g c = λ works.
    let both = c.report_with.ensures works in
    (subst (Appends _ _) (ap (report_of c.args.program.now) (append-nil c.args.text.now)) both.0, both.1)
