-- The line ends with the sum.
use Rattle.std.proofs.Common.{◌≡◌, string_bytes, rules}
use Rattle.vcd_amend_program.specs.inside.Comparisons.{sum_text}
use Rattle.vcd_amend_program.proofs.verify.AskedByMarks.{ends_so}
use Rattle.vcd_amend_program.proofs.verify.name_before_sum.Goals as goal

pub returns-clause-name : goal.returns-clause-name
returns-clause-name c =
    let text : c.as_slice.result.now ≡ sum_text c.args.found.now.size (string_bytes c.args.found.now.digest)
    = search rules in
    ends_so c.args.read.now c.in-Some.name.now c.as_slice.result.now _ c.in-Some.ensures.cases.0
    c.in-Some.ensures.cases.1 text
