-- The part is held and the script carried out on it, or an error ends it.
use Rattle.vcd_amend_program.specs.CommandLine.{options_in}
use Rattle.vcd_amend_program.proofs.part.Outcomes.{carried_out, ends_with, no_file, refused_on_file}
use Rattle.vcd_amend_program.proofs.part.run_on_part.Goals as goal

pub returns-in_err-held : goal.returns-in_err-held
returns-in_err-held g c =
    let o = options_in c.args.part.now.job.options.now in
    ends_with o c.args.part.now.request c.from_residual.result c.in_err-held.field-0.0
    c.from_residual.ensures.1 (no_file o c.args.part.now.request _ c.in_err-held.ensures)

pub returns : goal.returns
returns g c =
    let (capture, out, taken) = c.in-Err.ensures in
    refused_on_file (options_in c.args.part.now.job.options.now) c.args.part.now.request capture out _ _
    c.on_part_file.ensures taken

pub returns-in-Ok : goal.returns-in-Ok
returns-in-Ok g c =
    let (capture, out, taken) = c.in-Ok.ensures in
    carried_out (options_in c.args.part.now.job.options.now) c.args.part.now.request capture out _ _ taken
    c.requires.held c.run_on_file_of.ensures
