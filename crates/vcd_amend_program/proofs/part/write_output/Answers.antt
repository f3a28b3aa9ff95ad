-- The output is a file, or standard output.
use Rattle.std.proofs.Common.{ap}
use Rattle.std.specs.Option.{option_copied}
use Rattle.vcd_amend_program.specs.CommandLine.{options_in}
use Rattle.vcd_amend_program.proofs.part.write_output.Goals as goal

pub returns-in-Some : goal.returns-in-Some
returns-in-Some g c = c.write_to_file.ensures (options_in c.args.part.now.job.options.now)
    c.requires.no_script (ap option_copied c.in-Some.is)

pub returns-in-None : goal.returns-in-None
returns-in-None g c = c.write_to_standard.ensures (options_in c.args.part.now.job.options.now)
    c.requires.no_script
