-- The output is at the path that is asked for.
use Rattle.vcd_amend_program.proofs.program.run_to_output.Goals as goal

pub returns-in_ok-file-in-Some : goal.returns-in_ok-file-in-Some
returns-in_ok-file-in-Some g c = rw c.in-Some.is (c.run_to_file.ensures c.in-Some.path.now)
