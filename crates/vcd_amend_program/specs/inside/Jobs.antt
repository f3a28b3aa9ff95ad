-- What a run needs of its options, and of its job.
use Rattle.std.specs.Prelude.{◌≤◌}
use Rattle.vcd_journal.specs.declared.step.TheConstants.{DEPTH_LIMIT}
use Rattle.vcd_amend_run.specs.declared.running.RunOptions.{RunOptions}
use Rattle.vcd_amend_program.specs.CommandLine.{AskedOptions, options_in}
use Rattle.vcd_amend_program.specs.ProgramEnds.{IsAskedRun}
use Rattle.vcd_amend_program.specs.declared.command_line.Options.{Options}
use Rattle.vcd_amend_program.specs.declared.job.Job.{Job}

-- the depth is in its range
pub record HasDepth (o : Options) : Type 0 where
  pub least : 1 ≤ o.depth
  pub most : o.depth ≤ DEPTH_LIMIT

-- a run as these options ask for it, with a depth in its range
pub record IsReadyRun (o : AskedOptions) (run : RunOptions) : Type 0 where
  pub least : 1 ≤ run.depth
  pub most : run.depth ≤ DEPTH_LIMIT
  pub asked : IsAskedRun o run

-- the run of a job is the one that its options ask for
abbrev pub IsReady : Job → Type 0
IsReady job = IsReadyRun (options_in job.options.now) job.run
