-- How a run ends that the words of the command line ask for. The rules are the project's own.
use Rattle.std.specs.Prelude.{◌≡◌, ◌⊎◌, ℕ, true, false, List, [], if◌then◌else◌}
use Rattle.std.specs.Prelude.{Option, Some, None, IsSome, is_some, Result, Ok, Err}
use Rattle.std.specs.Result.{MatchResult}
use Rattle.clap.specs.Words.{Text}
use Rattle.vcd_core.specs.Devices.{DeviceEnd}
use Rattle.vcd_text.specs.declared.fault.Fault.TheVariants as faults
use Rattle.vcd_script.specs.declared.running.run_error.RunError.TheVariants as run_errors
use Rattle.vcd_script.specs.declared.running.run_error.Summary.{Summary}
use Rattle.vcd_amend_run.specs.AmendRunEnds.{PassEnds}
use Rattle.vcd_amend_run.specs.MarkedRun.{MarkedRunEnds}
use Rattle.vcd_amend_run.specs.declared.running.RunOptions.{RunOptions}
use Rattle.vcd_amend_run.specs.TakenRemarks.{TakesRemarks}
use Rattle.vcd_amend_run.specs.declared.running.AmendRunError.{AmendRunError}
use Rattle.vcd_amend_run.specs.declared.running.AmendRunError.TheVariants as amend_run_errors
use Rattle.vcd_script_shell.specs.ScriptOptions.{default_script}
use Rattle.vcd_shell.specs.Opening.{names_file}
use Rattle.vcd_devices.specs.declared.safe_file.OutputFault.{OutputFault}
use Rattle.vcd_amend_program.specs.declared.amend_error.AmendError.{AmendError}
use Rattle.vcd_amend_program.specs.declared.amend_error.AmendError.TheVariants as errors
use Rattle.vcd_amend_program.specs.CommandLine.{AskedOptions, ask_for_part}

-- ---- the capture

-- the path of the file that this one names
abbrev pub named_file : Text → Result Text AmendError
named_file path = if names_file path then Ok path else Err errors.NoCapture

-- the path of the capture: it is named once, and is not standard input
abbrev pub capture_path : (input capture : Option Text) → Result Text AmendError
capture_path (Some input) (Some capture) = Err errors.TwoCaptures
capture_path (Some input) None = named_file input
capture_path None (Some capture) = named_file capture
capture_path None None = Err errors.NoCapture

-- the capture can't be opened or read
abbrev pub not_read : AmendError
not_read = errors.Run (amend_run_errors.Run
    (run_errors.Capture (record { line = 1; fault = faults.ReadFault })))

-- memory ran out before the run began
abbrev pub no_memory : AmendError
no_memory = errors.Run (amend_run_errors.Run (run_errors.NoMemory 0))

-- ---- how a run ends

-- the file of the output, which is asked for, can't be begun, or not be put in its place
abbrev pub IsOutputFault : (output : Option Text) → AmendError → Type 0
IsOutputFault output e = IsSome output × (fault : OutputFault) × (e ≡ errors.Output fault)

-- the passes over the capture were not over the same bytes, or one can't be read to its end
abbrev pub IsCaptureFault : AmendError → Type 0
IsCaptureFault e = (e ≡ errors.Run amend_run_errors.CaptureChanged) ⊎ (e ≡ not_read)

-- the outcome of a run that ended so: a completed one is kept, unless the capture was changed, or
-- the output can't be put in its place
abbrev pub IsOutcomeOfRun : (output : Option Text) → Result Summary AmendRunError
    → Result Summary AmendError → Type 0
IsOutcomeOfRun output (Ok summary) outcome = (outcome ≡ Ok summary) ⊎ ((e : AmendError)
    × (IsCaptureFault e ⊎ IsOutputFault output e) × (outcome ≡ Err e))
IsOutcomeOfRun output (Err e) outcome = outcome ≡ Err (errors.Run e)

-- why a run on these inputs does not begin: there is no memory for the buffer of the replies, or
-- the file of the output can't be begun
abbrev pub IsDeviceFault : (output : Option Text) → AmendError → Type 0
IsDeviceFault output e = (e ≡ no_memory) ⊎ IsOutputFault output e

-- the outcome is that of this run with this script on some capture, or the run does not begin; it
-- writes the output if there is a path
abbrev pub IsOutcomeOn : (output : Option Text) → RunOptions → Result Summary AmendError
    → (script : DeviceEnd) → Type 0
IsOutcomeOn output run outcome script =
    ((e : AmendError) × IsDeviceFault output e × (outcome ≡ Err e))
    ⊎ ((passes : PassEnds) × (replies remarks : DeviceEnd)
    × (written : Option DeviceEnd) × (is_some written ≡ is_some output)
    × (ended : Result Summary AmendRunError)
    × MarkedRunEnds run passes script replies written ended
    × TakesRemarks run.depth passes script remarks
    × IsOutcomeOfRun output ended outcome)

-- why the inputs can't be opened: the capture is no regular file, or it can't be opened; or the
-- script, if one is asked for; or there is no memory for what a mark says of the capture
abbrev pub IsInputFault : AskedOptions → AmendError → Type 0
IsInputFault o e = (e ≡ errors.NotAFile) ⊎ (e ≡ not_read)
    ⊎ ((e ≡ errors.Run (amend_run_errors.Run run_errors.ScriptReadFault)) × IsSome o.script)
    ⊎ ((e ≡ no_memory) × (o.is_marked ≡ true))

-- the script without a path: none for a part, and else the default
abbrev pub script_without_path : AskedOptions → List ℕ
script_without_path o = if ask_for_part o then [] else default_script

-- the run that these options ask for; there is a mark if one is asked for
pub record IsAskedRun (o : AskedOptions) (run : RunOptions) : Type 0 where
  pub depth : run.depth ≡ o.depth
  pub marked : is_some run.mark ≡ o.is_marked
  pub all_or_nothing : run.is_all_or_nothing ≡ o.is_all_or_nothing

-- the outcome is that of these options on a capture that is named as a file; without a path the
-- script does not fail
abbrev pub IsOutcomeOnFile : AskedOptions → Result Summary AmendError → Type 0
IsOutcomeOnFile o outcome = ((e : AmendError) × IsInputFault o e × (outcome ≡ Err e))
    ⊎ ((script : DeviceEnd)
    × (o.script ≡ None → (script.before ≡ Some (script_without_path o))
    × (script.has_failed ≡ false))
    × (run : RunOptions) × IsAskedRun o run × IsOutcomeOn o.output run outcome script)
