-- How a run ends that the words of the command line ask for. The rules are the project's own.
use Rattle.std.specs.Prelude.{◌≡◌, ◌⊎◌, ℕ, false, Option, Some, None, IsSome, is_some}
use Rattle.std.specs.Prelude.{Result, Err}
use Rattle.vcd_core.specs.Devices.{DeviceEnd}
use Rattle.vcd_text.specs.declared.fault.Fault.TheVariants as faults
use Rattle.vcd_script.specs.declared.running.run_error.RunError.{RunError}
use Rattle.vcd_script.specs.declared.running.run_error.RunError.TheVariants as run_errors
use Rattle.vcd_script.specs.declared.running.run_error.Summary.{Summary}
use Rattle.vcd_script_shell.specs.ScriptOptions.{default_script}
use Rattle.vcdedit.specs.CommandLine.{AskedOptions}
use Rattle.vcd_script.specs.RunEnds.{RunEnds}

-- why a run with these options does not begin: the capture can't be opened, or the script, if one
-- is asked for; or there is no memory for the buffer of the replies
abbrev pub IsFaultBeforeRun : AskedOptions → RunError → Type 0
IsFaultBeforeRun options e =
    (e ≡ run_errors.Capture (record { line = 1; fault = faults.ReadFault }))
    ⊎ ((e ≡ run_errors.ScriptReadFault) × IsSome options.script)
    ⊎ (e ≡ run_errors.NoMemory 0)

-- the outcome is that of a run on these sources; it writes the output if there is a path
abbrev pub IsOutcomeOn : {P : Type 0} → (path : Option P) → Result Summary RunError → (depth : ℕ)
    → (capture script : DeviceEnd) → Type 0
IsOutcomeOn path outcome depth capture script = (replies : DeviceEnd) × (output : Option DeviceEnd)
    × (is_some output ≡ is_some path) × RunEnds depth capture script replies output outcome

-- the outcome is that of a run with these options, or the run does not begin; without a path the
-- script has the bytes of the default, and does not fail
abbrev pub IsOutcomeOfOptions : AskedOptions → Result Summary RunError → Type 0
IsOutcomeOfOptions options outcome = ((e : RunError) × IsFaultBeforeRun options e
    × (outcome ≡ Err e))
    ⊎ ((capture : DeviceEnd) × (script : DeviceEnd)
    × (options.script ≡ None → (script.before ≡ Some default_script) × (script.has_failed ≡ false))
    × IsOutcomeOn options.output outcome options.depth capture script)
