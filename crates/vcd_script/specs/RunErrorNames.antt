-- The names that are printed for why a run did not reach its end. They are the project's own.
use Rattle.std.specs.Prelude.{ℕ, List, codes}
use Rattle.vcd_text.specs.FaultNames.{fault_name, write_error_name}
use Rattle.vcd_script.specs.declared.running.run_error.RunError.{RunError}
use Rattle.vcd_script.specs.declared.running.run_error.RunError.TheVariants as run_errors
use Rattle.vcd_script.specs.declared.running.run_on_bytes.RunRefusal.{RunRefusal}
use Rattle.vcd_script.specs.declared.running.run_on_bytes.RunRefusal.TheVariants as refusals

-- the name of a run's error; a fault of the capture or the output has its own name
abbrev pub run_error_name : RunError → List ℕ
run_error_name (run_errors.Capture e) = fault_name e.fault
run_error_name run_errors.ScriptTooLarge = codes "ScriptTooLarge"
run_error_name run_errors.ScriptReadFault = codes "ScriptReadFault"
run_error_name (run_errors.NoMemory line) = codes "NoMemory"
run_error_name (run_errors.ReplyFault written) = codes "ReplyFault"
run_error_name (run_errors.Write e) = write_error_name e

-- the name of why a run over bytes did not reach its end
abbrev pub run_refusal_name : RunRefusal → List ℕ
run_refusal_name (refusals.Capture e) = fault_name e.fault
run_refusal_name refusals.ScriptTooLarge = codes "ScriptTooLarge"
run_refusal_name (refusals.NoMemory stage replies) = codes "NoMemory"
