-- Why a run over bytes did not reach its end, by the error of the run.
use Rattle.std.specs.Prelude.{ℕ, zero, suc, if◌then◌else◌}
use Rattle.std.specs.Global.{Vec}
use Rattle.vcd_text.specs.inside.reading.Parser.{is_no_memory}
use Rattle.vcd_script.specs.declared.running.run_error.RunError.{RunError}
use Rattle.vcd_script.specs.declared.running.run_error.RunError.TheVariants as run_errors
use Rattle.vcd_script.specs.declared.running.run_on_bytes.RunRefusal.{RunRefusal}
use Rattle.vcd_script.specs.declared.running.run_on_bytes.RunRefusal.TheVariants.{Capture}
use Rattle.vcd_script.specs.declared.running.run_on_bytes.RunRefusal.TheVariants.{ScriptTooLarge}
use Rattle.vcd_script.specs.declared.running.run_on_bytes.RunRefusal.TheVariants.{NoMemory}
use Rattle.vcd_script.specs.declared.running.run_on_bytes.Stage.{Stage}
use Rattle.vcd_script.specs.declared.running.run_on_bytes.Stage.TheVariants.{Inputs, Line, Replies}
use Rattle.vcd_script.specs.declared.running.run_on_bytes.Stage.TheVariants.{Output}

-- the stage at a line of the script; line 0 stands for the inputs
abbrev pub stage_of_line : ℕ → Stage
stage_of_line zero = Inputs
stage_of_line (suc before) = Line (suc before)

-- the refusal for an error, with the replies that were written, or `empty` if they may be cut
-- anywhere; a device in memory fails for memory alone
abbrev pub run_refusal : RunError → (replies empty : Vec ℕ) → RunRefusal
run_refusal (run_errors.Capture e) replies empty =
    if is_no_memory e.fault then NoMemory Inputs empty
    else Capture e
run_refusal run_errors.ScriptTooLarge replies empty = ScriptTooLarge
run_refusal (run_errors.NoMemory line) replies empty = NoMemory (stage_of_line line) replies
run_refusal (run_errors.Write e) replies empty = NoMemory Output replies
run_refusal e replies empty = NoMemory Replies empty
