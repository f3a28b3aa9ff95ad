-- What a program reports of a run of a script. The statuses and the lines are the project's own.
use Rattle.std.specs.Prelude.{ℕ, List, [], codes, ◌==◌, if◌then◌else◌, Result, Ok, Err}
use Rattle.vcd_script.specs.declared.running.run_error.RunError.{RunError}
use Rattle.vcd_script.specs.declared.running.run_error.RunError.TheVariants as run_errors
use Rattle.vcd_script.specs.declared.running.run_error.Summary.{Summary}
use Rattle.vcd_shell.specs.Report.{capture_report, capture_status, out_of_memory_report}
use Rattle.vcd_shell.specs.Report.{report_of, write_report, write_status}

-- the exit status of a completed run: 1 if lines of the script were refused
abbrev pub done_status : ℕ → ℕ
done_status refused = if refused == 0 then 0 else 1

-- the exit status of a run that failed
abbrev pub run_error_status : RunError → ℕ
run_error_status (run_errors.Capture e) = capture_status e.fault
run_error_status run_errors.ScriptTooLarge = 3
run_error_status run_errors.ScriptReadFault = 4
run_error_status (run_errors.NoMemory line) = 5
run_error_status (run_errors.ReplyFault written) = 4
run_error_status (run_errors.Write e) = write_status e

-- the exit status of a run, by that of errors
abbrev pub outcome_status : {E : Type 0} → (status : E → ℕ) → Result Summary E → ℕ
outcome_status status (Ok summary) = done_status summary.refused
outcome_status status (Err e) = status e

-- the line for a run that failed
abbrev pub run_error_report : (program : List ℕ) → RunError → List ℕ
run_error_report program (run_errors.Capture e) = capture_report program e.fault e.line
run_error_report program run_errors.ScriptTooLarge = report_of program (codes "script: too large")
run_error_report program run_errors.ScriptReadFault = report_of program (codes "script: read fault")
run_error_report program (run_errors.NoMemory line) = out_of_memory_report program
run_error_report program (run_errors.ReplyFault written) =
    report_of program (codes "replies: write fault")
run_error_report program (run_errors.Write e) = write_report program e

-- the text of a run, by that of errors: none if it was completed
abbrev pub outcome_text : {E : Type 0} → (text : E → List ℕ) → Result Summary E → List ℕ
outcome_text text (Ok summary) = []
outcome_text text (Err e) = text e
