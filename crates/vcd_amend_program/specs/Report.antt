-- What the program reports of a file that was not amended. The statuses and lines are the project's
-- own.
use Rattle.std.specs.Prelude.{ℕ, List, codes, ◌++◌, decimal}
use Rattle.vcd_amend_run.specs.declared.running.AmendRunError.{AmendRunError}
use Rattle.vcd_amend_run.specs.declared.running.AmendRunError.TheVariants as run_errors
use Rattle.vcd_part.specs.declared.request.Refusal.{Refusal}
use Rattle.vcd_part.specs.declared.request.Refusal.TheVariants as refusals
use Rattle.vcd_shell.specs.Report.{report_of}
use Rattle.vcd_script_shell.specs.RunReport.{run_error_report, run_error_status}
use Rattle.vcd_devices.specs.declared.safe_file.OutputFault.{OutputFault}
use Rattle.vcd_devices.specs.declared.safe_file.OutputFault.TheVariants as output_faults
use Rattle.vcd_devices.specs.declared.verify_fault.VerifyFault.{VerifyFault}
use Rattle.vcd_devices.specs.declared.verify_fault.VerifyFault.TheVariants as verify_faults
use Rattle.vcd_amend_program.specs.declared.amend_error.PartFault.{PartFault}
use Rattle.vcd_amend_program.specs.declared.amend_error.PartFault.TheVariants as faults
use Rattle.vcd_amend_program.specs.declared.amend_error.AmendError.{AmendError}
use Rattle.vcd_amend_program.specs.declared.amend_error.AmendError.TheVariants as errors

-- the exit status of a run that was not completed
abbrev pub run_status : AmendRunError → ℕ
run_status (run_errors.Run e) = run_error_status e
run_status run_errors.NameOfSkipped = 1
run_status run_errors.LineRefused = 1
run_status run_errors.CaptureChanged = 4

-- the exit status if no part was taken
abbrev pub part_status : PartFault → ℕ
part_status faults.BadFrom = 2
part_status faults.BadTo = 2
part_status (faults.Refused refusal) = 1
part_status (faults.PastEnd end) = 1
part_status faults.NoFile = 4

-- the exit status for a file of the output
abbrev pub output_status : OutputFault → ℕ
output_status output_faults.NoMemory = 5
output_status _ = 4

-- the exit status if a marked file is not what its mark says
abbrev pub verify_status : VerifyFault → ℕ
verify_status verify_faults.NotRead = 4
verify_status verify_faults.NoMemory = 5
verify_status _ = 1

-- the exit status of a file that was not amended
abbrev pub error_status : AmendError → ℕ
error_status errors.TwoCaptures = 2
error_status errors.NoCapture = 2
error_status errors.NotAFile = 4
error_status errors.NothingToMark = 2
error_status errors.MoreThanVerify = 2
error_status (errors.Part fault) = part_status fault
error_status (errors.Run e) = run_status e
error_status (errors.Output fault) = output_status fault
error_status (errors.Verify fault) = verify_status fault

-- the line of a text, after the program's name
abbrev pub own_report : List ℕ → List ℕ
own_report = report_of (codes "vcdedit-amend")

-- what the line says for a file of the output
abbrev pub output_text : OutputFault → List ℕ
output_text output_faults.Protected = codes "OutputProtected: the output is write-protected"
output_text output_faults.IsInput =
    codes "OutputIsInput: the output is the script, or a file that is read"
output_text output_faults.InUse =
    codes "OutputInUse: another run writes the output; if none does, remove .NAME.vcdedit"
output_text output_faults.CaptureChanged =
    codes "CaptureChanged: the capture was changed while it was read"
output_text output_faults.Failed = codes "output: write fault"
output_text output_faults.NoMemory = codes "out of memory"

-- the line for a file of the output
abbrev pub output_report : OutputFault → List ℕ
output_report fault = own_report (output_text fault)

-- what the line says of a marked file that is not what its mark says
abbrev pub verify_text : VerifyFault → List ℕ
verify_text verify_faults.NoMark = codes "NoMark: the file of --verify has no mark"
verify_text verify_faults.OtherCapture =
    codes "OtherCapture: the mark names another size or SHA-256"
verify_text (verify_faults.Differs same) =
    codes "Differs: the file of --verify differs after byte "
verify_text (verify_faults.EndsEarly same) =
    codes "EndsEarly: the file of --verify ends after byte "
verify_text (verify_faults.GoesOn same) =
    codes "GoesOn: the file of --verify goes on after byte "
verify_text verify_faults.NotRead =
    codes "NotVerified: the file of --verify can't be read twice"
verify_text verify_faults.NoMemory = codes "out of memory"

-- the line for such a file, with how many bytes are the same
abbrev pub verify_report : VerifyFault → List ℕ
verify_report (verify_faults.Differs same) =
    own_report (verify_text (verify_faults.Differs same) ++ decimal same)
verify_report (verify_faults.EndsEarly same) =
    own_report (verify_text (verify_faults.EndsEarly same) ++ decimal same)
verify_report (verify_faults.GoesOn same) =
    own_report (verify_text (verify_faults.GoesOn same) ++ decimal same)
verify_report fault = own_report (verify_text fault)

-- the line on standard error of a run that was not completed
abbrev pub run_text : AmendRunError → List ℕ
run_text (run_errors.Run e) = run_error_report (codes "vcdedit-amend") e
run_text run_errors.NameOfSkipped = own_report
    (codes "NameOfSkipped: a signal would get the full name of a variable that is not edited")
run_text run_errors.LineRefused =
    own_report (codes "LineRefused: a line was refused, and so nothing is written")
run_text run_errors.CaptureChanged =
    own_report (codes "CaptureChanged: the capture was changed while it was read")

-- the name of a refusal of a part, and what it means
abbrev pub refusal_text : Refusal → List ℕ
refusal_text refusals.UnmetPattern = codes "UnmetPattern: a pattern matches no variable's full name"
refusal_text refusals.NoVariableLeft = codes "NoVariableLeft: no variable would be kept"
refusal_text refusals.FromIsNoWholeTick =
    codes "FromIsNoWholeTick: --from is no whole tick, or the capture has no timescale"
refusal_text refusals.ToIsNoWholeTick =
    codes "ToIsNoWholeTick: --to is no whole tick, or the capture has no timescale"
refusal_text refusals.WindowBackwards = codes "WindowBackwards: --to is before --from"

-- the line on standard error if no part was taken
abbrev pub part_text : PartFault → List ℕ
part_text faults.BadFrom =
    own_report (codes "BadFrom: after --from comes a time, such as 1500, 20us or 1.5ms")
part_text faults.BadTo =
    own_report (codes "BadTo: after --to comes a time, such as 1500, 20us or 1.5ms")
part_text (faults.Refused refusal) = own_report (refusal_text refusal)
part_text (faults.PastEnd end) =
    own_report (codes "WindowPastEnd: --from is past the last tick, which is " ++ decimal end)
part_text faults.NoFile = own_report
    (codes "NoPartFile: the part can't be held in a file; TMPDIR names the folder, or else /tmp")

-- the line on standard error of a file that was not amended
abbrev pub error_text : AmendError → List ℕ
error_text errors.TwoCaptures = own_report (codes "TwoCaptures: name the capture once")
error_text errors.NoCapture =
    own_report (codes "NoCapture: name a file as the capture; it is read several times")
error_text errors.NotAFile = own_report
    (codes "NotAFile: the capture is no regular file, and so it can't be read several times")
error_text errors.NothingToMark =
    own_report (codes "NothingToMark: --mark marks the output; name its file after -o")
error_text errors.MoreThanVerify = own_report
    (codes "MoreThanVerify: with --verify comes the capture alone; the mark says the rest")
error_text (errors.Part fault) = part_text fault
error_text (errors.Run e) = run_text e
error_text (errors.Output fault) = output_report fault
error_text (errors.Verify fault) = verify_report fault
