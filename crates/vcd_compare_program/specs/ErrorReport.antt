-- What the program reports of words that it does not take, and of captures that were not compared.
-- The statuses and lines are the project's own.
use Rattle.std.specs.Prelude.{ℕ, ◌+◌, List, [], codes, ◌++◌, decimal, Result, Ok, Err}
use Rattle.vcd_text.specs.declared.fault.Fault.{Fault}
use Rattle.vcd_text.specs.declared.fault.Fault.TheVariants.{NoMemory}
use Rattle.vcd_shell.specs.Report.{report_of, capture_report, out_of_memory_report}
use Rattle.vcd_compare.specs.declared.comparison.CompareError.{CompareError}
use Rattle.vcd_compare.specs.declared.comparison.CompareError.TheVariants as errors
use Rattle.vcd_compare.specs.declared.request.CompareRefusal.{CompareRefusal}
use Rattle.vcd_compare.specs.declared.request.CompareRefusal.TheVariants as refusals
use Rattle.vcd_compare_program.specs.declared.reporting.Verdict.{Verdict}
use Rattle.vcd_compare_program.specs.declared.reporting.Verdict.TheVariants.{Same, Different}
use Rattle.vcd_compare_program.specs.declared.reporting.Verdict.TheVariants.{Partial}
use Rattle.vcd_compare_program.specs.declared.compare_fault.CompareFault.{CompareFault}
use Rattle.vcd_compare_program.specs.declared.compare_fault.CompareFault.TheVariants as faults
use Rattle.vcd_compare_program.specs.declared.compare_fault.WordFault.{WordFault}
use Rattle.vcd_compare_program.specs.declared.compare_fault.WordFault.TheVariants as words

-- ---- statuses

-- the exit status of what is found
abbrev pub verdict_status : Verdict → ℕ
verdict_status Same = 0
verdict_status Different = 1
verdict_status Partial = 3

-- the exit status of a capture that can't be read
abbrev pub read_error_status : Fault → ℕ
read_error_status NoMemory = 5
read_error_status fault = 2

-- the exit status of captures that can't be compared
abbrev pub error_status : CompareError → ℕ
error_status (errors.First e) = read_error_status e.fault
error_status (errors.Second e) = read_error_status e.fault
error_status (errors.Refused refusal) = 2
error_status errors.NoMemory = 5

-- the exit status of a run without a whole report
abbrev pub fault_status : CompareFault → ℕ
fault_status (faults.Words fault) = 2
fault_status (faults.Compare e) = error_status e
fault_status faults.NotWritten = 4

-- the exit status
abbrev pub outcome_status : Result Verdict CompareFault → ℕ
outcome_status (Ok verdict) = verdict_status verdict
outcome_status (Err fault) = fault_status fault

-- ---- lines

-- the line of a text, after the program's name
abbrev pub own_report : List ℕ → List ℕ
own_report = report_of (codes "vcdedit-compare")

-- what the line says of words that are not taken
abbrev pub word_text : WordFault → List ℕ
word_text words.BothStandard = codes "BothStandard: one of the captures has to be a file"
word_text words.BadMap = codes "BadMap: after --map comes OLD=NEW, such as tb.dut=top"
word_text words.BadWithin =
    codes "BadWithin: after --within comes a time, such as 1500, 20us or 1.5ms"
word_text words.BadFrom = codes "BadFrom: after --from comes a time, such as 1500, 20us or 1.5ms"
word_text words.BadTo = codes "BadTo: after --to comes a time, such as 1500, 20us or 1.5ms"

-- the line on a request that does not match the captures; patterns and maps count from 1
abbrev pub refusal_line : CompareRefusal → List ℕ
refusal_line (refusals.UnmetPattern k) =
    own_report (codes "UnmetPattern: no full name matches --keep number " ++ decimal (k + 1))
refusal_line (refusals.UnmetMap k) =
    own_report (codes "UnmetMap: no full name of A fits --map number " ++ decimal (k + 1))
refusal_line refusals.ToleranceIsNoWholeTick = own_report (codes
    "ToleranceIsNoWholeTick: --within is no whole tick, or no capture has a timescale")
refusal_line refusals.FromIsNoWholeTick = own_report
    (codes "FromIsNoWholeTick: --from is no whole tick, or no capture has a timescale")
refusal_line refusals.ToIsNoWholeTick = own_report
    (codes "ToIsNoWholeTick: --to is no whole tick, or no capture has a timescale")
refusal_line refusals.NoTickLeft =
    own_report (codes "NoTickLeft: --from is past --to, or past the end of a capture")

-- the line on captures that can't be compared
abbrev pub error_text : CompareError → List ℕ
error_text (errors.First e) = capture_report (codes "vcdedit-compare: A") e.fault e.line
error_text (errors.Second e) = capture_report (codes "vcdedit-compare: B") e.fault e.line
error_text (errors.Refused refusal) = refusal_line refusal
error_text errors.NoMemory = out_of_memory_report (codes "vcdedit-compare")

-- the line on standard error of a run without a whole report
abbrev pub fault_text : CompareFault → List ℕ
fault_text (faults.Words fault) = own_report (word_text fault)
fault_text (faults.Compare e) = error_text e
fault_text faults.NotWritten = own_report (codes "output: write fault")

-- what standard error gets
abbrev pub outcome_text : Result Verdict CompareFault → List ℕ
outcome_text (Ok verdict) = []
outcome_text (Err fault) = fault_text fault
