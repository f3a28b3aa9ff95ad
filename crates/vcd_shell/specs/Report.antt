-- What a program reports of the faults that each may meet. The statuses and the lines are the
-- project's own.
use Rattle.std.specs.Prelude.{◌≡◌, ◌⊎◌, ℕ, Bool, true, false, List, [], ◌++◌, codes}
use Rattle.std.specs.Prelude.{decimal, Option}
use Rattle.std.specs.Io.KnownBytes.{Appends}
use Rattle.vcd_text.specs.FaultNames.{fault_name}
use Rattle.vcd_text.specs.declared.fault.Fault.{Fault}
use Rattle.vcd_text.specs.declared.fault.Fault.TheVariants as faults
use Rattle.vcd_text.specs.declared.fault.WriteError.{WriteError}
use Rattle.vcd_text.specs.declared.fault.WriteError.TheVariants as write_errors

-- ---- statuses

-- the exit status for a fault of the capture: 3 for its text, 4 for its source, 5 if memory ran out
abbrev pub capture_status : Fault → ℕ
capture_status faults.ReadFault = 4
capture_status faults.NoMemory = 5
capture_status _ = 3

-- the exit status for a fault of the output
abbrev pub write_status : WriteError → ℕ
write_status write_errors.NoMemory = 5
write_status (write_errors.WriteFault written) = 4

-- ---- lines

-- the line of a text, after the name of the program
abbrev pub report_of : (program text : List ℕ) → List ℕ
report_of program text = program ++ codes ": " ++ text ++ codes "\n"

-- the line if memory ran out, at any place
abbrev pub out_of_memory_report : (program : List ℕ) → List ℕ
out_of_memory_report program = report_of program (codes "out of memory")

-- the line for a fault at a line of the capture
abbrev pub capture_line_report : (program : List ℕ) → Fault → ℕ → List ℕ
capture_line_report program fault line = program ++ codes ": capture line " ++ decimal line
    ++ codes ": " ++ fault_name fault ++ codes "\n"

-- the line for a fault of the capture
abbrev pub capture_report : (program : List ℕ) → Fault → ℕ → List ℕ
capture_report program faults.ReadFault line = report_of program (codes "capture: read fault")
capture_report program faults.NoMemory line = out_of_memory_report program
capture_report program fault line = capture_line_report program fault line

-- the line for a fault of the output
abbrev pub write_report : (program : List ℕ) → WriteError → List ℕ
write_report program write_errors.NoMemory = out_of_memory_report program
write_report program (write_errors.WriteFault written) =
    report_of program (codes "output: write fault")

-- a writer that has not failed took this text, and was flushed after it
abbrev pub IsReported : (has_failed is_flushed : Bool) → (before after : Option (List ℕ))
    → (text : List ℕ) → Type 0
IsReported has_failed is_flushed before after text =
    has_failed ≡ false → Appends before after text × (is_flushed ≡ true)

-- the same of a text that may be empty: then the writer need not be flushed
abbrev pub IsTold : (has_failed is_flushed : Bool) → (before after : Option (List ℕ))
    → (text : List ℕ) → Type 0
IsTold has_failed is_flushed before after text =
    has_failed ≡ false → Appends before after text × ((text ≡ []) ⊎ (is_flushed ≡ true))
