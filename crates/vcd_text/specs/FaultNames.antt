-- The printed names of the faults: the project's own.
use Rattle.std.specs.Prelude.{ℕ, List, codes}
use Rattle.vcd_text.specs.declared.fault.Fault.{Fault}
use Rattle.vcd_text.specs.declared.fault.Fault.TheVariants as faults
use Rattle.vcd_text.specs.declared.fault.WriteError.{WriteError}
use Rattle.vcd_text.specs.declared.fault.WriteError.TheVariants as write_errors

-- the name of a fault of reading
abbrev pub fault_name : Fault → List ℕ
fault_name faults.Truncated = codes "Truncated"
fault_name faults.UnexpectedWord = codes "UnexpectedWord"
fault_name faults.BadTimescale = codes "BadTimescale"
fault_name faults.BadScope = codes "BadScope"
fault_name faults.UpscopeAtTop = codes "UpscopeAtTop"
fault_name faults.BadVar = codes "BadVar"
fault_name faults.MixedCode = codes "MixedCode"
fault_name faults.BadTime = codes "BadTime"
fault_name faults.TimeBackwards = codes "TimeBackwards"
fault_name faults.BadChange = codes "BadChange"
fault_name faults.UnknownCode = codes "UnknownCode"
fault_name faults.ValueTooLong = codes "ValueTooLong"
fault_name faults.TooManySignals = codes "TooManySignals"
fault_name faults.TooLarge = codes "TooLarge"
fault_name faults.ReadFault = codes "ReadFault"
fault_name faults.NoMemory = codes "NoMemory"

-- the name of a fault of writing
abbrev pub write_error_name : WriteError → List ℕ
write_error_name write_errors.NoMemory = codes "NoMemory"
write_error_name (write_errors.WriteFault written) = codes "WriteFault"
