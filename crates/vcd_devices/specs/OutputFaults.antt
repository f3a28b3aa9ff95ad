-- What an error of an output is called: the project's own.
use Rattle.std.specs.IoError.{error_kind}
use Rattle.std.specs.declared.io.ErrorKind.{ErrorKind}
use Rattle.std.specs.declared.io.ErrorKind.TheVariants.{OutOfMemory}
use Rattle.vcd_replace.specs.declared.replace_error.ReplaceError.{ReplaceError}
use Rattle.vcd_replace.specs.declared.replace_error.ReplaceError.TheVariants as errors
use Rattle.vcd_devices.specs.declared.safe_file.OutputFault.{OutputFault}
use Rattle.vcd_devices.specs.declared.safe_file.OutputFault.TheVariants as faults

-- the fault for a reason of the system
abbrev pub fault_of_kind : ErrorKind → OutputFault
fault_of_kind OutOfMemory = faults.NoMemory
fault_of_kind _ = faults.Failed

-- the fault for an error
abbrev pub fault_of : ReplaceError → OutputFault
fault_of errors.Protected = faults.Protected
fault_of errors.IsInput = faults.IsInput
fault_of (errors.InUse folder) = faults.InUse
fault_of errors.CaptureChanged = faults.CaptureChanged
fault_of (errors.System error) = fault_of_kind (error_kind error)
