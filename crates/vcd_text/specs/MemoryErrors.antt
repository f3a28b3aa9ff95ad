-- The error if memory runs out while a file is read.
use Rattle.vcd_text.specs.declared.fault.ReadError.{ReadError}
use Rattle.vcd_text.specs.declared.fault.Fault.TheVariants.{NoMemory}

-- the error, which has no line
abbrev pub memory_error : ReadError
memory_error = record { line = 0; fault = NoMemory }
