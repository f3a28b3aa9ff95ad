-- The names of the faults of an edit. They are the project's own.
use Rattle.std.specs.Prelude.{ℕ, List, codes}
use Rattle.vcd_edit.specs.declared.fault.EditError.{EditError}
use Rattle.vcd_edit.specs.declared.fault.EditError.TheVariants.{NoSuchSignal, NotScalar, BadBit}
use Rattle.vcd_edit.specs.declared.fault.EditError.TheVariants.{BadRange, BadCount, BadValue}
use Rattle.vcd_edit.specs.declared.fault.EditError.TheVariants.{BadWord, NameTaken, TooManySignals}
use Rattle.vcd_edit.specs.declared.fault.EditError.TheVariants.{NoMemory}

-- the name that is printed for a refused edit; NoMemory is no reply, as a run ends there
abbrev pub edit_error_name : EditError → List ℕ
edit_error_name NoSuchSignal = codes "NoSuchSignal"
edit_error_name NotScalar = codes "NotScalar"
edit_error_name BadBit = codes "BadBit"
edit_error_name BadRange = codes "BadRange"
edit_error_name BadCount = codes "BadCount"
edit_error_name BadValue = codes "BadValue"
edit_error_name BadWord = codes "BadWord"
edit_error_name NameTaken = codes "NameTaken"
edit_error_name TooManySignals = codes "TooManySignals"
edit_error_name NoMemory = codes "NoMemory"
