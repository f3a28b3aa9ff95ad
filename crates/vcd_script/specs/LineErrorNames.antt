-- The names that are printed for lines that are no command. They are the project's own.
use Rattle.std.specs.Prelude.{ℕ, List, codes}
use Rattle.vcd_decode.specs.SetupErrorNames.{setup_error_name}
use Rattle.vcd_script.specs.declared.script.line_error.LineError.{LineError}
use Rattle.vcd_script.specs.declared.script.line_error.LineError.TheVariants as lines

-- the name that is printed for a line that is no command
abbrev pub line_error_name : LineError → List ℕ
line_error_name lines.UnknownCommand = codes "UnknownCommand"
line_error_name lines.WrongCount = codes "WrongCount"
line_error_name lines.BadNumber = codes "BadNumber"
line_error_name lines.NoSuchName = codes "NoSuchName"
line_error_name lines.BadValueText = codes "BadValueText"
line_error_name lines.BadOption = codes "BadOption"
line_error_name lines.NotScalar = codes "NotScalar"
line_error_name (lines.Setup fault) = setup_error_name fault
