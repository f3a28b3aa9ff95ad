-- The result of reading a line.
use Rattle.std.specs.Prelude.{◌≡◌, ℕ, List, length, Result, Ok, Err}
use Rattle.vcd_core.specs.Contents.{Contents}
use Rattle.vcd_script.specs.CommandSignals.{HasCommandSignals}
use Rattle.vcd_script.specs.declared.script.command.Command.{Command}
use Rattle.vcd_script.specs.declared.script.line_error.LineError.{LineError}
use Rattle.vcd_script.specs.declared.script.line_error.LineError.TheVariants.{WrongCount}
use Rattle.vcd_script.specs.declared.script.keyword.Keyword.{Keyword}
use Rattle.vcd_script.specs.ScriptCommands.{command_of}
use Rattle.vcd_script.specs.WithoutAddress.{command_without_address}

-- this fault says that there are not `count` words
abbrev pub IsWrongCount : (count : ℕ) → List (List ℕ) → LineError → Type 0
IsWrongCount count words e = (e ≡ WrongCount) × (length words ≡ count → ⊥)

-- the result is the expected command, whose signals the capture has, or the expected fault
abbrev pub ReadsAs : Contents → Result Command LineError → Result Command LineError → Type 0
ReadsAs c wanted (Ok command) = (wanted ≡ Ok (command_without_address command))
    × HasCommandSignals c command
ReadsAs c wanted (Err found) = wanted ≡ Err found

-- the same for the words after this keyword
abbrev pub ReadsCommand : Contents → Keyword → List (List ℕ) → Result Command LineError → Type 0
ReadsCommand c keyword words result = ReadsAs c (command_of c keyword words) result
