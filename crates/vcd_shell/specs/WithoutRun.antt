-- What words of the command line get that ask for no run: the project's own.
use Rattle.std.specs.Prelude.{◌≡◌, ◌≢◌, ◌⊎◌, ℕ, Bool, true, false, List, [], codes}
use Rattle.std.specs.String.{string_bytes}
use Rattle.clap.specs.Words.{Kinds, IsAmong}
use Rattle.clap.specs.declared.error.kind.ErrorKind.{ErrorKind}
use Rattle.clap.specs.declared.error.kind.ErrorKind.TheVariants.{DisplayHelp, DisplayVersion}
use Rattle.clap.specs.declared.error.kind.ErrorKind.TheVariants.{OutOfMemory}
use Rattle.vcd_shell.specs.declared.words.WithoutRun.{WithoutRun}
use Rattle.vcd_shell.specs.declared.words.WithoutRun.TheVariants.{Shown, NotShown, Refused}
use Rattle.vcd_shell.specs.declared.words.WithoutRun.TheVariants.{NoMemory}
use Rattle.vcd_shell.specs.Report.{out_of_memory_report, report_of}

-- the words ask for help or the version, by the kind of `clap`'s answer
abbrev pub asks_for_text : ErrorKind → Bool
asks_for_text DisplayHelp = true
asks_for_text DisplayVersion = true
asks_for_text _ = false

-- help and the version are shown, if standard output takes them; other words are refused; or memory
-- runs out
abbrev pub IsWithoutRun : ErrorKind → WithoutRun → Type 0
IsWithoutRun kind Shown = asks_for_text kind ≡ true
IsWithoutRun kind NotShown = asks_for_text kind ≡ true
IsWithoutRun kind (Refused text) = (asks_for_text kind ≡ false) × (kind ≢ OutOfMemory)
IsWithoutRun kind NoMemory = Unit {0}

-- words with these faults get this, for one of them; asking for help or the version is one
abbrev pub IsAnswer : Kinds → WithoutRun → Type 0
IsAnswer kinds answer = (kind : ErrorKind)
    × ((kind ≡ OutOfMemory) ⊎ IsAmong kind kinds) × IsWithoutRun kind answer

-- the exit status: 2 if the words are refused
abbrev pub without_run_status : WithoutRun → ℕ
without_run_status Shown = 0
without_run_status NotShown = 4
without_run_status (Refused text) = 2
without_run_status NoMemory = 5

-- the text on standard error, by the program's name: standard output may have failed
abbrev pub without_run_text : (program : List ℕ) → WithoutRun → List ℕ
without_run_text program Shown = []
without_run_text program NotShown = report_of program (codes "replies: write fault")
without_run_text program (Refused text) = string_bytes text
without_run_text program NoMemory = out_of_memory_report program
