-- How a program ends on the words of its command line: the project's own.
use Rattle.std.specs.Prelude.{◌≡◌, ℕ, List, [], Result, Ok, Err}
use Rattle.clap.specs.Words.{App, Text, fault_of}
use Rattle.vcd_shell.specs.declared.words.WithoutRun.{WithoutRun}
use Rattle.vcd_shell.specs.WithoutRun.{IsAnswer, without_run_status, without_run_text}

-- words after the program's name have this ending: an outcome that they can have, if these options
-- accept them; or what words get that ask for no run, if they have a fault or memory runs out
abbrev pub HasEnding : {O : Type 0} → (options : App) → (can_end : List Text → O → Type 0)
    → (words : List Text) → Result O WithoutRun → Type 0
HasEnding options can_end words (Ok outcome) =
    (fault_of options words ≡ []) × can_end words outcome
HasEnding options can_end words (Err answer) = IsAnswer (fault_of options words) answer

-- the exit status, by that of outcomes
abbrev pub ending_status : {O : Type 0} → (status : O → ℕ) → Result O WithoutRun → ℕ
ending_status status (Ok outcome) = status outcome
ending_status status (Err answer) = without_run_status answer

-- the text on standard error, by that of outcomes and by the program's name, after what the run has
-- remarked there
abbrev pub ending_text : {O : Type 0} → (text : O → List ℕ) → (program : List ℕ)
    → Result O WithoutRun → List ℕ
ending_text text program (Ok outcome) = text outcome
ending_text text program (Err answer) = without_run_text program answer
