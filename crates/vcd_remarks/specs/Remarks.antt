-- What there is to say of a command beyond its reply: what an edit takes out of a signal, and what
-- is found of the lines of a decoder. The project's own.
use Rattle.std.specs.Prelude.{ℕ, zero, if◌then◌else◌, is_some, List, [], ◌∷◌, ◌++◌, codes}
use Rattle.std.specs.List.{flat_map}
use Rattle.std.specs.Fmt.{decimal}
use Rattle.vcd_core.specs.Contents.{Contents}
use Rattle.vcd_edit.specs.EditFaults.{edit_fault}
use Rattle.vcd_journal.specs.declared.step.Step.TheVariants as steps
use Rattle.vcd_script.specs.declared.script.command.Command.{Command}
use Rattle.vcd_script.specs.declared.script.command.Command.TheVariants as commands
use Rattle.vcd_remarks.specs.DecoderFindings.{decoder_remarks}
use Rattle.vcd_remarks.specs.EditFindings.{edit_findings}
use Rattle.vcd_remarks.specs.Findings.{finding_text}

-- how many more there are than are shown, if any
abbrev pub more_text : ℕ → List ℕ
more_text zero = []
more_text count = codes ", and " ++ decimal count ++ codes " more"

-- the remarks on a command that is carried out on a capture; none on an edit that is refused
unfoldable pub remarks : Contents → Command → List (List ℕ)
remarks c (commands.Step (steps.Edit e)) =
    if is_some (edit_fault e c) then [] else flat_map finding_text (edit_findings e c)
remarks c command = decoder_remarks c command

-- the text of a remark on the line of this number, with a line feed (10) at its end
abbrev pub remark_line : (number : ℕ) → List ℕ → List ℕ
remark_line number r = codes "line " ++ decimal number ++ codes ": " ++ r ++ 10 ∷ []

-- the text of the remarks on the line of this number
abbrev pub remarks_text : (number : ℕ) → List (List ℕ) → List ℕ
remarks_text number rs = flat_map (remark_line number) rs
