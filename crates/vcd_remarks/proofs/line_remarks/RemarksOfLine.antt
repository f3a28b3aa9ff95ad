-- The remarks on a line are those on its names and on the command that it asks for.
use Rattle.std.proofs.Common.{◌≡◌, ℕ, List, [], ◌++◌, Result, Ok, if◌then◌else◌, refl, ap, ◌∙◌}
use Rattle.std.specs.Prelude.{is_some}
use Rattle.std.specs.List.{flat_map}
use Rattle.vcd_core.specs.Contents.{Contents}
use Rattle.vcd_core.specs.Names.{full_names}
use Rattle.vcd_edit.specs.declared.edit.Edit.{Edit}
use Rattle.vcd_edit.specs.declared.edit.Edit.TheVariants.{Rename, Derive}
use Rattle.vcd_journal.specs.declared.step.Step.TheVariants as steps
use Rattle.vcd_script.specs.declared.script.command.Command.{Command}
use Rattle.vcd_script.specs.declared.script.command.Command.TheVariants as commands
use Rattle.vcd_script.specs.declared.script.line_error.LineError.{LineError}
use Rattle.vcd_remarks.specs.NamedSignals.{signals_of_edit, signals_of_command}
use Rattle.vcd_remarks.specs.NameRemarks.{name_remark, name_remarks}
use Rattle.vcd_remarks.specs.EditFindings.{edit_findings}
use Rattle.vcd_remarks.specs.Findings.{finding_text}
use Rattle.vcd_remarks.specs.Remarks.{remarks, remarks_text}
use Rattle.vcd_remarks.specs.RemarksOfRun.{remarks_asked, line_remarks}
use Rattle.vcd_script.specs.ScriptCommands.{command_of_line}
use Rattle.vcd_script.specs.WithoutAddress.{edit_without_address, command_without_address}
use Rattle.vcd_script.proofs.shared.AnsweredLines.{fault_without_address}

-- the address of a word does not matter for the remarks
findings_without_address : (e : Edit) (c : Contents) → edit_findings (edit_without_address e) c ≡ edit_findings e c
findings_without_address (Rename k word) c = refl
findings_without_address (Derive word rule) c = refl
findings_without_address e c = refl

remarks_without_address : (c : Contents) (command : Command)
    → remarks c (command_without_address command) ≡ remarks c command
unfolding remarks
remarks_without_address c (commands.Step (steps.Edit e)) = λ i.
    if is_some (fault_without_address e c i) then [] else flat_map finding_text (findings_without_address e c i)
remarks_without_address c command = refl

edit_signals_without_address : (e : Edit) → signals_of_edit (edit_without_address e) ≡ signals_of_edit e
edit_signals_without_address (Rename k word) = refl
edit_signals_without_address (Derive word rule) = refl
edit_signals_without_address e = refl

signals_without_address : (command : Command)
    → signals_of_command (command_without_address command) ≡ signals_of_command command
signals_without_address (commands.Step (steps.Edit e)) = edit_signals_without_address e
signals_without_address command = refl

pub line_remarks_are : (number : ℕ) (c : Contents) (line : List ℕ) (command : Command)
    → command_of_line c line ≡ Ok (command_without_address command)
    → line_remarks number c line ≡ remarks_text number (name_remarks c line command ++ remarks c command)
unfolding name_remarks
line_remarks_are number c line command read =
    ap (λ (parsed : Result Command LineError). remarks_text number (remarks_asked c line parsed)) read
    ∙ λ i. remarks_text number (flat_map (name_remark (full_names c.signals) line) (signals_without_address command i)
    ++ remarks_without_address c command i)
