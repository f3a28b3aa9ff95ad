-- Edits, steps and commands with their words at one address, so that equal contents are equal
-- terms.
use Rattle.vcd_edit.specs.declared.edit.Edit.{Edit}
use Rattle.vcd_edit.specs.declared.edit.Edit.TheVariants.{Rename, Derive}
use Rattle.vcd_journal.specs.declared.step.Step.{Step}
use Rattle.vcd_journal.specs.declared.step.Step.TheVariants as steps
use Rattle.vcd_script.specs.declared.script.command.Command.{Command}
use Rattle.vcd_script.specs.declared.script.command.Command.TheVariants as commands
use Rattle.vcd_script.specs.LentBytes.{lent_bytes}

-- an edit with its word, if any, at that address
abbrev pub edit_without_address : Edit → Edit
edit_without_address (Rename k word) = Rename k (lent_bytes word.now)
edit_without_address (Derive word rule) = Derive (lent_bytes word.now) rule
edit_without_address e = e

-- the same for a step
abbrev pub step_without_address : Step → Step
step_without_address (steps.Edit e) = steps.Edit (edit_without_address e)
step_without_address s = s

-- the same for a command
abbrev pub command_without_address : Command → Command
command_without_address (commands.Step step) = commands.Step (step_without_address step)
command_without_address command = command
