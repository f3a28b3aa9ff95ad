-- The signals that a command refers to, by their positions. The project's own.
use Rattle.std.specs.Prelude.{ℕ, Option, Some, None, List, [], ◌∷◌}
use Rattle.vcd_edit.specs.declared.edit.Edit.{Edit}
use Rattle.vcd_edit.specs.declared.edit.Edit.TheVariants.{Rename, Remove, Invert, Shift, Deglitch}
use Rattle.vcd_edit.specs.declared.edit.Edit.TheVariants.{Force}
use Rattle.vcd_hollow.specs.OtherWaves.{waves_read}
use Rattle.vcd_journal.specs.declared.step.Step.TheVariants as steps
use Rattle.vcd_script.specs.declared.script.command.Command.{Command}
use Rattle.vcd_script.specs.declared.script.command.Command.TheVariants as commands
use Rattle.vcd_hollow.specs.HollowRun.{waves_of_command}

-- the positions of the signals that an edit refers to
abbrev pub signals_of_edit : Edit → List ℕ
signals_of_edit (Rename k word) = k ∷ []
signals_of_edit (Remove k) = k ∷ []
signals_of_edit e = waves_read e

-- the positions of the signals that a command refers to
abbrev pub signals_of_command : Command → List ℕ
signals_of_command (commands.Step (steps.Edit e)) = signals_of_edit e
signals_of_command command = waves_of_command command

-- the position of the signal in which an edit searches: where something may be found at changes
abbrev pub searched_signal : Edit → Option ℕ
searched_signal (Invert k) = Some k
searched_signal (Shift k by) = Some k
searched_signal (Deglitch k ticks) = Some k
searched_signal (Force k from to value) = Some k
searched_signal e = None
