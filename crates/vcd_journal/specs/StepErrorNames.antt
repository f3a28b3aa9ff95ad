-- The names that are printed for refused steps. They are the project's own.
use Rattle.std.specs.Prelude.{ℕ, List, codes}
use Rattle.vcd_edit.specs.EditErrorNames.{edit_error_name}
use Rattle.vcd_journal.specs.declared.step.StepError.{StepError}
use Rattle.vcd_journal.specs.declared.step.StepError.TheVariants.{Edit, NothingToUndo}
use Rattle.vcd_journal.specs.declared.step.StepError.TheVariants.{NothingToRedo, BadDepth}
use Rattle.vcd_journal.specs.declared.step.StepError.TheVariants.{DepthTooSmall, NoMemory}

-- the name that is printed for a refused step; NoMemory is no reply, as a run ends there
abbrev pub step_error_name : StepError → List ℕ
step_error_name (Edit fault) = edit_error_name fault
step_error_name NothingToUndo = codes "NothingToUndo"
step_error_name NothingToRedo = codes "NothingToRedo"
step_error_name BadDepth = codes "BadDepth"
step_error_name DepthTooSmall = codes "DepthTooSmall"
step_error_name NoMemory = codes "NoMemory"
