-- Lines that are carried out on a session without changes: what they make of the notes and of the
-- plan.
use Rattle.std.specs.Prelude.{◌≡◌, ℕ, ◌+◌, if◌then◌else◌, List, [], ◌∷◌}
use Rattle.vcd_script.specs.ScriptCommands.{command_of_line}
use Rattle.vcd_script.specs.SessionLines.{machine_after_line, is_refused_on}
use Rattle.vcd_amend_run.specs.inside.dry_running.HistoryNotes.{noted_after_command}
use Rattle.vcd_amend_run.specs.inside.dry_running.LinePlan.{PlanNotes, TakesLine}
use Rattle.vcd_amend_run.specs.inside.dry_running.LinePlan.{planned_after_command}
use Rattle.vcd_amend_run.specs.declared.dry_running.DryState.{DryState}

-- what the line of this number changes
pub record HearsLine (skipped number : ℕ) (line : List ℕ) (old new : DryState) : Type 0 where
  pub machine : machine_after_line old.session line ≡ new.session
  pub notes : (if is_refused_on skipped line old.session then old.history
      else noted_after_command old.history line (command_of_line old.session.now line))
      ≡ new.history
  -- the plan before the line is answered
  pub taken : PlanNotes
  pub takes : TakesLine number old.history.notes (command_of_line old.session.now line) old.plan
      taken
  pub plan : (if is_refused_on skipped line old.session then taken
      else planned_after_command taken old.history.notes.origins
      (command_of_line old.session.now line)) ≡ new.plan

-- what lines change, one after another, of which the first has this number
unfoldable pub HearLines : (skipped number : ℕ) → List (List ℕ) → (old new : DryState) → Type 0
HearLines skipped number [] old new = old ≡ new
HearLines skipped number (line ∷ lines) old new = (between : DryState)
    × HearsLine skipped number line old between × HearLines skipped (number + 1) lines between new
