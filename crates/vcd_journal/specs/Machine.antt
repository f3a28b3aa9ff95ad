-- A session as a list of captures: the current one, and those that undo and redo reach. The
-- project's own.
use Rattle.std.specs.Prelude.{◌≡◌, ◌⊎◌, ◌<◌, ◌≤◌, ℕ, ◌-◌, nat_lt, not, if◌then◌else◌, List, [], ◌∷◌}
use Rattle.std.specs.Prelude.{length, take, Option, Some, None, Result, MatchResult}
use Rattle.vcd_core.specs.Contents.{Contents}
use Rattle.vcd_edit.specs.declared.edit.Edit.{Edit}
use Rattle.vcd_edit.specs.declared.fault.EditError.{EditError}
use Rattle.vcd_edit.specs.declared.fault.EditError.TheVariants as errors
use Rattle.vcd_edit.specs.AppliedRecords.{PutsInOrKeepsNames}
use Rattle.vcd_edit.specs.Effect.{effect}
use Rattle.vcd_edit.specs.EditFaults.{edit_fault}
use Rattle.vcd_journal.specs.declared.step.Step.{Step}
use Rattle.vcd_journal.specs.declared.step.Step.TheVariants as steps
use Rattle.vcd_journal.specs.declared.step.StepError.{StepError}
use Rattle.vcd_journal.specs.declared.step.StepError.TheVariants as refusals
use Rattle.vcd_journal.specs.declared.step.Answer.{Answer}
use Rattle.vcd_journal.specs.declared.step.Answer.TheVariants.{Done, Refused}
use Rattle.vcd_journal.specs.History.{is_depth}

-- the current capture; the captures that undo and redo reach, the nearest first; and the most that
-- both may hold
pub record Machine : Type 0 where
  pub past : List Contents
  pub now : Contents
  pub future : List Contents
  pub depth : ℕ

-- a capture without a history
abbrev pub initial_machine : Contents → ℕ → Machine
initial_machine c depth = record { past = []; now = c; future = []; depth = depth }

-- ---- accepted steps

-- an accepted edit: the capture joins the past, which keeps the newest `depth`; the future becomes
-- empty
abbrev pub machine_after_edit : Edit → Machine → Machine
machine_after_edit e m = record {
  past = take m.depth (m.now ∷ m.past);
  now = effect e m.now;
  future = [];
  depth = m.depth;
}

-- an accepted undo: `back` is the newest of the past, `older` the others
abbrev pub machine_after_undo : Contents → List Contents → Machine → Machine
machine_after_undo back older
    m = record { past = older; now = back; future = m.now ∷ m.future; depth = m.depth }

-- an accepted redo: `next` is the first of the future, `later` the others
abbrev pub machine_after_redo : Contents → List Contents → Machine → Machine
machine_after_redo next later
    m = record { past = m.now ∷ m.past; now = next; future = later; depth = m.depth }

-- an accepted depth: the past keeps the newest captures that have room besides the future
abbrev pub machine_after_depth : ℕ → Machine → Machine
machine_after_depth depth m = record {
  past = take (depth - length m.future) m.past;
  now = m.now;
  future = m.future;
  depth = depth;
}

-- ---- the outcome of a step

-- the outcome of a step: the answer, and the machine after it
pub record StepOutcome : Type 0 where
  pub answer : Answer
  pub after : Machine

-- an accepted step
abbrev pub accepted_outcome : Machine → StepOutcome
accepted_outcome after = record { answer = Done; after = after }

-- a refused step changes nothing
abbrev pub refused_outcome : StepError → Machine → StepOutcome
refused_outcome refusal m = record { answer = Refused refusal; after = m }

-- an edit is refused by its fault, and accepted without one
abbrev pub edit_outcome : Option EditError → Edit → Machine → StepOutcome
edit_outcome None e m = accepted_outcome (machine_after_edit e m)
edit_outcome (Some found) e m = refused_outcome (refusals.Edit found) m

-- an undo is refused if the past is empty
abbrev pub undo_outcome : List Contents → Machine → StepOutcome
undo_outcome [] m = refused_outcome refusals.NothingToUndo m
undo_outcome (back ∷ older) m = accepted_outcome (machine_after_undo back older m)

-- a redo is refused if the future is empty
abbrev pub redo_outcome : List Contents → Machine → StepOutcome
redo_outcome [] m = refused_outcome refusals.NothingToRedo m
redo_outcome (next ∷ later) m = accepted_outcome (machine_after_redo next later m)

-- a depth is refused if it is out of range, then if the future is longer
abbrev pub depth_outcome : ℕ → Machine → StepOutcome
depth_outcome depth m = if not (is_depth depth) then refused_outcome refusals.BadDepth m
    else (if nat_lt depth (length m.future) then refused_outcome refusals.DepthTooSmall m
    else accepted_outcome (machine_after_depth depth m))

-- the outcome of a step with enough memory
abbrev pub step_outcome : Machine → Step → StepOutcome
step_outcome m (steps.Edit e) = edit_outcome (edit_fault e m.now) e m
step_outcome m steps.Undo = undo_outcome m.past m
step_outcome m steps.Redo = redo_outcome m.future m
step_outcome m (steps.Depth depth) = depth_outcome depth m

-- ---- every possible outcome of a step

-- a step may run out of memory: an edit only if it leaves no fewer signals, a depth only if it is
-- greater, an undo or redo only if it puts a signal in or leaves all full names as they are
abbrev pub MayNeedMemory : Machine → Step → Type 0
MayNeedMemory m (steps.Edit e) = length m.now.signals ≤ length (effect e m.now).signals
MayNeedMemory m (steps.Depth depth) = m.depth < depth
MayNeedMemory m s = PutsInOrKeepsNames m.now (step_outcome m s).after.now

-- the answer if memory is refused
abbrev pub memory_refusal : Step → Answer
memory_refusal (steps.Edit e) = Refused (refusals.Edit errors.NoMemory)
memory_refusal s = Refused refusals.NoMemory

-- a step that would be accepted is refused because memory ran out, and changes nothing
pub record IsMemoryRefusal (m : Machine) (s : Step) (a : Answer) (n : Machine) : Type 0 where
  pub needs : MayNeedMemory m s
  pub accepted : (step_outcome m s).answer ≡ Done
  pub answer : a ≡ memory_refusal s
  pub unchanged : n ≡ m

-- a step on m may have this answer and give n: its outcome with enough memory, or a refusal because
-- memory ran out
abbrev pub IsStep : Machine → Step → Answer → Machine → Type 0
IsStep m s a n = (record { answer = a; after = n } ≡ step_outcome m s) ⊎ IsMemoryRefusal m s a n

-- a call makes this step: it answers `Done` at Ok, otherwise the refusal
abbrev pub IsStepCall : {T : Type 0} → Machine → Step → Result T StepError → Machine → Type 0
IsStepCall m s result n =
    MatchResult result (λ _. IsStep m s Done n) (λ refusal. IsStep m s (Refused refusal) n)

-- the steps, with these answers, change m into n
unfoldable pub AreSteps : Machine → List Step → List Answer → Machine → Type 0
AreSteps m [] [] n = n ≡ m
AreSteps m [] (a ∷ answers) n = ⊥
AreSteps m (s ∷ asked) [] n = ⊥
AreSteps m (s ∷ asked) (a ∷ answers) n = (between : Machine) × IsStep m s a between
    × AreSteps between asked answers n
