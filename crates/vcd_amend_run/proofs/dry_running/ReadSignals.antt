-- The signals that are marked as read are no fewer than those that edits in force read.
use Rattle.std.proofs.Common.{◌≡◌, ◌<◌, ◌⊎◌, ℕ, Bool, true, false, ◌||◌, List, [], ◌∷◌, length, get_or}
use Rattle.std.proofs.Common.{Option, Some, None, Result, Ok, refl, sym, ap, subst, ◌∙◌, inl, inr}
use Rattle.std.specs.Prelude.{nat_eq, IfSome, if◌then◌else◌}
use Rattle.std.specs.List.{AllByRecursion, list_any, slice_get}
use Rattle.std.proofs.lemmas.Option.{slice_get_within, get_or_from_slice_get}
use Rattle.vcd_edit.specs.declared.edit.Edit.{Edit}
use Rattle.vcd_journal.specs.declared.step.Step.{Step}
use Rattle.vcd_journal.specs.declared.step.Step.TheVariants as steps
use Rattle.vcd_journal.specs.History.{History, history_after}
use Rattle.vcd_script.specs.declared.script.command.Command.{Command}
use Rattle.vcd_script.specs.declared.script.command.Command.TheVariants as commands
use Rattle.vcd_script.specs.declared.script.line_error.LineError.{LineError}
use Rattle.vcd_script.specs.Run.{history_after_command}
use Rattle.vcd_hollow.specs.OtherWaves.{waves_read}
use Rattle.vcd_hollow.specs.Origins.{origins}
use Rattle.vcd_hollow.specs.HollowRun.{origins_at}
use Rattle.vcd_amend_run.specs.inside.StreamedLines.{is_read_by}
use Rattle.vcd_amend_run.specs.inside.dry_running.LinePlan.{PlanNotes, marked, planned_after_command}
use Rattle.vcd_amend_run.proofs.dry_running.Marks.{length-marked, marks_stay, marked_if_any}

-- the edits after all undone ones are made again
unfoldable pub made_again : (es undone : List Edit) → List Edit
made_again es [] = es
made_again es (u ∷ undone) = made_again (u ∷ es) undone

-- the plan has a mark for each signal of the first capture, and those are marked as read that the edits
-- of a history read, also the undone ones
pub record IsPlanAfter (count : ℕ) (h : History) (p : PlanNotes) : Type 0 where
  pub one_each : length p.heard ≡ count
  pub one_read : length p.read ≡ count
  pub covers : (k : ℕ) → k < count → is_read_by count (made_again h.edits h.undone) k ≡ true
      → get_or p.read k false ≡ true

-- ---- steps

one_of : (a b : Bool) → (a || b) ≡ true → (a ≡ true) ⊎ (b ≡ true)
one_of true b either = inl refl
one_of false b either = inr either

or_true : (b : Bool) → (b || true) ≡ true
or_true true = refl
or_true false = refl

-- what edits read, those read with the undone ones made again
read_again : (count : ℕ) (es undone : List Edit) (k : ℕ) → is_read_by count es k ≡ true
    → is_read_by count (made_again es undone) k ≡ true
unfolding is_read_by made_again
read_again count es [] k is = is
read_again count es (u ∷ undone) k is =
    let reads : Bool = list_any (nat_eq k) (origins_at (origins count es) (waves_read u)) in
    read_again count (u ∷ es) undone k (ap (λ b. reads || b) is ∙ or_true reads)

edit_is_covered : (count : ℕ) (h : History) (p : PlanNotes) (e : Edit) → IsPlanAfter count h p → (k : ℕ) → k < count
    → is_read_by count (e ∷ h.edits) k ≡ true
    → get_or (marked p.read (origins_at (origins count h.edits) (waves_read e))) k false ≡ true
unfolding is_read_by
edit_is_covered count h p e is k less reads =
    let ks : List ℕ = origins_at (origins count h.edits) (waves_read e) in
    elim (one_of (list_any (nat_eq k) ks) (is_read_by count h.edits k) reads) [
      | inl here ↦ marked_if_any p.read ks k (rw is.one_read less) here
      | inr before ↦ marks_stay p.read ks k (is.covers k less (read_again count h.edits h.undone k before))
    ]

undo_is_covered : (count : ℕ) (es undone : List Edit) (undoable depth : ℕ) (p : PlanNotes)
    → IsPlanAfter count (record { edits = es; undone = undone; undoable = undoable; depth = depth }) p
    → IsPlanAfter count (history_after (record { edits = es; undone = undone; undoable = undoable; depth = depth })
    steps.Undo) p
unfolding made_again
undo_is_covered count [] undone undoable depth p is =
    record { one_each = is.one_each; one_read = is.one_read; covers = is.covers }
undo_is_covered count (e ∷ es) undone undoable depth p is =
    record { one_each = is.one_each; one_read = is.one_read; covers = is.covers }

redo_is_covered : (count : ℕ) (es undone : List Edit) (undoable depth : ℕ) (p : PlanNotes)
    → IsPlanAfter count (record { edits = es; undone = undone; undoable = undoable; depth = depth }) p
    → IsPlanAfter count (history_after (record { edits = es; undone = undone; undoable = undoable; depth = depth })
    steps.Redo) p
unfolding made_again
redo_is_covered count es [] undoable depth p is =
    record { one_each = is.one_each; one_read = is.one_read; covers = is.covers }
redo_is_covered count es (u ∷ undone) undoable depth p is =
    record { one_each = is.one_each; one_read = is.one_read; covers = is.covers }

abbrev after_command : ℕ → History → PlanNotes → Result Command LineError → Type 0
after_command count h p asked = IsPlanAfter count (history_after_command h asked)
    (planned_after_command p (origins count h.edits) asked)

step_is_covered : (count : ℕ) (h : History) (p : PlanNotes) (s : Step) → IsPlanAfter count h p
    → after_command count h p (Ok (commands.Step s))
unfolding made_again
step_is_covered count h p (steps.Edit e) is = record {
  one_each = is.one_each;
  one_read = length-marked p.read (origins_at (origins count h.edits) (waves_read e)) ∙ is.one_read;
  covers = edit_is_covered count h p e is;
}
step_is_covered count h p steps.Undo is = undo_is_covered count h.edits h.undone h.undoable h.depth p is
step_is_covered count h p steps.Redo is = redo_is_covered count h.edits h.undone h.undoable h.depth p is
step_is_covered count h p (steps.Depth depth) is =
    record { one_each = is.one_each; one_read = is.one_read; covers = is.covers }

command_is_covered : (count : ℕ) (h : History) (p : PlanNotes) (asked : Result Command LineError)
    → IsPlanAfter count h p → after_command count h p asked
command_is_covered count h p (Ok (commands.Step s)) is = step_is_covered count h p s is
command_is_covered count h p asked is = is

-- after a line that is refused or not
pub plan_is_covered : (count : ℕ) (h : History) (p : PlanNotes) (asked : Result Command LineError) (refused : Bool)
    → IsPlanAfter count h p → IsPlanAfter count (if refused then h else history_after_command h asked)
    (if refused then p else planned_after_command p (origins count h.edits) asked)
plan_is_covered count h p asked true is = is
plan_is_covered count h p asked false is = command_is_covered count h p asked is

-- ---- a signal that is not marked

module _ (count : ℕ) (h : History) (p : PlanNotes) (is : IsPlanAfter count h p) where
  not_read : (k : ℕ) → slice_get p.read k ≡ Some false → is_read_by count h.edits k ≡ false
  not_read k unmarked = by_test (is_read_by count h.edits k) refl
    where
      within : k < count
      within = subst (λ n. k < n) is.one_read (slice_get_within p.read k false unmarked)

      unset : get_or p.read k false ≡ false
      unset = get_or_from_slice_get p.read k false false unmarked

      by_test : (b : Bool) → is_read_by count h.edits k ≡ b → b ≡ false
      by_test false reads = refl
      by_test true reads =
          sym (is.covers k within (read_again count h.edits h.undone k reads)) ∙ unset

  pub all_unread : (lines : List (Option ℕ)) →
      AllByRecursion (λ line. IfSome line (λ k. slice_get p.read k ≡ Some false)) lines
      → AllByRecursion (λ line. IfSome line (λ k. is_read_by count h.edits k ≡ false)) lines
  all_unread [] unmarked = tt
  all_unread (None ∷ lines) unmarked = (tt, all_unread lines unmarked.1)
  all_unread (Some k ∷ lines) unmarked = (not_read k unmarked.0, all_unread lines unmarked.1)
