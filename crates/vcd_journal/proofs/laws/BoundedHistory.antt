-- The history is bounded: past and future together hold at most as many captures as the depth.
use Rattle.std.proofs.Common.{◌≡◌, ◌≤◌, ◌+◌, ◌-◌, ℕ, Bool, false, List, [], ◌∷◌, length, Option, Some, None, sym, subst}
use Rattle.std.proofs.Common.{refl, inl, inr, arith}
use Rattle.std.specs.Prelude.{nat_lt, not}
use Rattle.std.proofs.lemmas.List.{length-take}
use Rattle.std.proofs.lemmas.Bool.Decides.{nat_tests}
use Rattle.vcd_core.specs.Contents.{Contents}
use Rattle.vcd_edit.specs.declared.edit.Edit.{Edit}
use Rattle.vcd_edit.specs.declared.fault.EditError.{EditError}
use Rattle.vcd_edit.specs.EditFaults.{edit_fault}
use Rattle.vcd_journal.specs.declared.step.Step.{Step}
use Rattle.vcd_journal.specs.declared.step.Step.TheVariants as steps
use Rattle.vcd_journal.specs.declared.step.Answer.{Answer}
use Rattle.vcd_journal.specs.Machine.{Machine, StepOutcome, initial_machine, edit_outcome, undo_outcome, redo_outcome}
use Rattle.vcd_journal.specs.Machine.{step_outcome, IsStep, AreSteps}
use Rattle.vcd_journal.specs.History.{is_depth}
use Rattle.vcd_journal.specs.Laws.{HistoryIsBounded}
use Rattle.vcd_journal.proofs.shared.Replay.{depth_choice}

-- past and future together hold at most as many captures as the depth
abbrev pub IsBounded : Machine → Type 0
IsBounded m = length m.past + length m.future ≤ m.depth

pub edit_bounded : (m : Machine) (e : Edit) (found : Option EditError) → IsBounded m
    → IsBounded (edit_outcome found e m).after
edit_bounded m e None few = let kept = length-take m.depth (m.now ∷ m.past) in omega (arith, kept)
edit_bounded m e (Some found) few = few

pub undo_bounded : (m : Machine) (past : List Contents) → length past + length m.future ≤ m.depth → IsBounded m
    → IsBounded (undo_outcome past m).after
undo_bounded m [] there few = few
undo_bounded m (back ∷ older) there few = omega arith

pub redo_bounded : (m : Machine) (future : List Contents) → length m.past + length future ≤ m.depth → IsBounded m
    → IsBounded (redo_outcome future m).after
redo_bounded m [] there few = few
redo_bounded m (next ∷ later) there few = omega arith

pub depth_bounded : (m : Machine) (depth : ℕ) (bad small : Bool) → nat_lt depth (length m.future) ≡ small → IsBounded m
    → IsBounded (depth_choice depth m bad small).after
depth_bounded m depth false false is few =
    let kept = length-take (depth - length m.future) m.past in
    let least : length m.future ≤ depth = grind (arith, nat_tests, is) in
    omega (arith, kept, least)
depth_bounded m depth bad small is few = few

pub outcome_bounded : (m : Machine) (s : Step) → IsBounded m → IsBounded (step_outcome m s).after
outcome_bounded m (steps.Edit e) few = edit_bounded m e (edit_fault e m.now) few
outcome_bounded m steps.Undo few = undo_bounded m m.past few few
outcome_bounded m steps.Redo few = redo_bounded m m.future few few
outcome_bounded m (steps.Depth depth) few =
    depth_bounded m depth (not (is_depth depth)) (nat_lt depth (length m.future)) refl few

pub step_bounded : (m : Machine) (s : Step) (a : Answer) (n : Machine) → IsBounded m → IsStep m s a n → IsBounded n
step_bounded m s a n few (inl same) =
    subst (λ (o : StepOutcome). IsBounded o.after) (sym same) (outcome_bounded m s few)
step_bounded m s a n few (inr refused) = subst IsBounded (sym refused.unchanged) few

pub run_bounded : (m : Machine) (asked : List Step) (answers : List Answer) (n : Machine) → IsBounded m
    → AreSteps m asked answers n → IsBounded n
unfolding AreSteps
run_bounded m [] [] n few r = subst IsBounded (sym r) few
run_bounded m (s ∷ asked) (a ∷ answers) n few r = run_bounded r.0 asked answers n (step_bounded m s a r.0 few r.1) r.2
run_bounded m asked answers n few r = absurd r

pub history_is_bounded : HistoryIsBounded
history_is_bounded c depth asked answers m r = run_bounded (initial_machine c depth) asked answers m (omega arith) r
