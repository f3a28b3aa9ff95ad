-- Steps of the machine, each from the contract of its call.
use Rattle.std.proofs.Common.{◌≡◌, ◌≢◌, ◌<◌, ◌≤◌, ℕ, true, false, List, [], ◌∷◌, ◌++◌, None, length, refl, ap, subst}
use Rattle.std.proofs.Common.{inl, inr, arith}
use Rattle.std.specs.Prelude.{nat_lt}
use Rattle.std.proofs.lemmas.Bool.Decides.{nat_tests}
use Rattle.vcd_edit.specs.declared.edit.Edit.{Edit}
use Rattle.vcd_edit.specs.declared.fault.EditError.{EditError}
use Rattle.vcd_edit.specs.EditFaults.{edit_fault}
use Rattle.vcd_edit.specs.EditAnswers.{MayRefuse}
use Rattle.vcd_edit.specs.TouchedByEdit.{IsRemove}
use Rattle.vcd_edit.proofs.shared.SignalCounts.{effect_keeps}
use Rattle.vcd_journal.specs.declared.step.TheConstants.{DEPTH_LIMIT}
use Rattle.vcd_journal.specs.declared.step.Step.{Step}
use Rattle.vcd_journal.specs.declared.step.Step.TheVariants as steps
use Rattle.vcd_journal.specs.declared.step.StepError.TheVariants as refusals
use Rattle.vcd_journal.specs.declared.step.Answer.{Answer}
use Rattle.vcd_journal.specs.declared.step.Answer.TheVariants.{Done, Refused}
use Rattle.vcd_journal.specs.Machine.{Machine, machine_after_edit, machine_after_depth, step_outcome, memory_refusal}
use Rattle.vcd_journal.specs.Machine.{IsStep, AreSteps}
use Rattle.vcd_journal.specs.History.{is_depth}

-- ---- edits

pub edit_accepted : (e : Edit) (m n : Machine) → edit_fault e m.now ≡ None → n ≡ machine_after_edit e m
    → IsStep m (steps.Edit e) Done n
edit_accepted e m n none is = inl (rw (none, is) refl)

pub edit_refused : (e : Edit) (found : EditError) (m n : Machine) → MayRefuse (edit_fault e m.now) found
    → (IsRemove e → edit_fault e m.now ≡ None → ⊥) → n ≡ m → IsStep m (steps.Edit e) (Refused (refusals.Edit found)) n
edit_refused e found m n (inl here) never is = inl (rw (here, is) refl)
edit_refused e found m n (inr refused) never is =
    inr (record {
      needs = effect_keeps e m.now (λ removes. never removes refused.0);
      accepted = rw (refused.0) refl;
      answer = ap (λ r. Refused (refusals.Edit r)) refused.1;
      unchanged = is;
    })

-- ---- another depth

pub depth_within : (depth : ℕ) → is_depth depth ≡ true → depth ≤ DEPTH_LIMIT
depth_within depth valid = grind (arith, nat_tests)

pub depth_too_small : (depth : ℕ) (m n : Machine) → is_depth depth ≡ true → depth < length m.future → n ≡ m
    → IsStep m (steps.Depth depth) (Refused refusals.DepthTooSmall) n
depth_too_small depth m n is_one less is =
    let small : nat_lt depth (length m.future) ≡ true = grind (arith, nat_tests) in
    inl (rw (is, is_one, small) refl)

pub depth_accepted : (depth : ℕ) (m n : Machine) → is_depth depth ≡ true → length m.future ≤ depth
    → n ≡ machine_after_depth depth m → IsStep m (steps.Depth depth) Done n
depth_accepted depth m n is_one most is =
    let small : nat_lt depth (length m.future) ≡ false = grind (arith, nat_tests) in
    inl (rw (is, is_one, small) refl)

pub depth_no_memory : (depth : ℕ) (m n : Machine) → is_depth depth ≡ true → length m.future ≤ depth → m.depth < depth
    → n ≡ m → IsStep m (steps.Depth depth) (Refused refusals.NoMemory) n
depth_no_memory depth m n is_one most greater is =
    let small : nat_lt depth (length m.future) ≡ false = grind (arith, nat_tests) in
    inr (record { needs = greater; accepted = rw (is_one, small) refl; answer = refl; unchanged = is })

-- ---- all steps

-- a step that is not refused because memory ran out has that outcome
pub outcome_of_step : (m : Machine) (s : Step) (a : Answer) (n : Machine) → IsStep m s a n → a ≢ memory_refusal s
    → record { answer = a; after = n } ≡ step_outcome m s
outcome_of_step m s a n (inl same) other = same
outcome_of_step m s a n (inr refused) other = absurd (other refused.answer)

-- no step
pub no_steps : (m : Machine) → AreSteps m [] [] m
unfolding AreSteps
no_steps m = refl

-- one more step
pub steps_lead_more : (m : Machine) (asked : List Step) (answers : List Answer) (n : Machine) (s : Step) (a : Answer)
    (last : Machine) →
    AreSteps m asked answers n → IsStep n s a last → AreSteps m (asked ++ s ∷ []) (answers ++ a ∷ []) last
unfolding AreSteps
steps_lead_more m [] [] n s a last before step =
    (last, subst (λ (from : Machine). IsStep from s a last) before step, refl)
steps_lead_more m (r ∷ asked) (b ∷ answers) n s a last before step =
    (before.0, before.1, steps_lead_more before.0 asked answers n s a last before.2 step)
steps_lead_more m asked answers n s a last before step = absurd before
