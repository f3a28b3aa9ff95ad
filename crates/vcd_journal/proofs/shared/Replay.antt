-- The replay law: after each step the machine is that of the history.
use Rattle.std.proofs.Common.{◌≡◌, ◌≤◌, ◌+◌, ◌-◌, ℕ, zero, suc, Bool, false, if◌then◌else◌, List, [], ◌∷◌, length, take}
use Rattle.std.proofs.Common.{Option, Some, None, sym, ap, subst, refl, inl, inr, ◌∙◌, arith}
use Rattle.std.specs.Prelude.{nat_lt, not, min}
use Rattle.std.proofs.lemmas.Bool.{cases_lt}
use Rattle.std.proofs.lemmas.List.{length-take, take-take, take_all}
use Rattle.vcd_core.specs.Contents.{Contents}
use Rattle.vcd_edit.specs.declared.edit.Edit.{Edit}
use Rattle.vcd_edit.specs.declared.fault.EditError.{EditError}
use Rattle.vcd_edit.specs.EditFaults.{edit_fault}
use Rattle.vcd_journal.specs.declared.step.Step.{Step}
use Rattle.vcd_journal.specs.declared.step.Step.TheVariants as steps
use Rattle.vcd_journal.specs.declared.step.StepError.TheVariants as refusals
use Rattle.vcd_journal.specs.declared.step.Answer.{Answer}
use Rattle.vcd_journal.specs.History.{History, initial_history, replay, is_depth}
use Rattle.vcd_journal.specs.Machine.{Machine, StepOutcome, initial_machine, machine_after_depth, accepted_outcome}
use Rattle.vcd_journal.specs.Machine.{refused_outcome, edit_outcome, undo_outcome, redo_outcome, step_outcome}
use Rattle.vcd_journal.specs.Machine.{memory_refusal, IsStep, AreSteps}
use Rattle.vcd_journal.specs.HistoryMachine.{earlier_replays, later_replays, machine_of, history_after_answer}
use Rattle.vcd_journal.specs.HistoryMachine.{history_after_all}
use Rattle.vcd_journal.specs.Laws.{SessionIsReplay}

-- the machine is that of the history, in which no more edits can be undone than are in force
pub record IsMachineOf (c : Contents) (h : History) (m : Machine) : Type 0 where
  pub is : m ≡ machine_of c h
  pub undoable : h.undoable ≤ length h.edits

-- ---- how many captures are held

pub earlier_count : (c : Contents) (es : List Edit) → length (earlier_replays c es) ≡ length es
unfolding earlier_replays
earlier_count c [] = refl
earlier_count c (e ∷ es) = ap suc (earlier_count c es)

pub past_count : (c : Contents) (h : History) → h.undoable ≤ length h.edits → length (machine_of c h).past ≡ h.undoable
past_count c h within =
    let taken = length-take h.undoable (earlier_replays c h.edits) in
    let all = earlier_count c h.edits in
    omega (arith, taken, all, within)

pub future_count : (c : Contents) (es undone : List Edit) → length (later_replays c es undone) ≡ length undone
unfolding later_replays
future_count c es [] = refl
future_count c es (u ∷ undone) = ap suc (future_count c (u ∷ es) undone)

-- ---- the outcome of each step with enough memory

-- a history of these edits
abbrev history_of : (es undone : List Edit) (undoable depth : ℕ) → History
history_of es undone undoable depth = record { edits = es; undone = undone; undoable = undoable; depth = depth }

-- the outcome of a step on the machine of a history is the machine of the history after it
abbrev Follows : Contents → History → Step → StepOutcome → Type 0
Follows c h s o = IsMachineOf c (history_after_answer h s o.answer) o.after

taken_twice : (m n : ℕ) (cs : List Contents) → take m (take n cs) ≡ take (min m n) cs
taken_twice m n cs = elim (cases_lt n m) [
  | inl less ↦ take_all m (take n cs) (omega (arith, length-take n cs))
      ∙ ap (λ k. take k cs) {x = n} {y = min m n} (omega arith)
  | inr more ↦ take-take m n cs more ∙ ap (λ k. take k cs) {x = m} {y = min m n} (omega arith)
]

edit_follows : (c : Contents) (h : History) (e : Edit) (found : Option EditError) → h.undoable ≤ length h.edits
    → Follows c h (steps.Edit e) (edit_outcome found e (machine_of c h))
unfolding replay earlier_replays later_replays
edit_follows c h e None within =
    let one_more : suc h.undoable ≡ h.undoable + 1 = omega arith in
    let kept : take h.depth (replay c h.edits ∷ take h.undoable (earlier_replays c h.edits))
    ≡ take (min h.depth (h.undoable + 1)) (replay c h.edits ∷ earlier_replays c h.edits) =
    taken_twice h.depth (suc h.undoable) (replay c h.edits ∷ earlier_replays c h.edits)
    ∙ ap (λ n. take (min h.depth n) (replay c h.edits ∷ earlier_replays c h.edits)) one_more in
    record {
      is = λ i. record { past = kept i; now = replay c (e ∷ h.edits); future = []; depth = h.depth };
      undoable = omega (arith, within);
    }
edit_follows c h e (Some fault) within = record { is = refl; undoable = within }

undo_follows : (c : Contents) (es undone : List Edit) (undoable depth : ℕ) → undoable ≤ length es →
    let h = history_of es undone undoable depth in
    Follows c h steps.Undo (undo_outcome (take undoable (earlier_replays c es)) (machine_of c h))
unfolding replay earlier_replays later_replays
undo_follows c es undone zero depth within = record { is = refl; undoable = within }
undo_follows c [] undone (suc undoable) depth within = absurd (omega (arith, within))
undo_follows c (e ∷ es) undone (suc undoable) depth within =
    let one_less : undoable ≡ suc undoable - 1 = omega arith in
    record {
      is = λ i. record {
        past = take (one_less i) (earlier_replays c es);
        now = replay c es;
        future = later_replays c es (e ∷ undone);
        depth = depth;
      };
      undoable = omega (arith, within);
    }

redo_follows : (c : Contents) (es undone : List Edit) (undoable depth : ℕ) → undoable ≤ length es →
    let h = history_of es undone undoable depth in
    Follows c h steps.Redo (redo_outcome (later_replays c es undone) (machine_of c h))
unfolding replay earlier_replays later_replays
redo_follows c es [] undoable depth within = record { is = refl; undoable = within }
redo_follows c es (u ∷ undone) undoable depth within =
    let one_more : suc undoable ≡ undoable + 1 = omega arith in
    record {
      is = λ i. record {
        past = take (one_more i) (replay c es ∷ earlier_replays c es);
        now = replay c (u ∷ es);
        future = later_replays c (u ∷ es) undone;
        depth = depth;
      };
      undoable = omega (arith, within);
    }

-- another depth, for either result of the two tests
abbrev pub depth_choice : ℕ → Machine → Bool → Bool → StepOutcome
depth_choice depth m bad small = if bad then refused_outcome refusals.BadDepth m
    else (if small then refused_outcome refusals.DepthTooSmall m else accepted_outcome (machine_after_depth depth m))

depth_follows : (c : Contents) (h : History) (depth : ℕ) (bad small : Bool) → h.undoable ≤ length h.edits
    → Follows c h (steps.Depth depth) (depth_choice depth (machine_of c h) bad small)
depth_follows c h depth false false within =
    let now = replay c h.edits in
    let future = later_replays c h.edits h.undone in
    let kept : take (depth - length future) (take h.undoable (earlier_replays c h.edits))
    ≡ take (min (depth - length h.undone) h.undoable) (earlier_replays c h.edits) =
    taken_twice (depth - length future) h.undoable (earlier_replays c h.edits)
    ∙ ap (λ n. take (min (depth - n) h.undoable) (earlier_replays c h.edits)) (future_count c h.edits h.undone) in
    record {
      is = λ i. record { past = kept i; now = now; future = future; depth = depth };
      undoable = omega (arith, within);
    }
depth_follows c h depth bad small within = record { is = refl; undoable = within }

pub outcome_follows : (c : Contents) (h : History) (s : Step) → h.undoable ≤ length h.edits
    → Follows c h s (step_outcome (machine_of c h) s)
outcome_follows c h (steps.Edit e) within = edit_follows c h e (edit_fault e (replay c h.edits)) within
outcome_follows c h steps.Undo within = undo_follows c h.edits h.undone h.undoable h.depth within
outcome_follows c h steps.Redo within = redo_follows c h.edits h.undone h.undoable h.depth within
outcome_follows c h (steps.Depth depth) within =
    depth_follows c h depth (not (is_depth depth)) (nat_lt depth (length (machine_of c h).future)) within

-- ---- every possible outcome of each step

-- a step refused because memory ran out does not change the history
pub refusal_counts_not : (h : History) (s : Step) → history_after_answer h s (memory_refusal s) ≡ h
refusal_counts_not h (steps.Edit e) = refl
refusal_counts_not h s = refl

pub step_follows : (c : Contents) (h : History) (m : Machine) (s : Step) (a : Answer) (n : Machine) → IsMachineOf c h m
    → IsStep m s a n → IsMachineOf c (history_after_answer h s a) n
step_follows c h m s a n f (inl same) =
    let here : record { answer = a; after = n } ≡ step_outcome (machine_of c h) s = same
    ∙ ap (λ (o : Machine). step_outcome o s) f.is in
    subst (λ (o : StepOutcome). Follows c h s o) (sym here) (outcome_follows c h s f.undoable)
step_follows c h m s a n f (inr refused) = rw (refused.answer, refused.unchanged, refusal_counts_not h s) f

-- any steps
run_follows : (c : Contents) (h : History) (m : Machine) (asked : List Step) (answers : List Answer) (n : Machine)
    → IsMachineOf c h m → AreSteps m asked answers n → IsMachineOf c (history_after_all h asked answers) n
unfolding AreSteps history_after_all
run_follows c h m [] [] n f r = subst (IsMachineOf c h) (sym r) f
run_follows c h m (s ∷ asked) (a ∷ answers) n f r =
    run_follows c (history_after_answer h s a) r.0 asked answers n (step_follows c h m s a r.0 f r.1) r.2
run_follows c h m asked answers n f r = absurd r

-- at the beginning no edit is in force
pub first_follows : (c : Contents) (depth : ℕ) → IsMachineOf c (initial_history depth) (initial_machine c depth)
unfolding replay earlier_replays later_replays
first_follows c depth = record { is = refl; undoable = omega arith }

pub session_is_replay : SessionIsReplay
session_is_replay c depth asked answers m r =
    (run_follows c (initial_history depth) (initial_machine c depth) asked answers m (first_follows c depth) r).is
