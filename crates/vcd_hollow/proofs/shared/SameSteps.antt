-- Steps have the same answers on captures of the same outline.
use Rattle.std.proofs.Common.{◌≡◌, ◌≤◌, ℕ, zero, suc, Bool, false, List, [], ◌∷◌, length, take, Option, Some, None}
use Rattle.std.proofs.Common.{refl, sym, ap, subst, ◌∙◌, inl, inr, arith}
use Rattle.std.specs.Prelude.{nat_lt, not}
use Rattle.vcd_core.specs.Contents.{Contents}
use Rattle.vcd_core.specs.Names.{full_names}
use Rattle.vcd_core.specs.Outline.{outline}
use Rattle.vcd_edit.specs.declared.edit.Edit.{Edit}
use Rattle.vcd_edit.specs.declared.fault.EditError.{EditError}
use Rattle.vcd_edit.specs.AppliedRecords.{PutsInOrKeepsNames}
use Rattle.vcd_edit.specs.Effect.{effect}
use Rattle.vcd_edit.specs.EditFaults.{edit_fault}
use Rattle.vcd_core.proofs.shared.Outlines.{count_in_outline, names_of_outline}
use Rattle.vcd_hollow.proofs.shared.Outlines.{fault_is_of_outline, effect_keeps_outlines}
use Rattle.vcd_journal.specs.declared.step.Step.{Step}
use Rattle.vcd_journal.specs.declared.step.Step.TheVariants as steps
use Rattle.vcd_journal.specs.declared.step.Answer.{Answer}
use Rattle.vcd_journal.specs.History.{History, initial_history, replay, is_depth}
use Rattle.vcd_journal.specs.Machine.{Machine, StepOutcome, edit_outcome, undo_outcome, redo_outcome, step_outcome}
use Rattle.vcd_journal.specs.Machine.{MayNeedMemory, IsStep, AreSteps}
use Rattle.vcd_journal.specs.HistoryMachine.{earlier_replays, later_replays, machine_of, history_after_answer}
use Rattle.vcd_journal.specs.HistoryMachine.{history_after_all}
use Rattle.vcd_hollow.specs.Hollow.{StepsAreOfOutline}
use Rattle.vcd_journal.proofs.shared.Replay.{depth_choice, future_count, outcome_follows, refusal_counts_not}
use Rattle.vcd_journal.proofs.shared.Replay.{step_follows, first_follows}
use Rattle.vcd_hollow.proofs.shared.ReplaysWithOthers.{replay_keeps_outlines}

-- ---- what an outline says

pub same_count : (c d : Contents) → outline c ≡ outline d → length c.signals ≡ length d.signals
same_count c d same =
    sym (count_in_outline c) ∙ ap (λ (o : Contents). length o.signals) same ∙ count_in_outline d

same_names : (c d : Contents) → outline c ≡ outline d → full_names c.signals ≡ full_names d.signals
same_names c d same =
    sym (names_of_outline c.signals) ∙ ap (λ (o : Contents). full_names o.signals) same ∙ names_of_outline d.signals

-- ---- the answer to a step with enough memory

edit_answer : (found : Option EditError) (e : Edit) (m n : Machine)
    → (edit_outcome found e m).answer ≡ (edit_outcome found e n).answer
edit_answer None e m n = refl
edit_answer (Some fault) e m n = refl

undo_answer : (c d : Contents) (es : List Edit) (undoable : ℕ) (m n : Machine)
    → (undo_outcome (take undoable (earlier_replays c es)) m).answer
    ≡ (undo_outcome (take undoable (earlier_replays d es)) n).answer
unfolding earlier_replays
undo_answer c d es zero m n = refl
undo_answer c d [] (suc undoable) m n = refl
undo_answer c d (e ∷ es) (suc undoable) m n = refl

redo_answer : (c d : Contents) (es undone : List Edit) (m n : Machine)
    → (redo_outcome (later_replays c es undone) m).answer ≡ (redo_outcome (later_replays d es undone) n).answer
unfolding later_replays
redo_answer c d es [] m n = refl
redo_answer c d es (u ∷ undone) m n = refl

depth_answer : (depth : ℕ) (m n : Machine) (bad small : Bool)
    → (depth_choice depth m bad small).answer ≡ (depth_choice depth n bad small).answer
depth_answer depth m n false false = refl
depth_answer depth m n bad small = refl

module _ (c d : Contents) (same : outline c ≡ outline d) (h : History) where
  abbrev m : Machine
  m = machine_of c h

  abbrev n : Machine
  n = machine_of d h

  same_now : outline m.now ≡ outline n.now
  same_now = replay_keeps_outlines c d h.edits same

  same_answer : (s : Step) → (step_outcome m s).answer ≡ (step_outcome n s).answer
  same_answer (steps.Edit e) =
      edit_answer (edit_fault e m.now) e m n
      ∙ ap (λ (found : Option EditError). (edit_outcome found e n).answer) (fault_is_of_outline e m.now n.now same_now)
  same_answer steps.Undo = undo_answer c d h.edits h.undoable m n
  same_answer steps.Redo = redo_answer c d h.edits h.undone m n
  same_answer (steps.Depth depth) =
      depth_answer depth m n (not (is_depth depth)) (nat_lt depth (length m.future))
      ∙ ap (λ count. (depth_choice depth n (not (is_depth depth)) (nat_lt depth count)).answer)
      (future_count c h.edits h.undone ∙ sym (future_count d h.edits h.undone))

  -- ---- where memory may run out

  module _ (within : h.undoable ≤ length h.edits) (s : Step) where
    same_after : outline (step_outcome m s).after.now ≡ outline (step_outcome n s).after.now
    same_after =
        ap (λ (k : Machine). outline k.now) (outcome_follows c h s within).is
        ∙ ap (λ (a : Answer). outline (replay c (history_after_answer h s a).edits)) (same_answer s)
        ∙ replay_keeps_outlines c d (history_after_answer h s (step_outcome n s).answer).edits same
        ∙ sym (ap (λ (k : Machine). outline k.now) (outcome_follows d h s within).is)

    same_needs : PutsInOrKeepsNames m.now (step_outcome m s).after.now
        → PutsInOrKeepsNames n.now (step_outcome n s).after.now
    same_needs (inl more) =
        inl (omega (
          arith,
          more,
          same_count m.now n.now same_now,
          same_count (step_outcome m s).after.now (step_outcome n s).after.now same_after,
        ))
    same_needs (inr kept) =
        inr (sym (same_names (step_outcome m s).after.now (step_outcome n s).after.now same_after)
        ∙ kept ∙ same_names m.now n.now same_now)

  memory_needed : h.undoable ≤ length h.edits → (s : Step) → MayNeedMemory m s → MayNeedMemory n s
  memory_needed within (steps.Edit e) needs =
      omega (
        arith,
        needs,
        same_count m.now n.now same_now,
        same_count (effect e m.now) (effect e n.now) (effect_keeps_outlines e m.now n.now same_now),
      )
  memory_needed within (steps.Depth depth) needs = needs
  memory_needed within steps.Undo needs = same_needs within steps.Undo needs
  memory_needed within steps.Redo needs = same_needs within steps.Redo needs

  -- ---- any step

  same_step : h.undoable ≤ length h.edits → (s : Step) (a : Answer) (after : Machine) → IsStep m s a after
      → IsStep n s a (machine_of d (history_after_answer h s a))
  same_step within s a after (inl is) =
      let here : a ≡ (step_outcome n s).answer = ap (λ (o : StepOutcome). o.answer) is ∙ same_answer s in
      let there : machine_of d (history_after_answer h s a) ≡ (step_outcome n s).after =
      ap (λ (b : Answer). machine_of d (history_after_answer h s b)) here ∙ sym (outcome_follows d h s within).is in
      inl (λ i. record { answer = here i; after = there i })
  same_step within s a after (inr refused) =
      inr (record {
        needs = memory_needed within s refused.needs;
        accepted = sym (same_answer s) ∙ refused.accepted;
        answer = refused.answer;
        unchanged = ap (λ (b : Answer). machine_of d (history_after_answer h s b)) refused.answer
            ∙ ap (machine_of d) (refusal_counts_not h s);
      })

-- ---- any steps

same_steps : (c d : Contents) → outline c ≡ outline d → (h : History) → h.undoable ≤ length h.edits
    → (asked : List Step) (answers : List Answer) (last : Machine) → AreSteps (machine_of c h) asked answers last
    → AreSteps (machine_of d h) asked answers (machine_of d (history_after_all h asked answers))
unfolding AreSteps history_after_all
same_steps c d same h within [] [] last r = refl
same_steps c d same h within (s ∷ asked) (a ∷ answers) last r =
    let h2 : History = history_after_answer h s a in
    let follows = step_follows c h (machine_of c h) s a r.0 (record { is = refl; undoable = within }) r.1 in (
      machine_of d h2,
      same_step c d same h within s a r.0 r.1,
      same_steps c d same h2 follows.undoable asked answers last
          (subst (λ (from : Machine). AreSteps from asked answers last) follows.is r.2),
    )
same_steps c d same h within asked answers last r = absurd r

pub steps_are_of_outline : StepsAreOfOutline
steps_are_of_outline c d depth asked answers m same r =
    let h : History = initial_history depth in
    subst (λ (from : Machine). AreSteps from asked answers (machine_of d (history_after_all h asked answers)))
    (sym (first_follows d depth).is)
    (same_steps c d same h (first_follows c depth).undoable asked answers m
    (subst (λ (from : Machine). AreSteps from asked answers m) (first_follows c depth).is r))
