-- Worked cases: the edits in force after three renames, two undos, one that is refused, and two
-- depths.
use Rattle.std.proofs.Common.{◌≡◌, refl}
use Rattle.std.specs.Prelude.{ℕ, List, [], ◌∷◌, codes}
use Rattle.vcd_core.specs.Contents.{Contents}
use Rattle.vcd_edit.specs.declared.edit.Edit.{Edit}
use Rattle.vcd_edit.specs.declared.edit.Edit.TheVariants.{Rename}
use Rattle.vcd_edit.specs.Effect.{effect}
use Rattle.vcd_edit.proofs.worked.Records.{capture, wire}
use Rattle.vcd_edit.proofs.worked.Effects.{lent}
use Rattle.vcd_journal.specs.declared.step.Step.{Step}
use Rattle.vcd_journal.specs.declared.step.Step.TheVariants as steps
use Rattle.vcd_journal.specs.declared.step.StepError.TheVariants as refusals
use Rattle.vcd_journal.specs.declared.step.Answer.{Answer}
use Rattle.vcd_journal.specs.declared.step.Answer.TheVariants.{Done, Refused}
use Rattle.vcd_journal.specs.HistoryMachine.{history_after_all, earlier_replays, later_replays}
use Rattle.vcd_journal.specs.History.{initial_history, replay}

-- a capture of one signal with this name
abbrev named : List ℕ → Contents
named name = capture 0 (wire name [] ∷ [])

abbrev rename : List ℕ → Edit
rename word = Rename 0 (lent word)

abbrev to : List ℕ → Step
to word = steps.Edit (rename word)

abbrev three_renames : List Step
three_renames = to (codes "b") ∷ to (codes "c") ∷ to (codes "d") ∷ steps.Undo ∷ steps.Depth 1 ∷ steps.Undo ∷ steps.Undo
    ∷ steps.Depth 3 ∷ []

abbrev their_answers : List Answer
their_answers = Done ∷ Done ∷ Done ∷ Done ∷ Refused refusals.DepthTooSmall ∷ Done ∷ Refused refusals.NothingToUndo
    ∷ Done ∷ []

-- a rename stays in force after the history has dropped its capture
still_in_force : history_after_all (initial_history 2) three_renames their_answers
    ≡ record {
      edits = rename (codes "b") ∷ [];
      undone = rename (codes "c") ∷ rename (codes "d") ∷ [];
      undoable = 0;
      depth = 3;
    }
unfolding history_after_all
still_in_force = refl

-- the replays of the edits in force on the first capture, earlier and later
replays_of_three : (replay (named (codes "a")) (rename (codes "c") ∷ rename (codes "b") ∷ []) ≡ named (codes "c"))
    × (earlier_replays (named (codes "a")) (rename (codes "c") ∷ rename (codes "b") ∷ [])
    ≡ named (codes "b") ∷ named (codes "a") ∷ [])
    × (later_replays (named (codes "a")) (rename (codes "b") ∷ []) (rename (codes "c") ∷ rename (codes "d") ∷ [])
    ≡ named (codes "c") ∷ named (codes "d") ∷ [])
unfolding replay earlier_replays later_replays effect
replays_of_three = (refl, refl, refl)
