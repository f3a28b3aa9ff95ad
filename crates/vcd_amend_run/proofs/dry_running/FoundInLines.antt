-- What a dry run of lines finds.
use Rattle.std.proofs.Common.{◌≡◌, ◌++◌, ℕ, Bool, false, List, length, sym, ap, subst, ◌∙◌}
use Rattle.std.specs.Prelude.{fold, reverse}
use Rattle.std.proofs.Math.Seq.{take-length}
use Rattle.std.proofs.lemmas.List.{length-replicate}
use Rattle.vcd_core.specs.Contents.{Contents}
use Rattle.vcd_journal.specs.History.{History, initial_history}
use Rattle.vcd_journal.specs.Machine.{Machine, initial_machine}
use Rattle.vcd_journal.proofs.shared.Replay.{IsMachineOf, first_follows}
use Rattle.vcd_hollow.specs.Origins.{origins}
use Rattle.vcd_hollow.specs.HollowRun.{last_edits, last_capture}
use Rattle.vcd_script.specs.Run.{history_after_line, history_at}
use Rattle.vcd_amend_run.specs.EditsInForce.{EditLines, no_lines, lines_after, lines_in_force}
use Rattle.vcd_amend_run.specs.declared.dry_running.DryState.{DryState}
use Rattle.vcd_amend_run.specs.inside.StreamedLines.{ArePlanned, is_read_by}
use Rattle.vcd_amend_run.specs.inside.dry_running.OriginHistory.{OriginNotes, cuts_noted, ticks_of_cuts}
use Rattle.vcd_amend_run.specs.inside.dry_running.HistoryNotes.{HistoryNotes, noted_before_lines}
use Rattle.vcd_amend_run.specs.inside.dry_running.LinePlan.{PlanNotes, planned_before_lines}
use Rattle.vcd_amend_run.specs.inside.dry_running.HeardLines.{HearLines}
use Rattle.vcd_amend_run.proofs.dry_running.origin_history.NotesOfHistory.{first_notes, cuts_are_noted}
use Rattle.vcd_amend_run.proofs.dry_running.StateOfHistory.{IsStateOf, states_follow}
use Rattle.vcd_amend_run.proofs.dry_running.ReadSignals.{IsPlanAfter, made_again}
use Rattle.vcd_amend_run.proofs.dry_running.PlannedInHistory.{HearsMarked, lines_are_planned}

-- the state before the first line
pub record IsFirst (c : Contents) (depth : ℕ) (s : DryState) : Type 0 where
  pub session : s.session ≡ initial_machine c depth
  pub history : s.history ≡ noted_before_lines (length c.signals)
  pub plan : s.plan ≡ planned_before_lines (length c.signals)

-- what is found after lines
pub record IsFound (c : Contents) (skipped depth : ℕ) (lines : List (List ℕ)) (s : DryState) : Type 0 where
  pub planned : (silent : ℕ → Bool) → HearsMarked silent s.plan.heard
      → ArePlanned c skipped silent 1 (initial_history depth) lines s.plan.streamed
  pub one_each : length s.plan.heard ≡ length c.signals
  pub left : s.history.notes.origins ≡ origins (length c.signals) (last_edits c skipped depth lines)
  pub lines_are : reverse s.history.lines.in_force ≡ lines_in_force c skipped depth lines
  pub cuts_are : cuts_noted s.history.notes ≡ ticks_of_cuts (last_edits c skipped depth lines)
  pub last : s.session.now ≡ last_capture c skipped depth lines

first_state : (c : Contents) (depth : ℕ) (s : DryState) → IsFirst c depth s
    → IsStateOf c (initial_history depth) no_lines s
first_state c depth s is = record {
  machine = subst (IsMachineOf c (initial_history depth)) (sym is.session) (first_follows c depth);
  notes = is.history
      ∙ ap (λ (o : OriginNotes). record { notes = o; lines = no_lines }) (first_notes (length c.signals) depth);
}

first_plan : (count depth : ℕ) → IsPlanAfter count (initial_history depth) (planned_before_lines count)
unfolding is_read_by made_again
first_plan count depth = record {
  one_each = length-replicate count false;
  one_read = length-replicate count false;
  covers = λ k less reads. absurd (cc);
}

pub found_in_lines : (c : Contents) (skipped depth : ℕ) (lines : List (List ℕ)) (old new : DryState)
    → IsFirst c depth old → HearLines skipped 1 lines old new → IsFound c skipped depth lines new
found_in_lines c skipped depth lines old new first hear =
    let n : ℕ = length c.signals in
    let h : History = initial_history depth in
    let last : History = history_at c skipped depth lines (length lines) in
    let made : EditLines = lines_after c skipped h no_lines lines in
    let start = first_state c depth old first in
    let plan : IsPlanAfter n h old.plan = subst (IsPlanAfter n h) (sym first.plan) (first_plan n depth) in
    let all = lines_are_planned c skipped 1 h no_lines lines old new start plan hear in
    let state : IsStateOf c last made new =
    subst (λ (ls : List (List ℕ)). IsStateOf c (fold (history_after_line c skipped) h ls) made new)
    (sym (take-length lines)) (states_follow c skipped 1 h no_lines lines old new start hear) in
    record {
      planned = λ silent hears.
          subst (ArePlanned c skipped silent 1 h lines)
          (sym (all.streamed ∙ ap (λ (p : PlanNotes). p.streamed ++ all.rest) first.plan))
          (all.planned silent hears);
      one_each = all.one_each;
      left = ap (λ (o : HistoryNotes). o.notes.origins) state.notes;
      lines_are = ap (λ (o : HistoryNotes). reverse o.lines.in_force) state.notes;
      cuts_are = ap (λ (o : HistoryNotes). cuts_noted o.notes) state.notes
          ∙ cuts_are_noted n last.edits;
      last = ap (λ (m : Machine). m.now) state.machine.is;
    }
