-- The remarks on lines on a new session are those on the lines of a run.
use Rattle.std.proofs.Common.{◌≡◌, ℕ, ◌+◌, List, [], ◌∷◌, ◌++◌, length, take, sym, ap, ◌∙◌, refl, append_assoc}
use Rattle.std.specs.Prelude.{fold}
use Rattle.std.specs.List.{enumerate_from, flat_map}
use Rattle.std.proofs.Math.Seq.{take-append_seam}
use Rattle.std.proofs.lemmas.List.{length-append}
use Rattle.std.proofs.lemmas.List.Sums.{fold-append}
use Rattle.vcd_core.specs.Contents.{Contents}
use Rattle.vcd_journal.specs.History.{History, initial_history, replay}
use Rattle.vcd_journal.specs.Machine.{Machine, initial_machine}
use Rattle.vcd_journal.proofs.shared.Replay.{IsMachineOf, first_follows}
use Rattle.vcd_remarks.specs.RemarksOfRun.{line_remarks}
use Rattle.vcd_script.specs.Run.{history_after_line}
use Rattle.vcd_script.specs.SessionLines.{machine_after_line}
use Rattle.vcd_remarks.specs.SessionRemarks.{session_remarks, SessionRemarksAreRun}
use Rattle.vcd_script.proofs.shared.LinesAndHistory.{line_follows}

module _ (c : Contents) (skipped : ℕ) where
  abbrev step : History → List ℕ → History
  step = history_after_line c skipped

  -- the remarks on lines, the first of them of this number and with this history
  unfoldable remarks_from : (number : ℕ) → History → List (List ℕ) → List ℕ
  remarks_from number h [] = []
  remarks_from number h (line ∷ lines) =
      line_remarks number (replay c h.edits) line ++ remarks_from (number + 1) (step h line) lines

  remarks_follow : (number : ℕ) (h : History) (m : Machine) (lines : List (List ℕ)) → IsMachineOf c h m
      → session_remarks number m lines ≡ remarks_from number h lines
  unfolding session_remarks remarks_from
  remarks_follow number h m [] is = refl
  remarks_follow number h m (line ∷ lines) is =
      let rest = remarks_follow (number + 1) (step h line) (machine_after_line m line) lines
      (line_follows c h m skipped line is) in
      λ i. line_remarks number (is.is i).now line ++ rest i

  -- the same, each line with the history after the lines before it
  remarks_at : (h : History) (before lines : List (List ℕ)) →
      flat_map (λ (p : ℕ × List ℕ). line_remarks (p.0 + 1) (replay c (fold step h
      (take p.0 (before ++ lines))).edits) p.1) (enumerate_from (length before) lines)
      ≡ remarks_from (length before + 1) (fold step h before) lines
  unfolding remarks_from
  remarks_at h before [] = refl
  remarks_at h before (line ∷ lines) =
      let remarked : List (List ℕ) → ℕ → List ℕ = λ all n.
      flat_map (λ (p : ℕ × List ℕ). line_remarks (p.0 + 1) (replay c (fold step h (take p.0 all)).edits) p.1)
      (enumerate_from n lines) in
      let first = ap (λ (ls : List (List ℕ)). line_remarks (length before + 1) (replay c (fold step h ls).edits) line)
      (take-append_seam before (line ∷ lines)) in
      let more : length (before ++ line ∷ []) ≡ length before + 1 = length-append before (line ∷ []) in
      let rest : remarked (before ++ line ∷ lines) (length before + 1)
      ≡ remarks_from (length before + 1 + 1) (step (fold step h before) line) lines =
      sym (ap (λ (all : List (List ℕ)). remarked all (length before + 1)) (append_assoc before (line ∷ []) lines))
      ∙ sym (ap (remarked ((before ++ line ∷ []) ++ lines)) more)
      ∙ remarks_at h (before ++ line ∷ []) lines
      ∙ (λ i. remarks_from (more i + 1) (fold-append step h before (line ∷ []) i) lines) in
      λ i. first i ++ rest i

pub session_remarks_are_run : SessionRemarksAreRun
session_remarks_are_run c skipped depth lines =
    remarks_follow c skipped 1 (initial_history depth) (initial_machine c depth) lines (first_follows c depth)
    ∙ sym (remarks_at c skipped (initial_history depth) [] lines)
