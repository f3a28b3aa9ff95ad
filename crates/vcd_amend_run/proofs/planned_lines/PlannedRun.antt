-- A run of planned lines, seen from a line in it: whatever the capture of which the session lacks the silent changes.
use Rattle.std.proofs.Common.{◌≡◌, ◌≤◌, ◌+◌, ℕ, Bool, false, cond, List, [], ◌∷◌, length, take, Option, Some, sym}
use Rattle.std.proofs.Common.{subst}
use Rattle.std.proofs.Common.{ap, ◌∙◌}
use Rattle.std.specs.Prelude.{IfOk}
use Rattle.std.specs.Io.KnownBytes.{Appends, Keeps}
use Rattle.vcd_core.specs.Contents.{Contents}
use Rattle.vcd_hollow.specs.Hollow.{hollow}
use Rattle.vcd_journal.specs.History.{History, initial_history}
use Rattle.vcd_journal.specs.HistoryMachine.{machine_of}
use Rattle.vcd_journal.specs.Machine.{Machine, initial_machine}
use Rattle.vcd_remarks.specs.SessionRemarks.{session_remarks}
use Rattle.vcd_remarks.specs.inside.LineRemarks.{WritesOrEnds}
use Rattle.vcd_script.specs.Run.{history_at}
use Rattle.vcd_script.specs.SessionLines.{machine_after_lines, reply_on}
use Rattle.vcd_text.specs.declared.fault.ReadError.{ReadError}
use Rattle.vcd_amend_run.specs.AmendRunEnds.{counted}
use Rattle.vcd_amend_run.specs.declared.line_pass.PassFault.{PassFault}
use Rattle.vcd_amend_run.specs.declared.planned_lines.line_taken.LineTaken.{LineTaken}
use Rattle.vcd_amend_run.specs.declared.running.AmendRunError.TheVariants as errors
use Rattle.vcd_script.specs.declared.running.run_error.RunError.TheVariants as run_errors
use Rattle.vcd_amend_run.specs.declared.streamed_line.StreamedLine.{StreamedLine}
use Rattle.vcd_amend_run.specs.inside.LinePass.{StopsFor}
use Rattle.vcd_amend_run.specs.inside.PlannedLine.{streamed_here, streamed_after, IsPlannedAt, TakesReply}
use Rattle.vcd_amend_run.specs.inside.PlannedLine.{remarks_before}
use Rattle.vcd_amend_run.specs.inside.PlannedLine.{machine_after_planned}
use Rattle.vcd_amend_run.specs.inside.PlannedLine.{error_at_line}
use Rattle.vcd_amend_run.specs.inside.PlannedLines.{IsPlannedOn, RunsPlannedLines, StopsInLinesPlanned}
use Rattle.vcd_amend_run.specs.inside.StreamedLines.{ArePlanned}
use Rattle.vcd_amend_run.proofs.planned_lines.LinesAfter.{AreLeftAfter, all_done}
use Rattle.vcd_amend_run.proofs.planned_lines.PlannedMachines.{MachinesSoFar, machines_first, machines_more}
use Rattle.vcd_amend_run.proofs.planned_lines.PlannedMachines.{whole_machine}
use Rattle.vcd_amend_run.proofs.planned_lines.PlannedReplies.{planned_at, RepliedSoFar, none_replied, replied_more}
use Rattle.vcd_amend_run.proofs.planned_lines.PlannedReplies.{all_replied}
use Rattle.vcd_amend_run.proofs.planned_lines.PlannedReplies.{line_stops as one_line_stops}
use Rattle.vcd_amend_run.proofs.planned_lines.PlannedReplies.{flush_stops as last_flush_stops}
use Rattle.vcd_amend_run.proofs.planned_lines.PlannedRemarks.{RemarkedSoFar, none_remarked, remarked_more}
use Rattle.vcd_amend_run.proofs.planned_lines.PlannedRemarks.{remarked_in_part, remarked_before_end}

-- ---- the invariants of the loop over the lines

module _ (skipped : ℕ) (lines : List (List ℕ)) (all : List StreamedLine) (old : Machine) where
  -- the session's machine so far, and the plan of the lines left
  abbrev pub KeepsMachines : (number : ℕ) → (left : List (List ℕ)) → List StreamedLine → (now : Machine) → Type 0
  KeepsMachines number left streamed now =
      (depth : ℕ) (c : Contents) (silent : ℕ → Bool) → old ≡ initial_machine (hollow silent c) depth
      → ArePlanned c skipped silent 1 (initial_history depth) lines all
      → MachinesSoFar silent c skipped depth lines number left streamed old now

module _ (shown : Option (List ℕ)) (skipped : ℕ) (lines : List (List ℕ)) (all : List StreamedLine) (old : Machine)
    (number : ℕ) where
  -- the replies so far
  abbrev pub KeepsReplies : (refused written : ℕ) → (before after : Option (List ℕ)) → Type 0
  KeepsReplies refused written before after =
      (file : List ℕ) (depth : ℕ) (c : Contents) (silent : ℕ → Bool) → shown ≡ Some file
      → IsPlannedOn file skipped depth lines all old c silent
      → RepliedSoFar c skipped depth lines number refused written before after

  -- the remarks so far
  abbrev pub KeepsRemarks : (ended : Bool) → (before after : Option (List ℕ)) → Type 0
  KeepsRemarks ended before after =
      (file : List ℕ) (depth : ℕ) (c : Contents) (silent : ℕ → Bool) → shown ≡ Some file
      → IsPlannedOn file skipped depth lines all old c silent
      → RemarkedSoFar c skipped depth lines number ended before after

-- ---- before the first line

module _ (skipped : ℕ) (lines : List (List ℕ)) (all : List StreamedLine) (old : Machine) where
  pub first_machines : KeepsMachines skipped lines all old 0 lines all old
  first_machines depth c silent at planned = machines_first silent c skipped depth lines all old at planned

  pub first_replies : (shown before : Option (List ℕ)) → KeepsReplies shown skipped lines all old 0 0 0 before before
  first_replies shown before file depth c silent is on = none_replied c skipped depth lines before

  pub first_remarks : (shown before : Option (List ℕ)) → KeepsRemarks shown skipped lines all old 0 false before before
  first_remarks shown before file depth c silent is on = none_remarked c skipped depth lines before

-- ---- at a line

module _ (skipped number : ℕ) (lines rest left : List (List ℕ)) (line : List ℕ) (all streamed : List StreamedLine)
    (old now : Machine) (left_after : AreLeftAfter lines number rest) (parts : rest ≡ line ∷ left)
    (machines : KeepsMachines skipped lines all old number rest streamed now) where
  abbrev here : Option StreamedLine
  here = streamed_here (number + 1) streamed

  pub at_line : AreLeftAfter lines number (line ∷ left)
  at_line = subst (AreLeftAfter lines number) parts left_after

  so_far : (depth : ℕ) (c : Contents) (silent : ℕ → Bool) → old ≡ initial_machine (hollow silent c) depth
      → ArePlanned c skipped silent 1 (initial_history depth) lines all
      → MachinesSoFar silent c skipped depth lines number (line ∷ left) streamed old now
  so_far depth c silent at planned =
      subst (λ (ls : List (List ℕ)). MachinesSoFar silent c skipped depth lines number ls streamed old now) parts
      (machines depth c silent at planned)

  pub machines_on : (new : Machine) → new ≡ machine_after_planned here now line
      → KeepsMachines skipped lines all old (number + 1) left (streamed_after (number + 1) streamed) new
  machines_on new is depth c silent at planned =
      machines_more silent c skipped depth lines number left line streamed old now new at_line
      (so_far depth c silent at planned) is

  -- the reply that a line has on the whole capture
  abbrev Answers : (shown before after : Option (List ℕ)) → LineTaken → Type 0
  Answers shown before after taken =
      (file : List ℕ) (c : Contents) (silent : ℕ → Bool) (h : History) → shown ≡ Some file
      → IsPlannedAt file skipped c silent h line here → now ≡ machine_of (hollow silent c) h
      → TakesReply skipped (number + 1) c h line here before after taken

  takes_reply : (shown before after : Option (List ℕ)) (taken : LineTaken) → Answers shown before after taken
      → (file : List ℕ) (depth : ℕ) (c : Contents) (silent : ℕ → Bool) → shown ≡ Some file
      → IsPlannedOn file skipped depth lines all old c silent
      → TakesReply skipped (number + 1) c (history_at c skipped depth lines number) line here before after taken
  takes_reply shown before after taken answers file depth c silent is on =
      let so = so_far depth c silent on.session_is on.planned in
      answers file c silent (history_at c skipped depth lines number) is
      (planned_at file skipped depth lines all old c silent on number left line streamed now so) so.machine

  pub replies_on : (shown before between after : Option (List ℕ)) (refused written more sum : ℕ) (taken : LineTaken)
      → KeepsReplies shown skipped lines all old number refused written before between
      → Answers shown between after taken → more ≡ cond taken.is_refused 1 0
      → sum ≡ counted (written + taken.written)
      → KeepsReplies shown skipped lines all old (number + 1) (refused + more) sum before after
  replies_on shown before between after refused written more sum taken replied answers more_is sum_is file depth c
      silent is on =
      let takes = takes_reply shown between after taken answers file depth c silent is on in
      subst (λ n. RepliedSoFar c skipped depth lines (number + 1) (refused + more) n before after) (sym sum_is)
      (replied_more c skipped depth lines number left line at_line
      (whole_machine silent c skipped depth lines number).is refused written more here taken before between after
      (replied file depth c silent is on) takes more_is)

  pub remarks_on : (shown between after : Option (List ℕ)) (taken : LineTaken)
      (ended_before ended_between ended : Bool) (a b d e : Option (List ℕ))
      → KeepsRemarks shown skipped lines all old number ended_before a b
      → WritesOrEnds ended_before ended_between b d (remarks_before (number + 1) now.now line here)
      → Answers shown between after taken
      → ((text : List ℕ) → IfOk taken.remarks (λ bytes. bytes.items ≡ text)
      → WritesOrEnds ended_between ended d e text)
      → KeepsRemarks shown skipped lines all old (number + 1) ended a e
  remarks_on shown between after taken ended_before ended_between ended a b d e remarked first_part answers
      second_part file depth c silent is on =
      let so = so_far depth c silent on.session_is on.planned in
      let planned = planned_at file skipped depth lines all old c silent on number left line streamed now so in
      let takes = takes_reply shown between after taken answers file depth c silent is on in
      remarked_more c skipped depth lines silent number left line here at_line
      (whole_machine silent c skipped depth lines number).is now so.machine planned.own planned.planned ended_before
      ended_between ended a b d e (remarked file depth c silent is on) first_part (second_part _ takes.remarks)

  -- ---- a fault at it

  pub line_stops : (shown before between mid after : Option (List ℕ)) (read_fails : ReadError → Type 0)
      (replies_failed : Bool) (refused written : ℕ) (e : PassFault)
      → KeepsReplies shown skipped lines all old number refused written before between
      → ((count : ℕ) × ((file : List ℕ) (c : Contents) (silent : ℕ → Bool) (h : History) → shown ≡ Some file
      → IsPlannedAt file skipped c silent h line here → now ≡ machine_of (hollow silent c) h
      → (count ≤ length (reply_on skipped (number + 1) line (machine_of c h)))
      × Appends between mid (take count (reply_on skipped (number + 1) line (machine_of c h))))
      × StopsFor read_fails replies_failed count e)
      → Keeps mid after
      → StopsInLinesPlanned read_fails shown skipped lines all old before after (error_at_line (number + 1) written e)
  line_stops shown before between mid after read_fails replies_failed refused written e replied (count, some, stops)
      kept file depth c silent is on =
      let so = so_far depth c silent on.session_is on.planned in
      let planned = planned_at file skipped depth lines all old c silent on number left line streamed now so in
      one_line_stops c skipped depth lines number left line at_line
      (whole_machine silent c skipped depth lines number).is read_fails replies_failed refused written count before
      between mid after e (replied file depth c silent is on)
      (some file c silent (history_at c skipped depth lines number) is planned so.machine) kept stops

  pub remarks_stop : (shown : Option (List ℕ)) (ended_before ended : Bool) (a b e : Option (List ℕ))
      → KeepsRemarks shown skipped lines all old number ended_before a b
      → WritesOrEnds ended_before ended b e (remarks_before (number + 1) now.now line here)
      → (file : List ℕ) (depth : ℕ) (c : Contents) (silent : ℕ → Bool) → shown ≡ Some file
      → IsPlannedOn file skipped depth lines all old c silent
      → (count : ℕ) × ((count ≤ length (session_remarks 1 (initial_machine c depth) lines))
      × Appends a e (take count (session_remarks 1 (initial_machine c depth) lines)))
  remarks_stop shown ended_before ended a b e remarked first_part file depth c silent is on =
      let so = so_far depth c silent on.session_is on.planned in
      let planned = planned_at file skipped depth lines all old c silent on number left line streamed now so in
      let took = remarked_before_end c skipped depth lines silent number left line here at_line
      (whole_machine silent c skipped depth lines number).is now so.machine planned.own planned.planned ended_before
      ended a b e (remarked file depth c silent is on) first_part in
      (took.0, (took.1, took.2))

-- ---- after the last line

module _ (skipped number : ℕ) (lines left : List (List ℕ)) (all streamed : List StreamedLine)
    (old now : Machine) (left_after : AreLeftAfter lines number left) where
  pub remarks_end : (shown : Option (List ℕ)) (ended : Bool) (a e : Option (List ℕ))
      → KeepsRemarks shown skipped lines all old number ended a e
      → (file : List ℕ) (depth : ℕ) (c : Contents) (silent : ℕ → Bool) → shown ≡ Some file
      → IsPlannedOn file skipped depth lines all old c silent
      → (count : ℕ) × ((count ≤ length (session_remarks 1 (initial_machine c depth) lines))
      × Appends a e (take count (session_remarks 1 (initial_machine c depth) lines)))
  remarks_end shown ended a e remarked file depth c silent is on =
      let took = remarked_in_part c skipped depth lines number left ended a e left_after
      (remarked file depth c silent is on) in
      (took.0, (took.1, took.2))

  module _ (none : left ≡ []) where
    pub machines_end : KeepsMachines skipped lines all old number left streamed now
        → (depth : ℕ) (c : Contents) (silent : ℕ → Bool) → old ≡ initial_machine (hollow silent c) depth
        → ArePlanned c skipped silent 1 (initial_history depth) lines all → now ≡ machine_after_lines old lines
    machines_end machines depth c silent at planned =
        (machines depth c silent at planned).after ∙ ap (machine_after_lines old) (all_done left_after none)

    pub lines_ran : (shown before between after : Option (List ℕ)) (refused written : ℕ)
        → KeepsMachines skipped lines all old number left streamed now
        → KeepsReplies shown skipped lines all old number refused written before between → Keeps between after
        → RunsPlannedLines shown skipped lines all old now refused before after
    lines_ran shown before between after refused written machines replied kept file depth c silent is on = (
      all_replied c skipped depth lines number refused written left before between after left_after none
          (replied file depth c silent is on) kept,
      machines_end machines depth c silent on.session_is on.planned
          ∙ ap (λ (m : Machine). machine_after_lines m lines) on.session_is,
    )

    pub flush_stops : (shown before between after : Option (List ℕ)) (read_fails : ReadError → Type 0)
        (refused written : ℕ) → KeepsReplies shown skipped lines all old number refused written before between
        → Keeps between after
        → StopsInLinesPlanned read_fails shown skipped lines all old before after
        (errors.Run (run_errors.ReplyFault written))
    flush_stops shown before between after read_fails refused written replied kept file depth c silent is on =
        last_flush_stops c skipped depth lines read_fails number refused written left before between after left_after
        none (replied file depth c silent is on) kept
