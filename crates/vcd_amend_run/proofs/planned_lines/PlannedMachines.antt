-- The machines of planned lines, by their history: a streamed line leaves the machine.
use Rattle.std.proofs.Common.{◌≡◌, ◌≤◌, ◌+◌, ℕ, Bool, true, false, List, [], ◌∷◌, length, take, Ok, refl, sym}
use Rattle.std.proofs.Common.{ap, subst, ◌∙◌, inl, inr, arith, Option, Some, None, is_err}
use Rattle.std.specs.Prelude.{if◌then◌else◌}
use Rattle.vcd_core.specs.Contents.{Contents}
use Rattle.vcd_hollow.specs.Hollow.{hollow}
use Rattle.vcd_hollow.proofs.shared.Hollow.{hollow_outline}
use Rattle.vcd_hollow.proofs.shared.HollowRuns.{command_same, next_same}
use Rattle.vcd_journal.specs.History.{History, initial_history, replay}
use Rattle.vcd_journal.specs.HistoryMachine.{machine_of}
use Rattle.vcd_journal.specs.Machine.{Machine, initial_machine}
use Rattle.vcd_journal.proofs.shared.Replay.{IsMachineOf, first_follows}
use Rattle.vcd_remarks.specs.DecoderLines.{decoder_lines}
use Rattle.vcd_script.specs.Run.{history_after_command, line_answer, history_after_line, history_at}
use Rattle.vcd_script.specs.ScriptCommands.{command_of_line}
use Rattle.vcd_script.specs.SessionLines.{machine_after_command, machine_after_line, machine_after_lines}
use Rattle.vcd_script.specs.declared.script.command.Command.{Command}
use Rattle.vcd_script.specs.declared.script.command.Command.TheVariants as commands
use Rattle.vcd_script.proofs.shared.LinesAndHistory.{line_follows, lines_follow}
use Rattle.vcd_amend_run.specs.declared.streamed_line.StreamedLine.{StreamedLine}
use Rattle.vcd_amend_run.specs.inside.PlannedLine.{streamed_here, streamed_after, IsPlannedAs, machine_after_planned}
use Rattle.vcd_amend_run.specs.inside.StreamedLines.{IsStreamed, ArePlanned}
use Rattle.vcd_amend_run.proofs.planned_lines.LinesAfter.{AreLeftAfter, machine_more, history_more}

-- ---- the plan of the first line

pub first_planned : (c : Contents) (skipped : ℕ) (silent : ℕ → Bool) (number : ℕ) (h : History) (line : List ℕ)
    (lines : List (List ℕ)) (streamed : List StreamedLine)
    → ArePlanned c skipped silent number h (line ∷ lines) streamed
    → IsPlannedAs silent c h line (streamed_here number streamed)
    × ArePlanned c skipped silent (number + 1) (history_after_line c skipped h line) lines
    (streamed_after number streamed)
unfolding ArePlanned
first_planned c skipped silent number h line lines [] planned = planned
first_planned c skipped silent number h line lines (s ∷ streamed) (inl (here, is, rest)) =
    subst (λ b. IsPlannedAs silent c h line (if b then Some s else None)
    × ArePlanned c skipped silent (number + 1) (history_after_line c skipped h line) lines
    (if b then streamed else s ∷ streamed)) (sym here) (is, rest)
first_planned c skipped silent number h line lines (s ∷ streamed) (inr (other, heard, rest)) =
    subst (λ b. IsPlannedAs silent c h line (if b then Some s else None)
    × ArePlanned c skipped silent (number + 1) (history_after_line c skipped h line) lines
    (if b then streamed else s ∷ streamed)) (sym other) (heard, rest)

-- ---- a command that decodes

keeps_history : (h : History) (command : Command) → length (decoder_lines command) ≡ 4
    → history_after_command h (Ok command) ≡ h
keeps_history h (commands.Step s) decodes = absurd (omega (arith, decodes))
keeps_history h command decodes = refl

keeps_machine : (m : Machine) (command : Command) → length (decoder_lines command) ≡ 4
    → machine_after_command m (Ok command) ≡ m
keeps_machine m (commands.Step s) decodes = absurd (omega (arith, decodes))
keeps_machine m command decodes = refl

same_either_way : {X : Type 0} (b : Bool) (x y : X) → y ≡ x → (if b then x else y) ≡ x
same_either_way true x y is = refl
same_either_way false x y is = is

module _ (silent : ℕ → Bool) (c : Contents) (skipped : ℕ) where
  abbrev d : Contents
  d = hollow silent c

  streamed_keeps_history : (h : History) (line : List ℕ) (s : StreamedLine) → IsStreamed c h line s
      → history_after_line c skipped h line ≡ h
  streamed_keeps_history h line s is =
      same_either_way (is_err (line_answer c skipped h line)) h _
      (ap (history_after_command h) is.asked ∙ keeps_history h is.command is.decodes)

  -- the command is the same without silent changes
  pub asked_on_hollow : (h : History) (line : List ℕ) (s : StreamedLine) (is : IsStreamed c h line s)
      → command_of_line (replay d h.edits) line ≡ Ok is.command
  asked_on_hollow h line s is = command_same d c (hollow_outline silent c) skipped h line ∙ is.asked

  streamed_keeps_machine : (h : History) (m : Machine) (line : List ℕ) (s : StreamedLine) → m ≡ machine_of d h
      → IsStreamed c h line s → machine_after_line m line ≡ m
  unfolding machine_after_line
  streamed_keeps_machine h m line s at is =
      ap (machine_after_command m)
      (ap (λ (n : Machine). command_of_line n.now line) at ∙ asked_on_hollow h line s is)
      ∙ keeps_machine m is.command is.decodes

  -- ---- one line

  -- the machine after a planned line is that after any line
  after_planned : (h : History) (m : Machine) (line : List ℕ) (here : Option StreamedLine) → m ≡ machine_of d h
      → IsPlannedAs silent c h line here → machine_after_planned here m line ≡ machine_after_line m line
  after_planned h m line None at planned = refl
  after_planned h m line (Some s) at planned = sym (streamed_keeps_machine h m line s at planned)

  line_on_hollow : (h : History) (m : Machine) (line : List ℕ) → h.undoable ≤ length h.edits → m ≡ machine_of d h
      → machine_after_line m line ≡ machine_of d (history_after_line c skipped h line)
  line_on_hollow h m line within at =
      (line_follows d h m skipped line (record { is = at; undoable = within })).is
      ∙ ap (machine_of d) (next_same d c (hollow_outline silent c) skipped h line)

  -- ---- lines

  module _ (depth : ℕ) (lines : List (List ℕ)) where
    abbrev history : ℕ → History
    history number = history_at c skipped depth lines number

    -- the machine of the whole capture after the first lines, and what can be undone
    pub whole_machine : (number : ℕ)
        → IsMachineOf c (history number) (machine_after_lines (initial_machine c depth) (take number lines))
    whole_machine number =
        lines_follow c (initial_history depth) (initial_machine c depth) skipped (take number lines)
        (first_follows c depth)

    -- so far the machine is that of the history without silent changes, and the lines left are planned
    pub record MachinesSoFar (number : ℕ) (left : List (List ℕ)) (streamed : List StreamedLine) (old now : Machine)
        : Type 0 where
      pub machine : now ≡ machine_of d (history number)
      pub after : now ≡ machine_after_lines old (take number lines)
      pub planned : ArePlanned c skipped silent (number + 1) (history number) left streamed

    pub machines_first : (streamed : List StreamedLine) (old : Machine) → old ≡ initial_machine d depth
        → ArePlanned c skipped silent 1 (initial_history depth) lines streamed
        → MachinesSoFar 0 lines streamed old old
    unfolding machine_after_lines
    machines_first streamed old at planned = record {
      machine = at ∙ (first_follows d depth).is;
      after = refl;
      planned = planned;
    }

    pub machines_more : (number : ℕ) (left : List (List ℕ)) (line : List ℕ) (streamed : List StreamedLine)
        (old now new : Machine) → AreLeftAfter lines number (line ∷ left)
        → MachinesSoFar number (line ∷ left) streamed old now
        → new ≡ machine_after_planned (streamed_here (number + 1) streamed) now line
        → MachinesSoFar (number + 1) left (streamed_after (number + 1) streamed) old new
    machines_more number left line streamed old now new after so is =
        let h = history number in
        let first = first_planned c skipped silent (number + 1) h line left streamed so.planned in
        let stepped : new ≡ machine_after_line now line =
        is ∙ after_planned h now line (streamed_here (number + 1) streamed) so.machine first.0 in
        let next = history_more after c skipped depth in
        record {
          machine = stepped ∙ line_on_hollow h now line (whole_machine number).undoable so.machine
              ∙ ap (machine_of d) (sym next);
          after = stepped ∙ ap (λ (m : Machine). machine_after_line m line) so.after ∙ sym (machine_more after old);
          planned = subst (λ (g : History). ArePlanned c skipped silent (number + 1 + 1) g left
              (streamed_after (number + 1) streamed)) (sym next) first.1;
        }
