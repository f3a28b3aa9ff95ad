-- What lines make of the state of a dry run, by the history.
use Rattle.std.proofs.Common.{◌≡◌, ℕ, ◌+◌, Bool, true, false, if◌then◌else◌, List, [], ◌∷◌, length, Result, Ok, is_err}
use Rattle.std.proofs.Common.{refl, sym, ap, subst, ◌∙◌}
use Rattle.std.specs.Prelude.{fold}
use Rattle.vcd_core.specs.Contents.{Contents}
use Rattle.vcd_journal.specs.History.{History, replay}
use Rattle.vcd_journal.specs.Machine.{Machine}
use Rattle.vcd_journal.proofs.shared.Replay.{IsMachineOf}
use Rattle.vcd_script.specs.declared.script.command.Command.{Command}
use Rattle.vcd_script.specs.declared.script.command.Command.TheVariants as commands
use Rattle.vcd_script.specs.declared.script.line_error.LineError.{LineError}
use Rattle.vcd_script.specs.ScriptCommands.{command_of_line}
use Rattle.vcd_script.specs.SessionLines.{is_refused_on}
use Rattle.vcd_script.specs.Run.{line_answer, history_after_line, history_after_command}
use Rattle.vcd_script.proofs.shared.LinesAndHistory.{answer_is, line_follows}
use Rattle.vcd_amend_run.specs.EditsInForce.{EditLines, lines_after_command, lines_after_line, lines_after}
use Rattle.vcd_amend_run.specs.declared.dry_running.DryState.{DryState}
use Rattle.vcd_amend_run.specs.inside.dry_running.OriginHistory.{OriginNotes, notes_after_command}
use Rattle.vcd_amend_run.specs.inside.dry_running.HistoryNotes.{HistoryNotes, noted_after_command}
use Rattle.vcd_amend_run.specs.inside.dry_running.HeardLines.{HearsLine, HearLines}
use Rattle.vcd_amend_run.proofs.dry_running.origin_history.NotesOfHistory.{notes_of, step_follows}

-- ---- one line

command_follows : (count : ℕ) (h : History) (parsed : Result Command LineError)
    → notes_after_command (notes_of count h) parsed ≡ notes_of count (history_after_command h parsed)
command_follows count h (Ok (commands.Step s)) = step_follows count h s
command_follows count h parsed = refl

-- the notes of a history, with these lines
abbrev pub noted : ℕ → History → EditLines → HistoryNotes
noted count h l = record { notes = notes_of count h; lines = l }

unless_refused : (count : ℕ) (h : History) (l : EditLines) (line : List ℕ) (refused : Bool)
    (parsed : Result Command LineError) →
    (if refused then noted count h l else noted_after_command (noted count h l) line parsed)
    ≡ noted count (if refused then h else history_after_command h parsed)
    (if refused then l else lines_after_command l line parsed)
unless_refused count h l line true parsed = refl
unless_refused count h l line false parsed =
    ap (λ (n : OriginNotes). record { notes = n; lines = lines_after_command l line parsed })
    (command_follows count h parsed)

-- the state is that of the history, with the lines of the edits
pub record IsStateOf (c : Contents) (h : History) (l : EditLines) (s : DryState) : Type 0 where
  pub machine : IsMachineOf c h s.session
  pub notes : s.history ≡ noted (length c.signals) h l

module _ (c : Contents) (skipped : ℕ) where
  abbrev count : ℕ
  count = length c.signals

  -- what a line asks for
  pub asked_is : (h : History) (m : Machine) (line : List ℕ) → IsMachineOf c h m
      → command_of_line m.now line ≡ command_of_line (replay c h.edits) line
  asked_is h m line is = ap (λ (n : Machine). command_of_line n.now line) is.is

  notes_follow : (h : History) (l : EditLines) (m : Machine) (line : List ℕ) → IsMachineOf c h m →
      (if is_refused_on skipped line m then noted count h l
      else noted_after_command (noted count h l) line (command_of_line m.now line))
      ≡ noted count (history_after_line c skipped h line) (lines_after_line c skipped h l line)
  notes_follow h l m line is =
      (λ i. if is_err (answer_is c h m skipped line is i) then noted count h l
      else noted_after_command (noted count h l) line (asked_is h m line is i))
      ∙ unless_refused count h l line (is_err (line_answer c skipped h line))
      (command_of_line (replay c h.edits) line)

  pub state_follows : (number : ℕ) (h : History) (l : EditLines) (line : List ℕ) (old new : DryState)
      → IsStateOf c h l old → HearsLine skipped number line old new
      → IsStateOf c (history_after_line c skipped h line) (lines_after_line c skipped h l line) new
  state_follows number h l line old new is hears = record {
    machine = subst (IsMachineOf c (history_after_line c skipped h line)) hears.machine
        (line_follows c h old.session skipped line is.machine);
    notes = sym hears.notes
        ∙ ap (λ (n : HistoryNotes). if is_refused_on skipped line old.session then n
        else noted_after_command n line (command_of_line old.session.now line)) is.notes
        ∙ notes_follow h l old.session line is.machine;
  }

  -- ---- lines

  pub states_follow : (number : ℕ) (h : History) (l : EditLines) (lines : List (List ℕ)) (old new : DryState)
      → IsStateOf c h l old → HearLines skipped number lines old new
      → IsStateOf c (fold (history_after_line c skipped) h lines) (lines_after c skipped h l lines) new
  unfolding HearLines lines_after
  states_follow number h l [] old new is hear = subst (IsStateOf c h l) hear is
  states_follow number h l (line ∷ lines) old new is hear =
      states_follow (number + 1) (history_after_line c skipped h line) (lines_after_line c skipped h l line) lines
      hear.0 new (state_follows number h l line old hear.0 is hear.1) hear.2
