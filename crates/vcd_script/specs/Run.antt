-- What a run writes: the headline. The project's own.
use Rattle.std.specs.Prelude.{◌≡◌, ◌≤◌, ◌<◌, ◌+◌, ◌-◌, ℕ, true, false, if◌then◌else◌, List, [], ◌∷◌}
use Rattle.std.specs.Prelude.{length, min, take}
use Rattle.std.specs.Prelude.{get_or, map, fold, count_by, Result, Ok, is_err}
use Rattle.std.specs.List.{enumerate_from}
use Rattle.vcd_core.specs.Contents.{Contents}
use Rattle.vcd_core.specs.Sound.{IsSound}
use Rattle.vcd_core.specs.declared.capture.TheConstants.{SIGNAL_LIMIT}
use Rattle.vcd_text.specs.Meaning.{FileMeans}
use Rattle.vcd_text.specs.Text.{text}
use Rattle.vcd_edit.specs.declared.edit.Edit.{Edit}
use Rattle.vcd_journal.specs.declared.step.Step.{Step}
use Rattle.vcd_journal.specs.declared.step.Step.TheVariants as steps
use Rattle.vcd_journal.specs.History.{History, initial_history, history_after, replay}
use Rattle.vcd_script.specs.declared.script.command.Command.{Command}
use Rattle.vcd_script.specs.declared.script.command.Command.TheVariants as commands
use Rattle.vcd_script.specs.declared.script.line_error.LineError.{LineError}
use Rattle.vcd_script.specs.Script.{script_lines}
use Rattle.vcd_script.specs.ScriptCommands.{command_of_line}
use Rattle.vcd_script.specs.Reply.{LineReply, line_reply, reply_text}

-- what a whole run writes: a reply to each line, and the output; and how many lines it refuses
pub record RunOutcome : Type 0 where
  pub replies : List (List ℕ)
  pub output : List ℕ
  pub refused : ℕ

-- the history after what a line asks for, if that is not refused: steps alone change it
abbrev pub history_after_command : History → Result Command LineError → History
history_after_command h (Ok (commands.Step s)) = history_after h s
history_after_command h parsed = h

-- lines on a capture `c`, of whose file `skipped` variables were skipped
module _ (c : Contents) (skipped : ℕ) where
  -- the reply to a line, which is read on the replay of the edits in force
  abbrev pub line_answer : History → List ℕ → LineReply
  line_answer h line = line_reply line (replay c h.edits) skipped h.undoable (length h.undone)

  -- the history after a line: a refused one changes nothing
  abbrev pub history_after_line : History → List ℕ → History
  history_after_line h line = if is_err (line_answer h line) then h
      else history_after_command h (command_of_line (replay c h.edits) line)

-- these lines, from an empty history on, whose depth is `depth` until a line changes it
module _ (c : Contents) (skipped depth : ℕ) (lines : List (List ℕ)) where
  -- the history after the first `count` lines
  abbrev pub history_at : ℕ → History
  history_at count = fold (history_after_line c skipped) (initial_history depth) (take count lines)

  -- the capture after the first `count` lines: the replay of the edits then in force
  abbrev pub capture_at : ℕ → Contents
  capture_at count = replay c (history_at count).edits

  -- the answer to each line, on the capture after the lines before it
  abbrev pub answers : List LineReply
  answers = map (λ p. line_answer c skipped (history_at p.0) p.1) (enumerate_from 0 lines)

  -- what is written if the lines are run: the answers, each with the number of its line, from 1 on;
  -- the text of the last capture; and how many answers are refusals
  abbrev pub outcome : RunOutcome
  outcome = record {
    replies = map (λ p. reply_text p.0 p.1) (enumerate_from 1 answers);
    output = text (capture_at (length lines));
    refused = count_by is_err answers;
  }

  -- ---- what follows from these equations

  -- the line of this number, counted from 1: it is read after `number - 1` lines
  abbrev pub line_at : ℕ → List ℕ
  line_at number = get_or lines (number - 1) []

  -- the line of this number asks for this step and is not refused
  abbrev pub IsStepAt : ℕ → Step → Type 0
  IsStepAt number s =
      (command_of_line (capture_at (number - 1)) (line_at number) ≡ Ok (commands.Step s))
      × (is_err (line_answer c skipped (history_at (number - 1)) (line_at number)) ≡ false)

  -- laws of every run: `IsRun` asks for none of them, and all are proved
  pub record RunLaws : Type 0 where
    -- after each line the capture is one that a file can describe
    pub sound : (count : ℕ) → IsSound (capture_at count)
    -- no more edits can be undone than are in force
    pub undoable : (count : ℕ) → (history_at count).undoable ≤ length (history_at count).edits
    -- no more edits than the depth can be undone and made again, together
    pub bounded : (count : ℕ)
        → (history_at count).undoable + length (history_at count).undone ≤ (history_at count).depth
    -- a refused line leaves the history as it was, and with it the capture
    pub unchanged : (number : ℕ) → 1 ≤ number
        → is_err (line_answer c skipped (history_at (number - 1)) (line_at number)) ≡ true
        → history_at number ≡ history_at (number - 1)
    -- the depth is never 0
    pub deep : (count : ℕ) → 1 ≤ depth → 1 ≤ (history_at count).depth
    -- after `count` edits in a row so many can be undone, or as many as the depth
    pub edits_can_be_undone : (before count : ℕ)
        → ((number : ℕ) → before < number → number ≤ before + count
        → (e : Edit) × IsStepAt number (steps.Edit e))
        → min count (history_at (before + count)).depth ≤ (history_at (before + count)).undoable
    -- an undo can be made again right after it
    pub undo_can_be_redone : (number : ℕ) → 1 ≤ number → IsStepAt number steps.Undo
        → 1 ≤ length (history_at number).undone
    -- an undo restores the capture before line i, which made the last edit in force
    pub undo_restores : (number : ℕ) → 1 ≤ number → IsStepAt number steps.Undo
        → (i : ℕ) × (e : Edit) × (1 ≤ i) × (i < number) × IsStepAt i (steps.Edit e)
        × ((history_at (number - 1)).edits ≡ e ∷ (history_at (i - 1)).edits)
        × (capture_at number ≡ capture_at (i - 1))
    -- a redo restores the capture before line i, which undid it: the same edits are in force again
    pub redo_restores : (number : ℕ) → 1 ≤ number → IsStepAt number steps.Redo
        → (i : ℕ) × (1 ≤ i) × (i < number) × IsStepAt i steps.Undo
        × ((history_at number).edits ≡ (history_at (i - 1)).edits)
        × (capture_at number ≡ capture_at (i - 1))
    -- the output, read again, means the last capture, with nothing left out
    pub read_again : FileMeans SIGNAL_LIMIT outcome.output (capture_at (length lines)) 0
    -- the output means nothing else
    pub nothing_else : (d : Contents) (count : ℕ) → FileMeans SIGNAL_LIMIT outcome.output d count
        → (d ≡ capture_at (length lines)) × (count ≡ 0)

-- what is written if the lines of a script are run on what a capture file means
pub record IsRun (file script : List ℕ) (depth : ℕ) (written : RunOutcome) : Type 0 where
  pub contents : Contents
  pub skipped : ℕ
  pub means : FileMeans SIGNAL_LIMIT file contents skipped
  pub run : written ≡ outcome contents skipped depth (script_lines script)
