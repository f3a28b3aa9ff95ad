-- Runs on captures that lack the waves of silent signals. The project's own.
use Rattle.std.specs.Prelude.{◌≡◌, ℕ, Bool, false, List, [], ◌∷◌, ◌++◌, length, map}
use Rattle.std.specs.Prelude.{Result, Ok, Err}
use Rattle.std.specs.List.{AllByRecursion, filter_map, slice_get}
use Rattle.std.specs.Option.{option_to_list}
use Rattle.vcd_core.specs.Contents.{Contents}
use Rattle.vcd_core.specs.Outline.{outline}
use Rattle.vcd_edit.specs.declared.edit.Edit.{Edit}
use Rattle.vcd_hollow.specs.OtherWaves.{with_others, HaveOwn, OtherChanges, waves_read}
use Rattle.vcd_journal.specs.declared.step.Step.TheVariants as steps
use Rattle.vcd_journal.specs.History.{History, replay}
use Rattle.vcd_hollow.specs.Origins.{origins}
use Rattle.vcd_hollow.specs.Cuts.{cuts, CutsFit}
use Rattle.vcd_hollow.specs.Hollow.{emptied, filled, hollow, ReadOwn}
use Rattle.vcd_script.specs.declared.script.command.Command.{Command}
use Rattle.vcd_script.specs.declared.script.command.Command.TheVariants as commands
use Rattle.vcd_script.specs.declared.script.line_error.LineError.{LineError}
use Rattle.vcd_script.specs.ScriptCommands.{command_of_line}
use Rattle.vcd_script.specs.Reply.{line_reply}
use Rattle.vcd_script.specs.Run.{history_at, capture_at, line_answer}

-- ---- what lines read

-- the positions of the signals whose changes a command shows, or its edit reads
abbrev pub waves_of_command : Command → List ℕ
waves_of_command (commands.Step (steps.Edit e)) = waves_read e
waves_of_command (commands.Value k tick) = k ∷ []
waves_of_command (commands.Changes k) = k ∷ []
waves_of_command (commands.Uart k setup) = k ∷ []
waves_of_command (commands.Spi clk mosi miso cs setup) =
    clk ∷ option_to_list mosi ++ option_to_list miso ++ option_to_list cs
waves_of_command (commands.I2c scl sda) = scl ∷ sda ∷ []
waves_of_command command = []

-- the same for a line; one that is no command reads none
abbrev pub waves_asked : Result Command LineError → List ℕ
waves_asked (Ok command) = waves_of_command command
waves_asked (Err found) = []

-- the origins of the signals at these positions; a derived signal has none
abbrev pub origins_at : (origins : List ℕ) → List ℕ → List ℕ
origins_at origins = filter_map (slice_get origins)

-- the positions in the first capture of the signals whose changes a line asks for, which is read
-- after this history
abbrev pub origins_of_line : Contents → History → List ℕ → List ℕ
origins_of_line c h line = origins_at (origins (length c.signals) h.edits)
    (waves_asked (command_of_line (replay c h.edits) line))

-- none of these signals is silent
abbrev pub AreHeard : (silent : ℕ → Bool) → List ℕ → Type 0
AreHeard silent = AllByRecursion (λ k. silent k ≡ false)

-- lines on a capture, from an empty history of this depth on
module _ (c : Contents) (skipped depth : ℕ) (lines : List (List ℕ)) where
  -- the edits in force after the last line
  abbrev pub last_edits : List Edit
  last_edits = (history_at c skipped depth lines (length lines)).edits

  -- the capture after the last line
  abbrev pub last_capture : Contents
  last_capture = capture_at c skipped depth lines (length lines)

-- the edits in force after any of the lines read the changes of no silent signal
abbrev pub EditsReadOwn : (silent : ℕ → Bool) → Contents → (skipped depth : ℕ) → List (List ℕ)
    → Type 0
EditsReadOwn silent c skipped depth lines =
    (count : ℕ) → ReadOwn (emptied silent) (length c.signals)
    (history_at c skipped depth lines count).edits

-- ---- the laws

-- what a line asks for depends on the outline alone
abbrev pub CommandIsOfOutline : Type 0
CommandIsOfOutline =
    (c d : Contents) (line : List ℕ) → outline c ≡ outline d
    → command_of_line c line ≡ command_of_line d line

-- lines on captures of one outline have the same histories
abbrev pub HistoryIsOfOutline : Type 0
HistoryIsOfOutline =
    (c d : Contents) (skipped depth : ℕ) (lines : List (List ℕ)) (count : ℕ)
    → outline c ≡ outline d
    → history_at c skipped depth lines count ≡ history_at d skipped depth lines count

-- and a line asks for the same signals after one history
abbrev pub AskedIsOfOutline : Type 0
AskedIsOfOutline =
    (c d : Contents) (h : History) (line : List ℕ) → outline c ≡ outline d
    → origins_of_line c h line ≡ origins_of_line d h line

-- the reply to a line, if the signals whose changes it asks for have their own
abbrev pub ReplyWithOthers : Type 0
ReplyWithOthers =
    (others : List OtherChanges) (c : Contents) (line : List ℕ) (skipped undoable redoable : ℕ)
    → HaveOwn others (waves_asked (command_of_line c line))
    → line_reply line (with_others others c) skipped undoable redoable
    ≡ line_reply line c skipped undoable redoable

-- a line that asks for the changes of no silent signal has the same answer on the capture without
-- these changes, after edits that read none of them
abbrev pub AnswerOnHollow : Type 0
AnswerOnHollow =
    (silent : ℕ → Bool) (c : Contents) (skipped : ℕ) (h : History) (line : List ℕ)
    → ReadOwn (emptied silent) (length c.signals) h.edits
    → AreHeard silent (origins_of_line c h line)
    → line_answer (hollow silent c) skipped h line ≡ line_answer c skipped h line

-- the run of lines on the capture without the changes of silent signals has the same histories; its
-- last capture is that of the run on the whole capture without the changes of the silent signals
-- that are left, and gives the whole one back: the cuts alone have changed the silent waves
pub record IsSameRun (silent : ℕ → Bool) (c : Contents) (skipped depth : ℕ)
    (lines : List (List ℕ)) : Type 0 where
  pub same_histories : (count : ℕ) → history_at (hollow silent c) skipped depth lines count
      ≡ history_at c skipped depth lines count
  pub hollow_capture : last_capture (hollow silent c) skipped depth lines
      ≡ with_others
      (map (emptied silent) (origins (length c.signals) (last_edits c skipped depth lines)))
      (last_capture c skipped depth lines)
  pub whole_capture : last_capture c skipped depth lines
      ≡ with_others
      (map (filled silent (replay c (cuts (last_edits c skipped depth lines))))
      (origins (length c.signals) (last_edits c skipped depth lines)))
      (last_capture (hollow silent c) skipped depth lines)

-- this holds if the edits in force read the changes of no silent signal, whatever other lines ask
-- for
abbrev pub RunOnHollow : Type 0
RunOnHollow =
    (silent : ℕ → Bool) (c : Contents) (skipped depth : ℕ) (lines : List (List ℕ))
    → EditsReadOwn silent c skipped depth lines → IsSameRun silent c skipped depth lines

-- the cuts in force fit the capture
abbrev pub CutsOfRunFit : Type 0
CutsOfRunFit =
    (c : Contents) (skipped depth : ℕ) (lines : List (List ℕ)) (count : ℕ)
    → CutsFit c (history_at c skipped depth lines count).edits
