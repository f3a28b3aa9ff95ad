-- Which lines of a dry run are streamed, and which signals all others ask for.
use Rattle.std.specs.Prelude.{◌≡◌, ◌⊎◌, ℕ, Bool, true, false, List, [], ◌∷◌, ◌++◌, map, length}
use Rattle.std.specs.Prelude.{replicate, slice_set, Option, Some, IfSome, Result, Ok}
use Rattle.std.specs.List.{AllByRecursion, slice_get}
use Rattle.std.specs.Option.{option_map}
use Rattle.vcd_journal.specs.declared.step.Step.TheVariants as steps
use Rattle.vcd_script.specs.declared.script.command.Command.{Command}
use Rattle.vcd_script.specs.declared.script.command.Command.TheVariants as commands
use Rattle.vcd_script.specs.declared.script.line_error.LineError.{LineError}
use Rattle.vcd_hollow.specs.OtherWaves.{waves_read}
use Rattle.vcd_hollow.specs.HollowRun.{waves_asked, origins_at}
use Rattle.vcd_remarks.specs.DecoderLines.{decoder_lines}
use Rattle.vcd_amend.specs.declared.cut_ticks.CutTicks.{CutTicks}
use Rattle.vcd_amend_run.specs.declared.streamed_line.StreamedLine.{StreamedLine}
use Rattle.vcd_amend_run.specs.inside.dry_running.OriginHistory.{OriginNotes, cuts_noted}

-- the marks of signals, with these marked too
abbrev pub marked : List Bool → List ℕ → List Bool
marked marks [] = marks
marked marks (k ∷ ks) = marked (slice_set marks k true) ks

-- ---- what is found

-- the marks of the signals that lines ask for which are not streamed, those of the signals that
-- accepted edits read, and the streamed lines
pub record PlanNotes : Type 0 where
  pub heard : List Bool
  pub read : List Bool
  pub streamed : List StreamedLine

-- before the first line, on a capture with so many signals
abbrev pub planned_before_lines : (count : ℕ) → PlanNotes
planned_before_lines count =
    record { heard = replicate count false; read = replicate count false; streamed = [] }

-- ---- a line before it is answered

-- the origins of the signals of a decoder's lines; no accepted edit read them
pub record AreUnread (read : List Bool) (origins : List ℕ) (lines found : List (Option ℕ)) :
    Type 0 where
  pub are_origins : map (option_map (slice_get origins)) lines
      ≡ map (option_map (λ k. Some k)) found
  pub unread : AllByRecursion (λ line. IfSome line (λ k. slice_get read k ≡ Some false)) found

-- a line of this number is added, which decodes these signals after these cuts
pub record AddsLine (number : ℕ) (lines : List (Option ℕ)) (cuts : List CutTicks)
    (old new : PlanNotes) : Type 0 where
  pub added : StreamedLine
  pub number_is : added.number ≡ number
  pub lines_are : added.lines ≡ lines
  pub cuts_are : added.cuts.items ≡ cuts
  pub plan : new ≡ record old { streamed = old.streamed ++ added ∷ [] }

-- the line of this number, which asks for this, decodes unread signals and is streamed
pub record StreamsLine (number : ℕ) (n : OriginNotes) (asked : Result Command LineError)
    (old new : PlanNotes) : Type 0 where
  pub command : Command
  pub asked_is : asked ≡ Ok command
  pub decodes : length (decoder_lines command) ≡ 4
  pub lines : List (Option ℕ)
  pub unread : AreUnread old.read n.origins (decoder_lines command) lines
  pub added : AddsLine number lines (cuts_noted n) old new

-- the line of this number, which asks for this, is streamed, or all that it asks for is marked
abbrev pub TakesLine : (number : ℕ) → OriginNotes → Result Command LineError → (old new : PlanNotes)
    → Type 0
TakesLine number n asked old new = StreamsLine number n asked old new
    ⊎ (new ≡ record old { heard = marked old.heard (origins_at n.origins (waves_asked asked)) })

-- ---- an accepted line

-- the positions of the signals whose changes the edit of a line reads
abbrev pub waves_edited : Result Command LineError → List ℕ
waves_edited (Ok (commands.Step (steps.Edit e))) = waves_read e
waves_edited asked = []

-- after a line that asks for this, on signals with these origins, and is not refused
abbrev pub planned_after_command : PlanNotes → (origins : List ℕ) → Result Command LineError
    → PlanNotes
planned_after_command p origins asked =
    record p { read = marked p.read (origins_at origins (waves_edited asked)) }
