-- A run whose replies are written, and what is then known for the copy.
use Rattle.std.specs.Prelude.{◌≡◌, ◌⊎◌, ◌==◌, ℕ, Bool, true, false, not, List, [], length}
use Rattle.std.specs.Prelude.{Option, Some, IfSome, Err, is_some}
use Rattle.std.specs.Prelude.{slice_index_or}
use Rattle.std.specs.List.{concat}
use Rattle.vcd_core.specs.declared.capture.TheConstants.{SIGNAL_LIMIT}
use Rattle.vcd_core.specs.Contents.{Contents}
use Rattle.vcd_core.specs.CaptureContents.{contents}
use Rattle.vcd_core.specs.Outline.{outline}
use Rattle.vcd_core.specs.Devices.{DeviceEnd, IsUntouched, HasPrefix, HasText}
use Rattle.vcd_text.specs.Words.{words_of}
use Rattle.vcd_text.specs.Grammar.{ParseState, VariableDeclaration, Accepts}
use Rattle.vcd_text.specs.Meaning.{FileMeans}
use Rattle.vcd_journal.specs.History.{initial_history}
use Rattle.vcd_journal.specs.Machine.{Machine, initial_machine}
use Rattle.vcd_hollow.specs.Origins.{origins}
use Rattle.vcd_core.specs.SignalOrigins.{RiseWithin, ComeFrom}
use Rattle.vcd_hollow.specs.Hollow.{hollow}
use Rattle.vcd_script.specs.declared.running.run_error.RunError.TheVariants as run_errors
use Rattle.vcd_script.specs.Script.{script_lines}
use Rattle.vcd_script.specs.Run.{outcome}
use Rattle.vcd_remarks.specs.RemarksOfRun.{remarks_of_run}
use Rattle.vcd_hollow.specs.HollowRun.{last_edits, last_capture, IsSameRun}
use Rattle.vcd_amend.specs.declared.cut_ticks.CutTicks.{CutTicks}
use Rattle.vcd_amend_run.specs.inside.dry_running.OriginHistory.{ticks_of_cuts}
use Rattle.vcd_amend_run.specs.NewNames.{takes_skipped_name}
use Rattle.vcd_amend_run.specs.EditsInForce.{lines_in_force}
use Rattle.vcd_amend_run.specs.AmendRunEnds.{PassEnds, AllShow, AmendRunEnds, FailsOnceMore}
use Rattle.vcd_amend.specs.Amendment.{Amendment}
use Rattle.vcd_amend.specs.KnownSignals.{IsAmendmentFor}
use Rattle.vcd_amend.specs.RetimedCopy.{IsAmendedAfterCuts, is_cut_by}
use Rattle.vcd_copy.specs.Marks.{CommentBytes}
use Rattle.vcd_amend_run.specs.OutputRemarks.{output_remarks}
use Rattle.vcd_amend_run.specs.inside.CaptureAfterCuts.{capture_after_cuts}
use Rattle.vcd_amend_run.specs.declared.running.Passes.{Passes}
use Rattle.vcd_amend_run.specs.declared.running.AmendRunError.{AmendRunError}
use Rattle.vcd_amend_run.specs.declared.running.AmendRunError.TheVariants as errors
use Rattle.vcd_copy.specs.declared.copying.copy_error.CopyError.{CopyError}
use Rattle.vcd_copy.specs.declared.copying.copy_error.CopyError.TheVariants as copy_errors
use Rattle.vcd_amend_run.specs.declared.hearing.HearError.{HearError}
use Rattle.vcd_amend_run.specs.declared.hearing.HearError.TheVariants as hear_errors
use Rattle.vcd_amend_run.specs.declared.dry_running.DryRun.{DryRun}
use Rattle.vcd_amend_run.specs.declared.streamed_line.StreamedLine.{StreamedLine}
use Rattle.vcd_amend_run.specs.inside.StreamedLines.{ArePlanned}
use Rattle.vcd_amend_run.specs.inside.PlannedLines.{EndsInPlanned, StopsInLinesPlanned}
use Rattle.vcd_amend_run.specs.inside.PlannedLines.{RunsPlannedLines}

-- the passes before the copy show this file
abbrev pub ShowUpTo : {R O : Type 0} → (coming : R → Option (List ℕ))
    → (whole : O → Option (List ℕ)) → Passes R O → List ℕ → Type 0
ShowUpTo coming whole p file = (coming p.declarations ≡ Some file)
    × (coming p.outline ≡ Some file) × (coming p.changes ≡ Some file)
    × (whole p.again ≡ Some file)

-- the error of a file in which the changes that lines ask for were not found
abbrev pub error_of_hearing : HearError → AmendRunError
error_of_hearing (hear_errors.Read e) = errors.Run (run_errors.Capture e)
error_of_hearing hear_errors.Changed = errors.CaptureChanged

-- the error of a file that could not be copied
abbrev pub error_of_copy : CopyError → AmendRunError
error_of_copy (copy_errors.Read e) = errors.Run (run_errors.Capture e)
error_of_copy (copy_errors.Write e) = errors.Run (run_errors.Write e)

-- these are the lines whose edits are in force after these lines on what the file means
abbrev pub HasEditLines : (file lines : List ℕ) → (depth : ℕ) → (edit_lines : List (List ℕ))
    → Type 0
HasEditLines file lines depth edit_lines = (c : Contents) (skipped : ℕ)
    → FileMeans SIGNAL_LIMIT file c skipped
    → edit_lines ≡ lines_in_force c skipped depth (script_lines lines)

-- the signals of the later capture come from those of the first at these origins, but for the last
pub record IsLaterCapture (first : Contents) (ks : List ℕ) (last : Contents) : Type 0 where
  pub rising : RiseWithin 0 (length first.signals) ks
  pub come : ComeFrom first ks last.signals

-- what a dry run of lines finds on an outline
pub record IsDryRun (c : Contents) (skipped depth : ℕ) (lines : List (List ℕ)) (dry : DryRun) :
    Type 0 where
  pub planned : (silent : ℕ → Bool)
      → ((k : ℕ) → slice_index_or dry.heard.items k false ≡ true → silent k ≡ false)
      → ArePlanned c skipped silent 1 (initial_history depth) lines dry.streamed.items
  pub origins_are : dry.origins.items ≡ origins (length c.signals)
      (last_edits c skipped depth lines)
  pub cuts_are : dry.cuts.items ≡ ticks_of_cuts (last_edits c skipped depth lines)
  pub last_is : outline (contents dry.last) ≡ outline (last_capture c skipped depth lines)

-- before the first reply it is known of this file and these lines: the variables and what the
-- passes so far found
pub record IsPlanned (file lines : List ℕ) (depth : ℕ) (declared : List VariableDeclaration)
    (skipped : ℕ) (first : Contents) (streamed : List StreamedLine) (ks : List ℕ)
    (cuts : List CutTicks) (takes : Bool) : Type 0 where
  pub whole : Contents
  pub silent : ℕ → Bool
  pub means : FileMeans SIGNAL_LIMIT file whole skipped
  pub planned : ArePlanned whole skipped silent 1 (initial_history depth) (script_lines lines)
      streamed
  pub hollow_is : first ≡ hollow silent whole
  pub origins_are : ks ≡ origins (length whole.signals)
      (last_edits whole skipped depth (script_lines lines))
  pub cuts_are : cuts ≡ ticks_of_cuts (last_edits whole skipped depth (script_lines lines))
  pub variables : (s : ParseState) → Accepts SIGNAL_LIMIT (words_of file) s → declared ≡ s.declared
  pub names : takes ≡ takes_skipped_name declared whole.signals ks
      (last_capture whole skipped depth (script_lines lines)).signals

-- why a plan is refused: the file is to be written, and a name of a skipped variable is taken
abbrev pub RefusesPlan : (writes takes : Bool) → AmendRunError → Type 0
RefusesPlan writes takes e =
    (writes ≡ true) × (takes ≡ true) × (e ≡ errors.NameOfSkipped)

-- all replies are written, and the script is carried out
pub record IsEdited (file lines : List ℕ) (depth : ℕ) (writes : Bool) (took : List ℕ → Type 0)
    (declared : List VariableDeclaration) (first : Contents) (ks : List ℕ) (cuts : List CutTicks)
    (last : Contents) (refused : ℕ) : Type 0 where
  pub whole : Contents
  pub skipped : ℕ
  pub silent : ℕ → Bool
  pub means : FileMeans SIGNAL_LIMIT file whole skipped
  pub same : IsSameRun silent whole skipped depth (script_lines lines)
  pub hollow_is : first ≡ hollow silent whole
  pub last_is : last ≡ last_capture (hollow silent whole) skipped depth (script_lines lines)
  pub origins_are : ks ≡ origins (length whole.signals)
      (last_edits whole skipped depth (script_lines lines))
  pub cuts_are : cuts ≡ ticks_of_cuts (last_edits whole skipped depth (script_lines lines))
  pub free : writes ≡ true → takes_skipped_name declared whole.signals ks
      (last_capture whole skipped depth (script_lines lines)).signals ≡ false
  pub variables : (s : ParseState) → Accepts SIGNAL_LIMIT (words_of file) s → declared ≡ s.declared
  pub replies : took (concat (outcome whole skipped depth (script_lines lines)).replies)
  pub count : refused ≡ (outcome whole skipped depth (script_lines lines)).refused

-- the text is the file with a mark, if there is one, after these cuts, and with an amendment that
-- is known from these captures
abbrev pub IsAmendedFor : List VariableDeclaration → (first : Contents) → (ks : List ℕ)
    → List CutTicks → (last : Contents) → (mark : Option CommentBytes) → (file text : List ℕ)
    → Type 0
IsAmendedFor declared first ks cuts last mark file text = (a : Amendment)
    × IsAmendmentFor declared (capture_after_cuts first cuts).signals ks last.signals a
    × IsAmendedAfterCuts SIGNAL_LIMIT mark (is_cut_by cuts) a file text

-- it ends before the copy, where the file is to be written or not
abbrev pub EndsBeforeCopy : (depth : ℕ) → (writes : Bool) → PassEnds → (script replies : DeviceEnd)
    → AmendRunError → Type 0
EndsBeforeCopy depth writes passes script replies e =
    (output : Option DeviceEnd) → is_some output ≡ writes → IfSome output IsUntouched
    → AmendRunEnds depth passes script replies output (Err e)

-- it ends before the replies
abbrev pub EndsBeforeReplies : PassEnds → (script : DeviceEnd) → AmendRunError → Type 0
EndsBeforeReplies passes script e =
    (depth : ℕ) (writes : Bool) (replies : DeviceEnd) → IsUntouched replies
    → EndsBeforeCopy depth writes passes script replies e

-- the lines of a plan, with the capture of its session; `shown` is the file as it is opened once
-- more, which has failed or not
module _ (shown : Option (List ℕ)) (again_failed : Bool) (skipped depth : ℕ) (lines : List (List ℕ))
    (streamed : List StreamedLine) (first : Contents) where
  -- they were run, and their replies written
  abbrev pub RunsPlanned : (new : Machine) → (refused : ℕ) → (before after : Option (List ℕ))
      → Type 0
  RunsPlanned new refused before after =
      RunsPlannedLines shown skipped lines streamed (initial_machine first depth) new refused
      before after

  -- it ends in them
  abbrev pub EndsInLines : (replies : DeviceEnd) → AmendRunError → Type 0
  EndsInLines replies e = ((e ≡ errors.Run (run_errors.NoMemory 0)) × IsUntouched replies)
      ⊎ (EndsInPlanned (FailsOnceMore shown again_failed) replies.has_failed e
      × StopsInLinesPlanned (FailsOnceMore shown again_failed) shown skipped lines streamed
      (initial_machine first depth) replies.before replies.after e)

-- ---- remarks

-- if every pass shows one file, and the script its bytes: a writer took the first bytes of the
-- remarks on the lines, on the capture that the file means
unfoldable pub TakesLineRemarks : (depth : ℕ) → PassEnds → (script remarks : DeviceEnd) → Type 0
TakesLineRemarks depth passes script remarks =
    (file lines : List ℕ) → AllShow passes file → script.before ≡ Some lines
    → (c : Contents) (skipped : ℕ) → FileMeans SIGNAL_LIMIT file c skipped
    → (count : ℕ) × HasPrefix remarks count (remarks_of_run c skipped depth (script_lines lines))

-- a writer took nothing, or the first bytes of the remarks on the output by an amendment that is
-- known from these captures
abbrev pub TakesOutputRemarks : List VariableDeclaration → (first : Contents) → (ks : List ℕ)
    → List CutTicks → (last : Contents) → (remarks : DeviceEnd) → Type 0
TakesOutputRemarks declared first ks cuts last remarks = HasText remarks []
    ⊎ ((a : Amendment)
    × IsAmendmentFor declared (capture_after_cuts first cuts).signals ks last.signals a
    × (count : ℕ)
    × HasPrefix remarks count (output_remarks a declared (not (length cuts == 0))))
