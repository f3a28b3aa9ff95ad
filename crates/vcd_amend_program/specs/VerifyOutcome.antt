-- How a marked file is compared with what its mark makes of a capture. The rules are the project's
-- own.
use Rattle.std.specs.Prelude.{◌≡◌, ℕ, Bool, true, false, List, [], ◌∷◌, codes, drop}
use Rattle.std.specs.Prelude.{Option, Some, None, IfSome, Result, Ok, Err, MatchBool}
use Rattle.std.specs.Result.{MatchResult}
use Rattle.std.specs.List.{join_with_byte}
use Rattle.clap.specs.Words.{Text}
use Rattle.vcd_core.specs.Devices.{DeviceEnd}
use Rattle.vcd_copy.specs.MarkText.{escaped_word, read_words}
use Rattle.vcd_copy.specs.declared.marking.head.MarkHead.{MarkHead}
use Rattle.vcd_script.specs.declared.running.run_error.Summary.{Summary}
use Rattle.vcd_script.specs.Run.{RunOutcome}
use Rattle.vcd_amend_run.specs.AmendRunEnds.{PassEnds, AllShow}
use Rattle.vcd_amend_run.specs.MarkedRun.{IsMarkedRun}
use Rattle.vcd_amend_run.specs.declared.running.RunOptions.{RunOptions}
use Rattle.vcd_part.specs.declared.request.Request.{Request}
use Rattle.vcd_part.specs.declared.written_part.WrittenPart.{WrittenPart}
use Rattle.vcd_amend_program.specs.declared.amend_error.AmendError.{AmendError}
use Rattle.vcd_amend_program.specs.declared.amend_error.AmendError.TheVariants as errors
use Rattle.vcd_amend_program.specs.CommandLine.{AskedOptions, ask_for_part}
use Rattle.vcd_amend_program.specs.CommandLine.{ask_for_more_than_verify}
use Rattle.vcd_amend_program.specs.FoundMarks.{first_line, said_after, script_of}
use Rattle.vcd_amend_program.specs.Marks.{part_lines}
use Rattle.vcd_amend_program.specs.PartOutcome.{IsRequest, IsTaken}
use Rattle.vcd_amend_program.specs.ProgramEnds.{IsAskedRun, capture_path}

-- ---- what a mark asks for

-- the values of an option of a part, if a mark has one
abbrev pub values_said : List Text → Option (List Text)
values_said [] = None
values_said (value ∷ values) = Some (value ∷ values)

-- the options by which a marked file was made of the capture at this path; here no line may be
-- refused
abbrev pub asked_by : (depth : ℕ) → (path : Text) → (mark : List ℕ) → AskedOptions
asked_by depth path mark = record {
  input = None;
  capture = Some path;
  script = None;
  output = None;
  verify = None;
  depth = depth;
  is_marked = true;
  is_quiet = true;
  is_all_or_nothing = true;
  keep = values_said (said_after (codes "part keep ") mark);
  remove = values_said (said_after (codes "part remove ") mark);
  from = first_line (said_after (codes "part from ") mark);
  to = first_line (said_after (codes "part to ") mark);
}

-- the head of a mark: its lines on the program and on what was read are those of this head, whose
-- part is the one that these options ask for
pub record IsHeadOf (mark : List ℕ) (o : AskedOptions) (head : MarkHead) : Type 0 where
  pub title : first_line (said_after (codes " ") mark) ≡ Some (escaped_word head.version.now)
  pub read : first_line (said_after (codes "read ") mark)
      ≡ Some (join_with_byte 32 (drop 1 (read_words head)))
  pub part : head.part.now ≡ part_lines o

-- ---- how it ends

-- what a marked file shows is the output of a marked run: if every pass shows one file, the run of
-- this script on it writes just these bytes
abbrev pub IsMarkedOutput : RunOptions → PassEnds → (script : List ℕ)
    → (marked : Option (List ℕ)) → Type 0
IsMarkedOutput run passes script marked = (file : List ℕ) → AllShow passes file
    → (written : RunOutcome) × IsMarkedRun run.mark file script run.depth written
    × IfSome marked (λ bytes. bytes ≡ written.output)

-- the same of some passes, and of some marked file
abbrev pub IsMarkedOutputOnDevices : RunOptions → (script : List ℕ) → Type 0
IsMarkedOutputOnDevices run script =
    (passes : PassEnds) × (marked : Option (List ℕ)) × IsMarkedOutput run passes script marked

-- a part was taken of some capture
abbrev pub IsTakenFrom : Request → Type 0
IsTakenFrom r = (capture : DeviceEnd) × (out : DeviceEnd) × (written : WrittenPart)
    × IsTaken r capture out (Ok written)

-- the part that these options ask for was taken
abbrev pub IsPartTaken : AskedOptions → Type 0
IsPartTaken o = (r : Request) × IsRequest o r × IsTakenFrom r

-- these options ask for a run with the head of this mark, and that writes the marked file
pub record IsRunOfMark (mark : List ℕ) (o : AskedOptions) : Type 0 where
  pub head : MarkHead
  pub says : IsHeadOf mark o head
  pub run : RunOptions
  pub asked : IsAskedRun o run
  pub headed : run.mark ≡ Some head
  pub part : ask_for_part o ≡ true → IsPartTaken o
  pub same : IsMarkedOutputOnDevices run (script_of mark)

-- what it means that a marked file is the same: its mark asks for a run, and that writes its bytes
abbrev pub IsVerified : (depth : ℕ) → Type 0
IsVerified depth =
    (mark : List ℕ) × (path : Text) × IsRunOfMark mark (asked_by depth path mark)

-- an error of a comparison: none of the options, nor of an output
abbrev pub is_verify_error : AmendError → Bool
is_verify_error errors.NotAFile = true
is_verify_error (errors.Part fault) = true
is_verify_error (errors.Run e) = true
is_verify_error (errors.Verify fault) = true
is_verify_error e = false

-- the same as a statement
abbrev pub IsVerifyError : AmendError → Type 0
IsVerifyError e = is_verify_error e ≡ true

-- the outcome of a comparison
abbrev pub IsOutcomeOfComparison : (depth : ℕ) → Result Summary AmendError → Type 0
IsOutcomeOfComparison depth (Ok summary) = (summary.refused ≡ 0) × IsVerified depth
IsOutcomeOfComparison depth (Err e) = IsVerifyError e

-- the outcome of options that ask for one, which may ask for more, or name no file as the capture
abbrev pub IsOutcomeOfVerify : AskedOptions → Result Summary AmendError → Type 0
IsOutcomeOfVerify o outcome = MatchBool (ask_for_more_than_verify o)
    (outcome ≡ Err errors.MoreThanVerify)
    (MatchResult (capture_path o.input o.capture) (λ path. IsOutcomeOfComparison o.depth outcome)
    (λ e. outcome ≡ Err e))
