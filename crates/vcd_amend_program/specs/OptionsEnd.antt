-- How a run ends that the words of the command line ask for. The rules are the project's own.
use Rattle.std.specs.Prelude.{◌≡◌, ◌&&◌, Bool, true, false, not, is_some, Result, Err}
use Rattle.std.specs.Prelude.{MatchBool, IsSome, None}
use Rattle.std.specs.Result.{MatchResult}
use Rattle.vcd_script.specs.declared.running.run_error.Summary.{Summary}
use Rattle.vcd_amend_program.specs.declared.amend_error.AmendError.{AmendError}
use Rattle.vcd_amend_program.specs.declared.amend_error.AmendError.TheVariants as errors
use Rattle.vcd_amend_program.specs.CommandLine.{AskedOptions, ask_for_part}
use Rattle.vcd_amend_program.specs.ProgramEnds.{capture_path, IsOutcomeOnFile}
use Rattle.vcd_amend_program.specs.PartOutcome.{IsOutcomeWithPart}
use Rattle.vcd_amend_program.specs.VerifyOutcome.{IsOutcomeOfVerify}

-- whether a mark is asked for, and no output
abbrev pub has_nothing_to_mark : AskedOptions → Bool
has_nothing_to_mark o = o.is_marked && not (is_some o.output)

-- the outcome of options that ask for the whole capture, which they may name as no file; without
-- an output there is nothing to mark
abbrev pub IsOutcomeWithoutPart : AskedOptions → Result Summary AmendError → Type 0
IsOutcomeWithoutPart o outcome = MatchResult (capture_path o.input o.capture)
    (λ path. MatchBool (has_nothing_to_mark o) (outcome ≡ Err errors.NothingToMark)
    (IsOutcomeOnFile o outcome)) (λ e. outcome ≡ Err e)

-- the outcome of options that ask for a run of a script, or for a part
pub record IsOutcomeOfJob (o : AskedOptions) (outcome : Result Summary AmendError) : Type 0
  where
    pub with_part : ask_for_part o ≡ true → IsOutcomeWithPart o outcome
    pub without : ask_for_part o ≡ false → IsOutcomeWithoutPart o outcome

-- the outcome of any options
pub record IsOutcomeOfOptions (o : AskedOptions) (outcome : Result Summary AmendError) : Type 0
  where
    pub verified : IsSome o.verify → IsOutcomeOfVerify o outcome
    pub job : o.verify ≡ None → IsOutcomeOfJob o outcome
