-- The outcomes of a run, by how it ended.
use Rattle.std.proofs.Common.{◌≡◌, inl, inr, ℕ, Option, Some, None, refl, ap}
use Rattle.std.specs.Prelude.{Result, Ok, Err, IsErrAnd, is_some}
use Rattle.clap.specs.Words.{Text}
use Rattle.vcd_core.specs.Devices.{DeviceEnd}
use Rattle.vcd_amend_run.specs.declared.running.RunOptions.{RunOptions}
use Rattle.vcd_script.specs.declared.running.run_error.Summary.{Summary}
use Rattle.vcd_amend_run.specs.AmendRunEnds.{PassEnds}
use Rattle.vcd_amend_run.specs.MarkedRun.{MarkedRunEnds}
use Rattle.vcd_amend_run.specs.TakenRemarks.{TakesRemarks}
use Rattle.vcd_amend_run.specs.declared.running.AmendRunError.{AmendRunError}
use Rattle.vcd_amend_program.specs.declared.amend_error.AmendError.{AmendError}
use Rattle.vcd_amend_program.specs.declared.amend_error.AmendError.TheVariants as errors
use Rattle.vcd_amend_program.specs.ProgramEnds.{IsCaptureFault, IsOutcomeOfRun, IsOutcomeOn}

-- an error of a run that is handed on
passed_on : {E F : Type 0} (error : F → E) (outcome : Result Summary E) (e : F)
    → IsErrAnd outcome (λ x. x ≡ error e) → outcome ≡ Err (error e)
passed_on error (Ok summary) e gives = absurd gives
passed_on error (Err x) e gives = ap Err gives

module _ (run : RunOptions) (passes : PassEnds) (script replies remarks : DeviceEnd) where
  pub failed : (output : Option Text) (written : Option DeviceEnd) (e : AmendRunError)
      (outcome : Result Summary AmendError) → is_some written ≡ is_some output
      → MarkedRunEnds run passes script replies written (Err e) → TakesRemarks run.depth passes script remarks
      → IsErrAnd outcome (λ x. x ≡ errors.Run e) → IsOutcomeOn output run outcome script
  failed output written e outcome same ends remarked gives =
      inr (passes, replies, remarks, written, same, Err e, ends, remarked, passed_on errors.Run outcome e gives)

  -- an error of a run with an output
  pub failed_to : (path : Text) (out : DeviceEnd) (e : AmendRunError) (outcome : Result Summary AmendError)
      → MarkedRunEnds run passes script replies (Some out) (Err e) → TakesRemarks run.depth passes script remarks
      → IsErrAnd outcome (λ x. x ≡ errors.Run e) → IsOutcomeOn (Some path) run outcome script
  failed_to path out e outcome = failed (Some path) (Some out) e outcome refl

  -- a completed run, with an output or without
  pub written_to : (path : Text) (out : DeviceEnd) (summary : Summary) (outcome : Result Summary AmendError)
      → MarkedRunEnds run passes script replies (Some out) (Ok summary) → TakesRemarks run.depth passes script remarks
      → IsOutcomeOfRun (Some path) (Ok summary) outcome → IsOutcomeOn (Some path) run outcome script
  written_to path out summary outcome ends remarked of =
      inr (passes, replies, remarks, Some out, refl, Ok summary, ends, remarked, of)

  pub answered : (summary : Summary) (outcome : Result Summary AmendError)
      → MarkedRunEnds run passes script replies None (Ok summary) → TakesRemarks run.depth passes script remarks
      → IsOutcomeOfRun None (Ok summary) outcome → IsOutcomeOn None run outcome script
  answered summary outcome ends remarked of =
      inr (passes, replies, remarks, None, refl, Ok summary, ends, remarked, of)

-- the capture was changed meanwhile
pub changed : (output : Option Text) (summary : Summary) (outcome : Result Summary AmendError) (e : AmendError)
    → IsErrAnd outcome (λ x. x ≡ e) → IsCaptureFault e → IsOutcomeOfRun output (Ok summary) outcome
changed output summary outcome e gives fault = inr (e, inl fault, passed_on (λ x. x) outcome e gives)
