-- A part of the capture as the words of the command line ask for it, and how taking it ends. The
-- rules are the project's own.
use Rattle.std.specs.Prelude.{◌≡◌, ◌⊎◌, ℕ, ◌^◌, ◌-◌, true, Option, Some, None, Result, Ok, Err}
use Rattle.std.specs.Prelude.{IsSome}
use Rattle.clap.specs.Words.{Text}
use Rattle.vcd_core.specs.Devices.{DeviceEnd}
use Rattle.vcd_copy.specs.declared.copying.copy_error.CopyError.TheVariants as copy_errors
use Rattle.vcd_script.specs.declared.running.run_error.RunError.TheVariants as run_errors
use Rattle.vcd_script.specs.declared.running.run_error.Summary.{Summary}
use Rattle.vcd_amend_run.specs.declared.running.AmendRunError.TheVariants as amend_run_errors
use Rattle.vcd_part.specs.declared.part.PartError.{PartError}
use Rattle.vcd_part.specs.declared.part.PartError.TheVariants as part_errors
use Rattle.vcd_part.specs.declared.request.Request.{Request}
use Rattle.vcd_part.specs.declared.written_part.WrittenPart.{WrittenPart}
use Rattle.vcd_part.specs.PartEnds.{PartEnds}
use Rattle.vcd_part.specs.Requests.{texts}
use Rattle.vcd_part.specs.Times.{time_asked}
use Rattle.vcd_amend_program.specs.declared.amend_error.AmendError.{AmendError}
use Rattle.vcd_amend_program.specs.declared.amend_error.AmendError.TheVariants as errors
use Rattle.vcd_amend_program.specs.declared.amend_error.PartFault.TheVariants as faults
use Rattle.vcd_amend_program.specs.CommandLine.{AskedOptions}
use Rattle.vcd_amend_program.specs.ProgramEnds.{IsCaptureFault, IsInputFault, IsOutputFault}
use Rattle.vcd_amend_program.specs.ProgramEnds.{IsOutcomeOnFile}

-- ---- what the words ask for

-- the request of these options
pub record IsRequest (o : AskedOptions) (r : Request) : Type 0 where
  pub keep : texts r.keep ≡ o.keep
  pub remove : texts r.remove ≡ o.remove
  pub from : time_asked o.from 0 ≡ Some r.from
  pub to : time_asked o.to (2 ^ 64 - 1) ≡ Some r.to

-- one of the words is no time
abbrev pub IsTimeFault : AskedOptions → AmendError → Type 0
IsTimeFault o e = ((time_asked o.from 0 ≡ None) × (e ≡ errors.Part faults.BadFrom))
    ⊎ ((time_asked o.to (2 ^ 64 - 1) ≡ None) × (e ≡ errors.Part faults.BadTo))

-- ---- how it ends

-- the error of the program for one of a part
abbrev pub part_error : PartError → AmendError
part_error (part_errors.Copy (copy_errors.Read e)) =
    errors.Run (amend_run_errors.Run (run_errors.Capture e))
part_error (part_errors.Copy (copy_errors.Write e)) =
    errors.Run (amend_run_errors.Run (run_errors.Write e))
part_error (part_errors.Refused refusal pattern) = errors.Part (faults.Refused refusal)
part_error (part_errors.PastEnd end) = errors.Part (faults.PastEnd end)

-- the part can't be held in a file
abbrev pub no_part_file : AmendError
no_part_file = errors.Part faults.NoFile

-- why the file of the part can't be made
abbrev pub IsPartFileFault : AmendError → Type 0
IsPartFileFault e =
    (e ≡ no_part_file) ⊎ (e ≡ errors.Run (amend_run_errors.Run (run_errors.NoMemory 0)))

-- the result of taking a part, with the error of the program
abbrev pub IsTaken : Request → (capture out : DeviceEnd) → Result WrittenPart AmendError → Type 0
IsTaken r capture out (Ok written) = PartEnds r capture out (Ok written)
IsTaken r capture out (Err e) =
    (error : PartError) × PartEnds r capture out (Err error) × (e ≡ part_error error)

-- the part is held in a file: a script is carried out on it, or it is to have a mark
abbrev pub IsHeld : AskedOptions → Type 0
IsHeld o = IsSome o.script ⊎ (o.is_marked ≡ true)

-- what comes of a part that was taken: it is the output, if that can be put in its place; or the
-- script is carried out on it
abbrev pub IsOutcomeOfTaken : AskedOptions → Result Summary AmendError → Type 0
IsOutcomeOfTaken o outcome =
    ((o.script ≡ None) × (outcome ≡ Ok (record { refused = 0 })))
    ⊎ ((e : AmendError) × (IsCaptureFault e ⊎ IsOutputFault o.output e) × (outcome ≡ Err e))
    ⊎ (IsHeld o × IsOutcomeOnFile o outcome)

-- the outcome of a request: a device can't be opened; or no part of some capture is taken; or one
-- is
abbrev pub IsOutcomeOfRequest : AskedOptions → Request → Result Summary AmendError → Type 0
IsOutcomeOfRequest o r outcome =
    ((e : AmendError) × (IsInputFault o e ⊎ IsPartFileFault e ⊎ IsOutputFault o.output e)
    × (outcome ≡ Err e))
    ⊎ ((capture out : DeviceEnd) × (e : AmendError) × IsTaken r capture out (Err e)
    × (outcome ≡ Err e))
    ⊎ ((capture out : DeviceEnd) × (written : WrittenPart) × IsTaken r capture out (Ok written)
    × IsOutcomeOfTaken o outcome)

-- the outcome of options that ask for a part
abbrev pub IsOutcomeWithPart : AskedOptions → Result Summary AmendError → Type 0
IsOutcomeWithPart o outcome = (outcome ≡ Err errors.TwoCaptures)
    ⊎ ((o.is_marked ≡ true) × (o.output ≡ None) × (outcome ≡ Err errors.NothingToMark))
    ⊎ ((e : AmendError) × IsTimeFault o e × (outcome ≡ Err e))
    ⊎ ((r : Request) × IsRequest o r × IsOutcomeOfRequest o r outcome)
