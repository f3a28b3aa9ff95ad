-- The outcomes of a request, by what becomes of its part.
use Rattle.std.proofs.Common.{◌≡◌, ◌⊎◌, inl, inr, refl, rules, Some}
use Rattle.std.specs.Prelude.{Result, Ok, Err, IsErrAnd, IsSome}
use Rattle.clap.specs.Words.{Text}
use Rattle.vcd_core.specs.Devices.{DeviceEnd}
use Rattle.vcd_script.specs.declared.running.run_error.Summary.{Summary}
use Rattle.vcd_part.specs.declared.request.Request.{Request}
use Rattle.vcd_part.specs.declared.written_part.WrittenPart.{WrittenPart}
use Rattle.vcd_devices.specs.declared.safe_file.OutputFault.{OutputFault}
use Rattle.vcd_amend_program.specs.declared.amend_error.AmendError.{AmendError}
use Rattle.vcd_amend_program.specs.declared.amend_error.AmendError.TheVariants as errors
use Rattle.vcd_amend_program.specs.CommandLine.{AskedOptions}
use Rattle.vcd_amend_program.specs.ProgramEnds.{IsOutcomeOnFile, not_read}
use Rattle.vcd_amend_program.specs.PartOutcome.{IsTaken, IsHeld, IsOutcomeOfRequest, IsPartFileFault, no_part_file}

-- an error that is handed on
pub ends_with : (o : AskedOptions) (r : Request) (outcome : Result Summary AmendError) (e : AmendError)
    → IsErrAnd outcome (λ x. x ≡ e) → IsOutcomeOfRequest o r (Err e) → IsOutcomeOfRequest o r outcome
ends_with o r (Ok summary) e gives ends = absurd gives
ends_with o r (Err x) e gives ends = rw gives ends

-- the output can't be put in its place
pub no_output : (o : AskedOptions) (r : Request) (outcome : Result Summary AmendError) (path : Text)
    (fault : OutputFault) → o.output ≡ Some path → IsErrAnd outcome (λ x. x ≡ errors.Output fault)
    → IsOutcomeOfRequest o r outcome
no_output o r outcome path fault output gives =
    let there : IsSome o.output = search rules in
    ends_with o r outcome (errors.Output fault) gives (inl (errors.Output fault, inr (inr (there, fault, refl)), refl))

-- no part is taken
pub refused : (o : AskedOptions) (r : Request) (capture out : DeviceEnd) (e : AmendError)
    → IsTaken r capture out (Err e) → IsOutcomeOfRequest o r (Err e)
refused o r capture out e taken = inr (inl (capture, out, e, taken, refl))

-- the same when it is first checked
pub refused_first : (o : AskedOptions) (r : Request) (e : AmendError)
    → (e ≡ not_read) ⊎ ((capture : DeviceEnd) × (out : DeviceEnd) × IsTaken r capture out (Err e))
    → IsOutcomeOfRequest o r (Err e)
refused_first o r e (inl unread) = inl (e, inl (inr (inl unread)), refl)
refused_first o r e (inr (capture, out, taken)) = refused o r capture out e taken

-- the file of the part can't be made
pub no_file : (o : AskedOptions) (r : Request) (e : AmendError) → IsPartFileFault e → IsOutcomeOfRequest o r (Err e)
no_file o r e fault = inl (e, inr (inl fault), refl)

-- no part is taken to a file of its own
pub refused_on_file : (o : AskedOptions) (r : Request) (capture out : DeviceEnd) (error e : AmendError)
    → (e ≡ error) ⊎ (e ≡ no_part_file) → IsTaken r capture out (Err error) → IsOutcomeOfRequest o r (Err e)
refused_on_file o r capture out error e (inl same) taken = rw same (refused o r capture out error taken)
refused_on_file o r capture out error e (inr none) taken = no_file o r e (inl none)

-- the script is carried out on the part
pub carried_out : (o : AskedOptions) (r : Request) (capture out : DeviceEnd) (written : WrittenPart)
    (outcome : Result Summary AmendError) → IsTaken r capture out (Ok written) → IsHeld o
    → (outcome ≡ Err no_part_file) ⊎ IsOutcomeOnFile o outcome → IsOutcomeOfRequest o r outcome
carried_out o r capture out written outcome taken held (inl none) = inl (no_part_file, inr (inl (inl refl)), none)
carried_out o r capture out written outcome taken held (inr on_file) =
    inr (inr (capture, out, written, taken, inr (inr (held, on_file))))
