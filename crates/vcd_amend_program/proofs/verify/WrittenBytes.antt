-- A run whose output was compared, and is the whole file.
use Rattle.std.proofs.Common.{◌≡◌, ℕ, List, Option, Some, subst}
use Rattle.std.specs.Prelude.{Result, Ok}
use Rattle.std.specs.Io.KnownBytes.{Appends}
use Rattle.vcd_core.specs.Devices.{DeviceEnd}
use Rattle.vcd_script.specs.declared.running.run_error.Summary.{Summary}
use Rattle.vcd_amend_run.specs.AmendRunEnds.{PassEnds}
use Rattle.vcd_amend_run.specs.MarkedRun.{MarkedRunEnds}
use Rattle.vcd_amend_run.specs.declared.running.AmendRunError.{AmendRunError}
use Rattle.vcd_amend_run.specs.declared.running.RunOptions.{RunOptions}
use Rattle.vcd_devices.specs.Compared.{shown, ShowsWhole}
use Rattle.vcd_devices.proofs.shared.WholeFiles.{whole_file}
use Rattle.vcd_amend_program.specs.VerifyOutcome.{IsMarkedOutput, IsMarkedOutputOnDevices}

done : (run : RunOptions) (passes : PassEnds) (script replies out : DeviceEnd) (lines : List ℕ)
    (marked : Option (List ℕ)) (summary : Summary) → script.before ≡ Some lines → out.before ≡ shown marked marked
    → ShowsWhole out.after → MarkedRunEnds run passes script replies (Some out) (Ok summary)
    → IsMarkedOutput run passes lines marked
done run passes script replies out lines marked summary reads begun whole ends = λ file all.
    let (written, is, texts) = ends.run file lines all reads in
    let grown : Appends (shown marked marked) out.after written.output
    = subst (λ b. Appends b out.after written.output) begun texts.1 in
    (written, is, whole_file marked out.after written.output grown whole)

-- the same by the result of the run
pub written_whole : (run : RunOptions) (passes : PassEnds) (script replies out : DeviceEnd) (lines : List ℕ)
    (marked : Option (List ℕ)) (summary : Summary) (ended : Result Summary AmendRunError)
    → script.before ≡ Some lines → out.before ≡ shown marked marked → ShowsWhole out.after
    → MarkedRunEnds run passes script replies (Some out) ended → ended ≡ Ok summary
    → IsMarkedOutput run passes lines marked
written_whole run passes script replies out lines marked summary ended reads begun whole ends is =
    done run passes script replies out lines marked summary reads begun whole
    (subst (λ r. MarkedRunEnds run passes script replies (Some out) r) is ends)

-- and so on some devices
pub written_on_devices : (run : RunOptions) (passes : PassEnds) (script replies out : DeviceEnd) (lines : List ℕ)
    (marked : Option (List ℕ)) (summary : Summary) (ended : Result Summary AmendRunError)
    → script.before ≡ Some lines → out.before ≡ shown marked marked → ShowsWhole out.after
    → MarkedRunEnds run passes script replies (Some out) ended → ended ≡ Ok summary → IsMarkedOutputOnDevices run lines
written_on_devices run passes script replies out lines marked summary ended reads begun whole ends is = (
  passes,
  marked,
  written_whole run passes script replies out lines marked summary ended reads begun whole ends is,
)
