-- But for memory, the bytes of two files and the depth have one result.
use Rattle.std.proofs.Common.{◌≡◌, ◌≤◌, ℕ, List, length, Ok, Err, refl, sym, ap, ◌∙◌, arith}
use Rattle.std.specs.List.{concat}
use Rattle.vcd_core.specs.declared.capture.TheConstants.{SIGNAL_LIMIT}
use Rattle.vcd_text.specs.declared.fault.ReadError.{ReadError}
use Rattle.vcd_text.specs.declared.reading.TheConstants.{FILE_LIMIT}
use Rattle.vcd_text.specs.Meaning.{HasMeaning}
use Rattle.vcd_text.proofs.shared.FoundFault.{meaning-no_fault}
use Rattle.vcd_text.proofs.shared.ResultIsUnique.{one_meaning}
use Rattle.vcd_script.specs.declared.running.run_on_bytes.RunRefusal.TheVariants.{Capture, ScriptTooLarge, NoMemory}
use Rattle.vcd_script.specs.Run.{RunOutcome, IsRun, outcome}
use Rattle.vcd_script.specs.Script.{script_lines}
use Rattle.vcd_script.specs.RunOnBytes.{IsRefusedFile, has_fault, too_large}
use Rattle.vcd_script.specs.FileLaws.{SameBytesSameResult}
use Rattle.vcd_script.proofs.running.ResultOfRun.{one_refused_file}
use Rattle.vcd_script.proofs.laws.same_bytes_same_result.Goals as goal

-- a run of two files writes one thing
one_outcome : (file script : List ℕ) (depth : ℕ) (one other : RunOutcome) → IsRun file script depth one
    → IsRun file script depth other → one ≡ other
one_outcome file script depth one other run also =
    let same = one_meaning SIGNAL_LIMIT file run.contents also.contents run.skipped also.skipped run.means also.means in
    let is : outcome run.contents run.skipped depth (script_lines script)
    ≡ outcome also.contents also.skipped depth (script_lines script) = rw (same.0, same.1) refl in
    run.run ∙ is ∙ sym also.run

-- a file within the limit that has a meaning is not refused
not_refused : (file : List ℕ) (e : ReadError) → length file ≤ FILE_LIMIT → HasMeaning SIGNAL_LIMIT file
    → IsRefusedFile file e → ⊥
not_refused file e short has (has_fault also fault) = meaning-no_fault SIGNAL_LIMIT file has.0 has.1 e.line e.fault
    has.2 fault
not_refused file e short has (too_large long answer) = omega (arith, short, long)

-- the file of a run has a meaning
has_meaning : (file script : List ℕ) (depth : ℕ) (written : RunOutcome) → IsRun file script depth written
    → HasMeaning SIGNAL_LIMIT file
has_meaning file script depth written run = (run.contents, run.skipped, run.means)

same_bytes_same_result : SameBytesSameResult
same_bytes_same_result file script depth (Err (NoMemory stage replies)) other gives also = tt
same_bytes_same_result file script depth one (Err (NoMemory stage replies)) gives also = tt
same_bytes_same_result file script depth (Ok one) (Ok other) gives also =
    let same = one_outcome file script depth gives.0 also.0 gives.1.2 also.1.2 in (
      gives.2 ∙ ap (λ (w : RunOutcome). concat w.replies) same ∙ sym also.2,
      gives.3 ∙ ap (λ (w : RunOutcome). w.output) same ∙ sym also.3,
      gives.4 ∙ ap (λ (w : RunOutcome). w.refused) same ∙ sym also.4,
    )
same_bytes_same_result file script depth (Ok one) (Err (Capture e)) gives also =
    not_refused file e gives.1.0 (has_meaning file script depth gives.0 gives.1.2) also
same_bytes_same_result file script depth (Ok one) (Err ScriptTooLarge) gives also = omega (arith, gives.1.1, also.2)
same_bytes_same_result file script depth (Err (Capture e)) (Ok other) gives also =
    not_refused file e also.1.0 (has_meaning file script depth also.0 also.1.2) gives
same_bytes_same_result file script depth (Err (Capture e)) (Err (Capture other)) gives also =
    one_refused_file file other e also gives
same_bytes_same_result file script depth (Err (Capture e)) (Err ScriptTooLarge) gives also =
    not_refused file e also.0 also.1 gives
same_bytes_same_result file script depth (Err ScriptTooLarge) (Ok other) gives also = omega (arith, also.1.1, gives.2)
same_bytes_same_result file script depth (Err ScriptTooLarge) (Err (Capture e)) gives also =
    not_refused file e gives.0 gives.1 also
same_bytes_same_result file script depth one (Err ScriptTooLarge) gives also = tt

pub returns : goal.returns
returns c = same_bytes_same_result
