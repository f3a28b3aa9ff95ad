-- Worked cases: what no failed writer has taken of an amended file, by what is said of how a run ends.
use Rattle.std.proofs.Common.{◌≡◌, ℕ, List, [], Some, subst, ap, arith, true}
use Rattle.std.specs.Prelude.{codes, get_or}
use Rattle.vcd_core.specs.Devices.{DeviceEnd}
use Rattle.vcd_text.specs.WriteEnds.{TookBefore}
use Rattle.vcd_text.specs.declared.fault.WriteError.TheVariants.{WriteFault}
use Rattle.vcd_script.specs.Run.{RunOutcome}
use Rattle.vcd_amend_run.specs.declared.running.RunOptions.{RunOptions}
use Rattle.vcd_amend_run.specs.AmendRunEnds.{PassEnds, AllShow}
use Rattle.vcd_amend_run.specs.MarkedRun.{IsMarkedRun, IsWrittenInPart}

-- the output took these bytes, and then failed
abbrev took : List ℕ → DeviceEnd
took bytes = record { before = Some []; after = Some bytes; has_failed = true }

-- every pass shows one file, and the amended one has these three bytes
module _ (o : RunOptions) (passes : PassEnds) (script replies : DeviceEnd) (file lines : List ℕ)
    (shows : AllShow passes file) (script_shows : script.before ≡ Some lines)
    (gives : (written : RunOutcome) → IsMarkedRun o.mark file lines o.depth written
    → written.output ≡ codes "abc") where
  first_bytes : (bytes : List ℕ) (count : ℕ) → IsWrittenInPart o passes script replies (took bytes) (WriteFault count)
      → TookBefore (codes "abc") (Some []) (Some bytes) true (WriteFault count)
  first_bytes bytes count ends =
      let (written, run, (replied, part)) = ends.run file lines shows script_shows in
      subst (λ t. TookBefore t (Some []) (Some bytes) true (WriteFault count)) (gives written run) part

  other_byte : IsWrittenInPart o passes script replies (took (codes "ax")) (WriteFault 2) → ⊥
  other_byte ends =
      let both = (first_bytes (codes "ax") 2 ends).0 (omega arith) in
      let never : ◌≡◌ {A = ℕ} 120 98 = ap (λ (l : List ℕ). get_or l 1 0) both.0 in absurd (omega (arith, never))

  byte_left_out : IsWrittenInPart o passes script replies (took (codes "ac")) (WriteFault 2) → ⊥
  byte_left_out ends =
      let both = (first_bytes (codes "ac") 2 ends).0 (omega arith) in
      let never : ◌≡◌ {A = ℕ} 99 98 = ap (λ (l : List ℕ). get_or l 1 0) both.0 in absurd (omega (arith, never))

  other_count : IsWrittenInPart o passes script replies (took (codes "ab")) (WriteFault 1) → ⊥
  other_count ends =
      let both = (first_bytes (codes "ab") 1 ends).0 (omega arith) in
      let never : codes "ab" ≡ codes "a" = both.0 in absurd (cc)
