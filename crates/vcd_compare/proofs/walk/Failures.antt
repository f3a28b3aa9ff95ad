-- Why there is no comparison: the fault of one of both files.
use Rattle.std.proofs.Common.{Bool, ◌≡◌, ◌≢◌, ◌⊎◌, List, Option, Some, None, refl, inl, inr, ℕ}
use Rattle.std.specs.Prelude.{IfSome, count_by}
use Rattle.vcd_core.specs.declared.capture.TheConstants.{SIGNAL_LIMIT}
use Rattle.vcd_text.specs.Grammar.{ParseState, is_skipped}
use Rattle.vcd_text.specs.HeardChanges.{HeardChange}
use Rattle.vcd_text.specs.Meaning.{meaning}
use Rattle.vcd_text.specs.Refusals.{IsRefusal}
use Rattle.vcd_text.specs.declared.fault.Fault.TheVariants as faults
use Rattle.vcd_text.specs.declared.fault.ReadError.{ReadError}
use Rattle.vcd_text.specs.declared.reading.TheConstants.{LONG_FILE_LIMIT}
use Rattle.vcd_compare.specs.Comparisons.{first_refused, second_refused, no_memory}
use Rattle.vcd_compare.specs.inside.Side.{IsHeardWhole}
use Rattle.vcd_compare.specs.inside.WalkSteps.{FailsWith}
use Rattle.vcd_compare.specs.declared.comparison.CompareError.{CompareError}
use Rattle.vcd_compare.specs.declared.comparison.CompareError.TheVariants as errors

module _ (left other_left : Option (List ℕ)) (failed other_failed : Bool) (error : ReadError) (e : CompareError) where
  -- the first file has a fault
  pub first_fails : (coming other : Option (List ℕ))
      → (e ≡ errors.NoMemory) ⊎ ((e ≡ errors.First error) × (error.fault ≢ faults.NoMemory))
      → IfSome coming (λ file. IsRefusal SIGNAL_LIMIT LONG_FILE_LIMIT file failed left error)
      → FailsWith coming other left failed other_left other_failed e
  first_fails None other which is = λ r. tt
  first_fails (Some file) None which is = λ r. tt
  first_fails (Some file) (Some file') (inl none) is = λ r. no_memory none
  first_fails (Some file) (Some file') (inr (fault, memory)) is = λ r. first_refused error is fault memory

  -- the second file has one, and the first was read to its end
  pub second_fails : (coming other : Option (List ℕ)) (state : ParseState) (heard : List HeardChange)
      → (e ≡ errors.NoMemory) ⊎ ((e ≡ errors.Second error) × (error.fault ≢ faults.NoMemory))
      → IsHeardWhole coming state heard
      → IfSome other (λ file. IsRefusal SIGNAL_LIMIT LONG_FILE_LIMIT file other_failed other_left error)
      → FailsWith coming other left failed other_left other_failed e
  second_fails None other state heard which whole is = λ r. tt
  second_fails (Some file) None state heard which whole is = λ r. tt
  second_fails (Some file) (Some file') state heard (inl none) whole is = λ r. no_memory none
  second_fails (Some file) (Some file') state heard (inr (fault, memory)) whole is = λ r. second_refused error (
    meaning state,
    count_by is_skipped state.declared,
    record { state = state; accepted = whole.1.accepted; means = refl; left_out = refl },
  ) is fault memory
