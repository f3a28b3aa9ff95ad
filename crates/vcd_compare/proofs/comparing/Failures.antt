-- Why there is no comparison, at the end of a call.
use Rattle.std.proofs.Common.{◌≡◌, ℕ, List, Option, Some, None}
use Rattle.std.specs.Prelude.{IfSome, IfErr, IsErrAnd, Result, Ok, Err}
use Rattle.vcd_core.specs.Devices.{DeviceEnd}
use Rattle.vcd_compare.specs.Comparisons.{IsCompareFault, no_memory}
use Rattle.vcd_compare.specs.declared.request.CompareRequest.{CompareRequest}
use Rattle.vcd_compare.specs.declared.comparison.CompareError.TheVariants as errors

-- memory ran out
pub memory_fails : (r : CompareRequest) (coming other : Option (List ℕ)) (first second : DeviceEnd)
    → IfSome coming (λ file. IfSome other (λ text. IsCompareFault r file text first second errors.NoMemory))
memory_fails r None other first second = tt
memory_fails r (Some file) None first second = tt
memory_fails r (Some file) (Some text) first second = no_memory (λ i. errors.NoMemory)

-- what holds of an error holds of a result that is this one
pub at_error : {A E : Type 0} (r : Result A E) (error : E) (P : E → Type 0) → IsErrAnd r (λ e. e ≡ error) → P error
    → IfErr r P
at_error (Ok v) error P gives holds = tt
at_error (Err e) error P gives holds = rw gives holds
