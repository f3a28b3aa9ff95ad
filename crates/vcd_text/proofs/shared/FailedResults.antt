-- A result that is known to be an error.
use Rattle.std.proofs.Common.{◌≡◌, Result, Ok, Err, ap}
use Rattle.std.specs.Prelude.{IsErrAnd}

pub err_is : {T E : Type 0} {e : E} (r : Result T E) → IsErrAnd r (λ x. x ≡ e) → r ≡ Err e
err_is (Ok x) failed = absurd failed
err_is (Err x) failed = ap Err failed
