-- The results for a file of which a prefix was read.
use Rattle.std.proofs.Common.{◌≡◌, ◌⊎◌, inl, inr, ℕ, ◌<◌, ◌≤◌, Bool, List, take, length, Option}
use Rattle.std.proofs.Common.{Some, None, IsTrue}
use Rattle.std.specs.Prelude.{IsFalse}
use Rattle.std.proofs.Common.{IfSome, refl}
use Rattle.std.specs.Io.KnownBytes.{Consumes}
use Rattle.vcd_text.specs.declared.fault.Fault.TheVariants as faults
use Rattle.vcd_text.specs.declared.fault.ReadError.{ReadError}
use Rattle.vcd_text.specs.Faults.{IsPrefixAnswer}
use Rattle.vcd_text.specs.Refusals.{IsRefusal, too_large, reader_failed, no_memory}
use Rattle.vcd_text.specs.MemoryErrors.{memory_error}

-- the file has more bytes than the limit
pub larger : (limit most : ℕ) (coming left : Option (List ℕ)) (failed : Bool) (bytes : List ℕ) (e : ReadError)
    → IsFalse failed → IfSome coming (λ xs. (most < length xs) × (bytes ≡ take most xs))
    → (e ≡ memory_error) ⊎ IsPrefixAnswer limit bytes faults.TooLarge e
    → IfSome coming (λ file. IsRefusal limit most file failed left e)
larger limit most None left failed bytes e ready some answer = tt
larger limit most (Some xs) left failed bytes e ready some (inl none) = no_memory none
larger limit most (Some xs) left failed bytes e ready some (inr answer) = too_large ready some.0 (rw some.1 at answer)

-- the reader failed
pub failing : (limit most : ℕ) (coming left : Option (List ℕ)) (failed : Bool) (bytes : List ℕ) (e : ReadError)
    → IsTrue failed → Consumes coming left bytes → length bytes ≤ most
    → (e ≡ memory_error) ⊎ IsPrefixAnswer limit bytes faults.ReadFault e
    → IfSome coming (λ file. IsRefusal limit most file failed left e)
failing limit most None left failed bytes e has consumes within answer = tt
failing limit most (Some xs) None failed bytes e has consumes within answer = absurd consumes
failing limit most (Some xs) (Some ys) failed bytes e has consumes within (inl none) = no_memory none
failing limit most (Some xs) (Some ys) failed bytes e has consumes within (inr answer) =
    reader_failed bytes ys has refl consumes within answer
