-- The end of writing a text before its end: the project's own.
use Rattle.std.specs.Prelude.{◌≡◌, ◌<◌, ◌≤◌, ◌^◌, ℕ, Bool, true, false, List, length, take, Option}
use Rattle.std.specs.Io.KnownBytes.{Appends}
use Rattle.vcd_text.specs.declared.fault.WriteError.{WriteError}
use Rattle.vcd_text.specs.declared.fault.WriteError.TheVariants as write_errors

-- the bytes that a writer took of a text before this fault, and whether it has failed; at no memory
-- it is as before; a `u128` counts bytes up to its limit
abbrev pub TookBefore : (text : List ℕ) → (before after : Option (List ℕ)) → (failed : Bool)
    → WriteError → Type 0
TookBefore text before after failed write_errors.NoMemory = (after ≡ before) × (failed ≡ false)
TookBefore text before after failed (write_errors.WriteFault written) =
    (length text < 2 ^ 128 → Appends before after (take written text) × (written ≤ length text))
    × (failed ≡ true)
