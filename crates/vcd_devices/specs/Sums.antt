-- The sum by which two readings of a file are compared: the project's own.
use Rattle.std.specs.Prelude.{◌≡◌, ◌≢◌, ℕ, ◌+◌, ◌*◌, ◌%◌, ◌^◌, ◌<◌, true, List, ◌∷◌, ◌++◌}
use Rattle.std.specs.List.{fold}
use Rattle.vcd_devices.specs.declared.summed.Summed.{Summed}
use Rattle.vcd_devices.specs.declared.summed.TheConstants.{FACTOR}

-- the sum with one byte more, as a number of 64 bits
abbrev pub with_byte : (sum byte : ℕ) → ℕ
with_byte sum byte = (sum * FACTOR + byte) % 2 ^ 64

-- the sum of a file
abbrev pub sum_of : (file : List ℕ) → ℕ
sum_of = fold with_byte 1

-- files of which exactly one byte differs have different sums
abbrev pub OneOtherByteShows : Type 0
OneOtherByteShows = (before after : List ℕ) (one other : ℕ) → one < 256 → other < 256
    → one ≢ other → sum_of (before ++ one ∷ after) ≢ sum_of (before ++ other ∷ after)

-- a pass that was begun is at the end of the file, and has this sum
abbrev pub HasSum : {S : Type 0} → (sum : ℕ) → Summed S → Type 0
HasSum sum pass = pass.is_begun ≡ true → (pass.sum ≡ sum) × (pass.is_at_end ≡ true)

-- a pass is at the end of the file, and has another sum
abbrev pub HasOtherSum : {S : Type 0} → (sum : ℕ) → Summed S → Type 0
HasOtherSum sum pass = (pass.is_at_end ≡ true) × (pass.sum ≢ sum)
