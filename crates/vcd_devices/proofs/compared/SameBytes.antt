-- Bytes that are the same as far as others go begin with these.
use Rattle.std.proofs.Common.{◌≡◌, ℕ, ◌+◌, ◌==◌, ◌≤◌, Bool, true, false, List, [], ◌∷◌, length, take}
use Rattle.std.proofs.Common.{refl, ap, ap₂, cond, arith}
use Rattle.std.specs.Cmp.{unsigned_Decides}
use Rattle.vcd_devices.specs.Compared.{same_len}

-- one byte more, by whether it is the same
one_more : (byte other : ℕ) (bytes found : List ℕ) (same : Bool) (rest : ℕ) → (same ≡ true → byte ≡ other)
    → (length found ≤ rest → take (length found) bytes ≡ found) → length (other ∷ found) ≤ cond same (1 + rest) 0
    → byte ∷ take (length found) bytes ≡ other ∷ found
one_more byte other bytes found true rest is all most = ap₂ (λ b l. b ∷ l) (is refl) (all (omega (arith, most)))
one_more byte other bytes found false rest is all most = absurd (omega (arith, most))

pub all_same : (bytes found : List ℕ) → length found ≤ same_len bytes found → take (length found) bytes ≡ found
all_same bytes [] most = refl
all_same [] (other ∷ found) most = absurd (omega (arith, most))
all_same (byte ∷ bytes) (other ∷ found) most =
    one_more byte other bytes found (byte == other) (same_len bytes found) ((unsigned_Decides byte other).0)
    (all_same bytes found) most
