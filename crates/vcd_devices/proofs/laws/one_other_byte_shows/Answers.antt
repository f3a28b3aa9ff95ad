-- The factor is odd, so a byte more keeps different sums different.
use Rattle.std.proofs.Common.{◌≡◌, ℕ, ◌^◌, ◌<◌, List, [], ◌∷◌, arith, sym, ◌∙◌}
use Rattle.std.specs.List.{fold}
use Rattle.std.proofs.lemmas.List.Sums.{fold-append}
use Rattle.vcd_devices.specs.Sums.{with_byte}
use Rattle.vcd_devices.proofs.laws.one_other_byte_shows.Goals as goal

abbrev limit : ℕ
limit = 2 ^ 64

-- one byte more keeps sums apart, since the factor is odd
apart : (s t byte : ℕ) → s < limit → t < limit → with_byte s byte ≡ with_byte t byte → s ≡ t
apart s t byte small smaller same = omega arith

-- so do all bytes that come after
all_apart : (bytes : List ℕ) (s t : ℕ) → s < limit → t < limit → fold with_byte s bytes ≡ fold with_byte t bytes → s ≡ t
all_apart [] s t small smaller same = same
all_apart (byte ∷ bytes) s t small smaller same =
    apart s t byte small smaller
    (all_apart bytes (with_byte s byte) (with_byte t byte) (omega arith) (omega arith) same)

-- two bytes after one sum
two_apart : (s one other : ℕ) → one < 256 → other < 256 → with_byte s one ≡ with_byte s other → one ≡ other
two_apart s one other small smaller same = omega arith

pub returns : goal.returns
returns c = λ before after one other small smaller differ same.
    let s = fold with_byte 1 before in
    differ (two_apart s one other small smaller
    (all_apart after (with_byte s one) (with_byte s other) (omega arith) (omega arith)
    (sym (fold-append with_byte 1 before (one ∷ after)) ∙ same ∙ fold-append with_byte 1 before (other ∷ after))))
