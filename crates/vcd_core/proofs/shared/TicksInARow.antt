-- Ticks in a row, of which the first count for nothing.
use Rattle.std.proofs.Common.{◌≡◌, ℕ, zero, suc, ◌+◌, ◌<◌, ◌≤◌, List, ◌∷◌, refl, ap, ◌∙◌, arith}
use Rattle.std.specs.List.{range_with_len}

-- they may be left out
pub skip_ticks : {A : Type 0} (f : List ℕ → A) (count t n later rest : ℕ) → t + count ≡ later → count + rest ≡ n
    → ((s : ℕ) (ts : List ℕ) → t ≤ s → s < later → f (s ∷ ts) ≡ f ts)
    → f (range_with_len t n) ≡ f (range_with_len later rest)
skip_ticks f zero t n later rest at all nothing =
    let same : t ≡ later = omega arith in
    let size : n ≡ rest = omega arith in
    λ i. f (range_with_len (same i) (size i))
skip_ticks f (suc count) t n later rest at all nothing =
    ap (λ k. f (range_with_len t k)) {x = n} {y = suc (count + rest)} (omega arith)
    ∙ nothing t (range_with_len (t + 1) (count + rest)) (omega arith) (omega arith)
    ∙ skip_ticks f count (t + 1) (count + rest) later rest (omega arith) refl
    (λ s ts from before. nothing s ts (omega arith) before)
