-- Where a word is the shortest, and where it is not.
use Rattle.std.proofs.Common.{◌≡◌, ℕ, suc, ◌-◌, ◌<◌, ◌≤◌, true, false, List, [], ◌∷◌, length, take, drop, get_or}
use Rattle.std.proofs.Common.{refl, sym, ap, ◌∙◌, arith}
use Rattle.std.proofs.Math.Seq.{take-length}
use Rattle.vcd_compare.specs.Variables.{is_implied, shortest_word}

-- a word of fewer than two bytes is the shortest
pub few : (text : List ℕ) → length text < 2 → text ≡ shortest_word text
unfolding shortest_word
few [] below = refl
few (digit ∷ []) below = refl
few (digit ∷ next ∷ rest) below = absurd (omega (arith, below))

-- and so is one whose first byte says something
pub kept : (text : List ℕ) → 2 ≤ length text → is_implied (get_or text 0 0) (get_or text 1 0) ≡ false
    → text ≡ shortest_word text
unfolding shortest_word
kept [] long says = absurd (omega (arith, long))
kept (digit ∷ []) long says = absurd (omega (arith, long))
kept (digit ∷ next ∷ rest) long says = rw says refl

-- without a first byte that says nothing it has the same shortest word
pub dropped : (text : List ℕ) → 2 ≤ length text → is_implied (get_or text 0 0) (get_or text 1 0) ≡ true
    → shortest_word (take (length text - 1) (drop 1 text)) ≡ shortest_word text
unfolding shortest_word
dropped [] long says = absurd (omega (arith, long))
dropped (digit ∷ []) long says = absurd (omega (arith, long))
dropped (digit ∷ next ∷ rest) long says =
    let one_less : length (digit ∷ next ∷ rest) - 1 ≡ length (next ∷ rest) = omega arith in
    rw says (ap (λ n. shortest_word (take n (next ∷ rest))) one_less ∙ ap shortest_word (take-length (next ∷ rest)))
