use Rattle.std.proofs.Common.{◌≡◌, ℕ, ◌+◌, ◌-◌, ◌^◌, ◌<◌, min, ◌++◌, ◌∷◌, [], List, true, false, not, Some, None, sym}
use Rattle.std.proofs.Common.{ap, ◌∙◌, length}
use Rattle.std.proofs.Common.{arith, length-append}
use Rattle.std.specs.Option.{is_some}
use Rattle.std.proofs.lemmas.Bool.{both_ways}
use Rattle.vcd_compare.specs.Differences.{summary}
use Rattle.vcd_compare.specs.declared.differences.Difference.{Difference}
use Rattle.vcd_compare.specs.declared.differences.Differences.{Differences}
use Rattle.vcd_compare.proofs.shared.ShortestRuns.{last_after}
use Rattle.vcd_compare.proofs.differences.Differences.add.Goals as goal

add_first : {V : Type 0} (found : List (Difference V)) (d : Difference V) (s : Differences V) (n : ℕ) → n ≡ s.count + 1
    → s ≡ summary found → is_some s.first ≡ false
    → record { count = n; first = Some d; last = s.last } ≡ summary (found ++ d ∷ [])
add_first [] d s n one_more is none =
    λ i. record { count = (one_more ∙ ap (λ s. s.count + 1) is) i; first = Some d; last = (is i).last }
add_first (x ∷ xs) d s n one_more is none = absurd (both_ways _ none (ap (λ s. is_some s.first) is))

add_later : {V : Type 0} (found : List (Difference V)) (d : Difference V) (s : Differences V) (n : ℕ) → n ≡ s.count + 1
    → s ≡ summary found → is_some s.first ≡ true
    → record { count = n; first = s.first; last = Some d } ≡ summary (found ++ d ∷ [])
add_later [] d s n one_more is some = absurd (both_ways _ (ap (λ s. is_some s.first) is) some)
add_later (x ∷ xs) d s n one_more is some =
    let count : length (x ∷ xs) + 1 ≡ length (x ∷ xs ++ d ∷ []) = simp length-append (omega arith) in
    (λ i. record { count = (one_more ∙ ap (λ s. s.count + 1) is) i; first = (is i).first; last = Some d })
    ∙ λ i. record { count = count i; first = Some x; last = sym (last_after None xs d) i }

-- the count does not stop at its bound
counts_on : {V : Type 0} (found : List (Difference V)) (s : Differences V) (n : ℕ) → n ≡ min (s.count + 1) (2 ^ 64 - 1)
    → length found < 2 ^ 64 - 1 → s ≡ summary found → n ≡ s.count + 1
counts_on found s n bounded few is =
    let count : s.count ≡ length found = ap (λ s. s.count) is in omega arith

pub returns-then-is_none : goal.returns-then-is_none
returns-then-is_none g c found few is =
    add_first found c.args.difference c.args.self.now _
    (counts_on found c.args.self.now _ c.saturating_add-self.ensures few is) is
    (c.is_none.ensures ∙ ap not c.if-is_none.true)

pub returns-else-is_none : goal.returns-else-is_none
returns-else-is_none g c found few is =
    add_later found c.args.difference c.args.self.now _
    (counts_on found c.args.self.now _ c.saturating_add-self.ensures few is) is
    (c.is_none.ensures ∙ ap not c.if-is_none.false)
