-- What is told of two waves depends on the ticks of the window alone.
use Rattle.std.proofs.Common.{◌≡◌, ℕ, zero, suc, ◌+◌, ◌-◌, ◌<◌, ◌≤◌, Bool, not, List, [], ◌∷◌, ◌++◌, map}
use Rattle.std.proofs.Common.{refl, sym, ap, ◌∙◌, inl, inr, arith, nat_le, Option, None, if◌then◌else◌}
use Rattle.std.specs.Prelude.{nat_lt, ◌&&◌}
use Rattle.std.specs.List.{Contains, filter}
use Rattle.std.proofs.lemmas.Bool.{cases_Bool, ltb-true}
use Rattle.vcd_text.specs.declared.reading.choice.TickRange.{TickRange}
use Rattle.vcd_compare.specs.Differences.{WaveByTicks, differ_at, differences, is_forgiven, difference_at, compared}
use Rattle.vcd_compare.specs.Differences.{differences_from, ended_before, begun_at, IsDifference, summary}
use Rattle.vcd_compare.specs.Laws.{AgreeIn}
use Rattle.vcd_compare.proofs.shared.FoundDifferences.{differences_of_window}

found_alike : (differ other : ℕ → Bool) (begun : Option ℕ) (t n : ℕ)
    → ((s : ℕ) → t ≤ s → s < t + n → differ s ≡ other s)
    → differences_from differ begun t n ≡ differences_from other begun t n
unfolding differences_from
found_alike differ other begun t zero alike = refl
found_alike differ other begun t (suc n) alike =
    ap (λ x. ended_before x begun t ++ differences_from differ (begun_at x begun t) (suc t) n)
    (alike t (omega arith) (omega arith))
    ∙ ap (λ l. ended_before (other t) begun t ++ l)
    (found_alike differ other (begun_at (other t) begun t) (suc t) n (λ s from to. alike s (omega arith) (omega arith)))

-- two tests and two functions that agree at each element of a list
kept_alike : {X Y : Type 0} (p q : X → Bool) (f g : X → Y) (xs : List X)
    → ((x : X) → Contains xs x → (p x ≡ q x) × (f x ≡ g x))
    → map f (filter p xs) ≡ map g (filter q xs)
kept_alike p q f g [] each = refl
kept_alike p q f g (x ∷ xs) each =
    let (tests, gives) = each x (0, omega arith, refl) in
    let rest = kept_alike p q f g xs (λ y (k, within, is). each y (suc k, omega arith, is)) in
    elim (cases_Bool (q x)) [
      | inl kept ↦
          ap (λ b. map f (if b then x ∷ filter p xs else filter p xs)) (tests ∙ kept)
          ∙ (λ i. gives i ∷ rest i)
          ∙ sym (ap (λ b. map g (if b then x ∷ filter q xs else filter q xs)) kept)
      | inr out ↦
          ap (λ b. map f (if b then x ∷ filter p xs else filter p xs)) (tests ∙ out)
          ∙ rest
          ∙ sym (ap (λ b. map g (if b then x ∷ filter q xs else filter q xs)) out)
    ]

module _ {V : Type 0} (same : V → V → Bool) (tolerance : ℕ) (window : TickRange) where
  forgiven_alike : (a c : WaveByTicks V) (ticks : TickRange) → AgreeIn window a c
      → ticks.first ≤ ticks.last → ticks.last ≤ window.last → window.first ≤ ticks.first
      → is_forgiven same tolerance window a ticks ≡ is_forgiven same tolerance window c ticks
  forgiven_alike a c ticks agree order ends begins =
      let long = nat_le (ticks.last + 1 - ticks.first) tolerance in
      let early = nat_lt window.first ticks.first in
      let late = nat_lt ticks.last window.last in
      let left = not (same (a (ticks.first - 1)) (a (ticks.last + 1))) in
      let right = not (same (c (ticks.first - 1)) (c (ticks.last + 1))) in
      elim (cases_Bool early) [
        | inl amid ↦
            elim (cases_Bool late) [
              | inl within ↦
                  let low : window.first < ticks.first = ltb-true _ _ amid in
                  let high : ticks.last < window.last = ltb-true _ _ within in
                  let before = agree (ticks.first - 1) (omega arith, omega arith) in
                  let after = agree (ticks.last + 1) (omega arith, omega arith) in
                  λ i. long && (early && (late && not (same (before i) (after i))))
              | inr out ↦ (λ i. long && (early && (out i && left))) ∙ sym (λ i. long && (early && (out i && right)))
            ]
        | inr out ↦ (λ i. long && (out i && (late && left))) ∙ sym (λ i. long && (out i && (late && right)))
      ]

  pub compared_alike : (a b c d : WaveByTicks V) → AgreeIn window a c → AgreeIn window b d
      → compared same tolerance a b window ≡ compared same tolerance c d window
  compared_alike a b c d agree_a agree_b =
      let stands = λ (w : WaveByTicks V) (ticks : TickRange). not (is_forgiven same tolerance window w ticks) in
      ap summary (kept_alike (stands a) (stands c) (difference_at a b) (difference_at c d)
      (differences (differ_at same a b) window)
      (λ ticks there.
      let is : IsDifference (differ_at same a b) window ticks =
      (differences_of_window (differ_at same a b) window ticks).0 there in
      let begins = is.begins_within in
      let order = is.in_order in
      let ends = is.ends_within in
      let value_a = agree_a ticks.first (omega arith, omega arith) in
      let value_b = agree_b ticks.first (omega arith, omega arith) in (
        ap not (forgiven_alike a c ticks agree_a order ends begins),
        λ i. record { ticks = ticks; value_in_a = value_a i; value_in_b = value_b i },
      ))
      ∙ ap (λ l. map (difference_at c d) (filter (stands c) l))
      (found_alike (differ_at same a b) (differ_at same c d) None window.first (suc window.last - window.first)
      (λ s from to. λ i. not (same (agree_a s (omega arith, omega arith) i) (agree_b s (omega arith, omega arith) i)))))
