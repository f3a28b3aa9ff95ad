-- The ticks that are held: those that pass a test one at a time, and those after one.
use Rattle.std.proofs.Common.{◌≡◌, ℕ, ◌+◌, ◌<◌, ◌≤◌, Bool, true, false, if◌then◌else◌, List, [], ◌∷◌, length, get_or}
use Rattle.std.proofs.Common.{drop, drop-cons, refl, sym, ap, subst, ◌∙◌, add-one, arith}
use Rattle.std.specs.List.{filter}
use Rattle.std.proofs.lemmas.Bool.{le-leb, lt-leb}
use Rattle.std.proofs.lemmas.List.{drop_all}
use Rattle.vcd_remarks.specs.declared.findings.found_ticks.FoundTicks.{FoundTicks}
use Rattle.vcd_remarks.specs.inside.FoundTicks.{with_tick, with_ticks}
use Rattle.vcd_remarks.specs.inside.UartFinder.{ticks_after}

-- ---- a test

by_test : (b : Bool) (found : FoundTicks) (t : ℕ) (ts : List ℕ)
    → with_ticks (if b then with_tick found t else found) ts ≡ with_ticks found (if b then t ∷ ts else ts)
unfolding with_ticks
by_test true found t ts = refl
by_test false found t ts = refl

module _ (p : ℕ → Bool) (held : List ℕ) (i : ℕ) where
  -- one tick more
  pub one_noted : (found next : FoundTicks) (t : ℕ) (passes : Bool) → i < length held → t ≡ get_or held i t
      → passes ≡ p t → next ≡ (if passes then with_tick found t else found)
      → with_ticks next (filter p (drop (i + 1) held)) ≡ with_ticks found (filter p (drop i held))
  one_noted found next t passes within at asked is =
      let rest : List ℕ = drop (i + 1) held in
      let list : drop i held ≡ t ∷ rest = drop-cons held i t within
      ∙ (λ j. sym at j ∷ drop (sym (add-one i) j) held) in
      ap (λ (f : FoundTicks). with_ticks f (filter p rest))
      (is ∙ ap (λ b. if b then with_tick found t else found) asked)
      ∙ by_test (p t) found t (filter p rest) ∙ ap (λ ts. with_ticks found (filter p ts)) (sym list)

  -- all
  pub all_noted : (found : FoundTicks) → length held ≤ i → found ≡ with_ticks found (filter p (drop i held))
  unfolding with_ticks
  all_noted found past = sym (ap (λ ts. with_ticks found (filter p ts)) (drop_all i held past))

-- ---- the ticks after one

module _ (from : ℕ) where
  pub first_after : (held : List ℕ) (t : ℕ) → 0 < length held → t ≡ get_or held 0 t → from < t
      → held ≡ ticks_after from held
  unfolding ticks_after
  first_after [] t some first later = absurd (omega (arith, some))
  first_after (s ∷ held) t some first later = rw (lt-leb s from (subst (λ v. from < v) first later)) refl

  pub first_given : (held : List ℕ) (t : ℕ) (rest : List ℕ) → 0 < length held → t ≡ get_or held 0 t → t ≤ from
      → rest ≡ drop 1 held → ticks_after from rest ≡ ticks_after from held
  unfolding ticks_after
  first_given [] t rest some first given others = absurd (omega (arith, some))
  first_given (s ∷ held) t rest some first given others =
      rw (le-leb s from (subst (λ v. v ≤ from) first given)) (ap (ticks_after from) others)

  pub none_after : (held : List ℕ) → length held ≡ 0 → held ≡ ticks_after from held
  unfolding ticks_after
  none_after [] none = refl
  none_after (s ∷ held) none = absurd (omega (arith, none))
