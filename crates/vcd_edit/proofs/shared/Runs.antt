-- The values without the short runs of one value.
use Rattle.std.proofs.Common.{◌≡◌, ◌≢◌, ℕ, zero, suc, ◌+◌, ◌-◌, ◌<◌, ◌≤◌, ◌==◌, ◌||◌, Bool, true, false, nat_le}
use Rattle.std.proofs.Common.{if◌then◌else◌, List, [], ◌∷◌, length, inl, inr, refl, sym, ap, subst, ◌∙◌, arith}
use Rattle.std.proofs.Math.Bool.{or-false}
use Rattle.std.proofs.lemmas.Bool.{cases_lt, cases_eq, both_ways, cond_both, eq-eqb}
use Rattle.std.proofs.lemmas.Bool.Decides.{nat_tests}
use Rattle.std.proofs.lemmas.List.{length-replicate}
use Rattle.vcd_core.specs.declared.bit.Bit.{Bit}
use Rattle.vcd_core.specs.declared.bit.Bit.TheVariants.{X}
use Rattle.vcd_core.specs.declared.wave.Change.{Change}
use Rattle.vcd_core.specs.Value.{all_x}
use Rattle.vcd_core.specs.Wave.{change, value_from, changes_of, AreChangesFrom, IsWave, AllUpTo}
use Rattle.vcd_core.specs.Contents.{Contents, SignalContents, signal_at, signal_value}
use Rattle.vcd_core.proofs.shared.Waves.{value_past, value_early}
use Rattle.vcd_edit.specs.declared.edit.Edit.TheVariants.{Deglitch}
use Rattle.vcd_edit.specs.Effect.{steady_value, with_wave, effect}
use Rattle.vcd_edit.specs.inside.plans.RemainingChanges.{TicksRise, without_repeats, begins_steady, steady_changes}
use Rattle.vcd_edit.proofs.shared.RunsOfOneValue.{steady_here}
use Rattle.vcd_edit.proofs.shared.WithoutRepeats.{either_same, rise_lower, early_value, wave_rises, without_repeats_is}

-- ---- the values in a run

module _ (n end : ℕ) (f : ℕ → List Bit) (a b : ℕ) (ordered : a ≤ b) (within : b ≤ end) (same : (s : ℕ) → a ≤ s → s ≤ b
    → f s ≡ f a)
    (begins : (p : ℕ) → suc p ≡ a → f a ≢ f p) (ends : b < end → f (suc b) ≢ f b) where
  abbrev steady : Bool
  steady = a == 0 || b == end || nat_le n (b - a + 1)

  -- those of a steady run stay
  pub run_stays : steady ≡ true → (t : ℕ) → a ≤ t → t ≤ b → steady_value n end f t ≡ f t
  unfolding steady_value
  run_stays is zero from to = refl
  run_stays is (suc t) from to =
      ap (λ q. if q then f (suc t) else steady_value n end f t)
      (steady_here n end f a b ordered within same begins ends (suc t) from to ∙ is)

  -- those of another run are the value before it
  pub run_falls : steady ≡ false → (u : List Bit) → ((p : ℕ) → suc p ≡ a → steady_value n end f p ≡ u) → (t : ℕ) → a ≤ t
      → t ≤ b → steady_value n end f t ≡ u
  unfolding steady_value
  run_falls is u carried zero from to =
      absurd (both_ways _ is (ap (λ q. q || b == end || nat_le n (b - a + 1)) (eq-eqb a 0 (omega arith))))
  run_falls is u carried (suc t) from to =
      ap (λ q. if q then f (suc t) else steady_value n end f t)
      (steady_here n end f a b ordered within same begins ends (suc t) from to ∙ is)
      ∙ elim (cases_eq a (suc t)) [
        | inl at ↦ carried t (sym at)
        | inr apart ↦ run_falls is u carried t (omega arith) (omega arith)
      ]

-- ---- the steady changes of a list

pub steady_rise : (n width floor : ℕ) (cs : List Change) → TicksRise width floor cs
    → TicksRise width floor (steady_changes n cs)
unfolding steady_changes
steady_rise n width floor [] rise = tt
steady_rise n width floor (c ∷ cs) (from, wide, rest) =
    let tail = steady_rise n width (c.tick + 1) cs rest in
    elim (begins_steady n c cs) as
    (λ q. TicksRise width floor (if q then c ∷ steady_changes n cs else steady_changes n cs)) [
      | true ↦ (from, wide, tail)
      | false ↦ rise_lower width floor (c.tick + 1) (steady_changes n cs) (omega arith) tail
    ]

pub steady_upto : (n end : ℕ) (cs : List Change) → AllUpTo end cs → AllUpTo end (steady_changes n cs)
unfolding steady_changes
steady_upto n end [] upto = tt
steady_upto n end (c ∷ cs) (here, rest) =
    let tail = steady_upto n end cs rest in
    elim (begins_steady n c cs) as (λ q. AllUpTo end (if q then c ∷ steady_changes n cs else steady_changes n cs))
    [ true ↦ (here, tail) | false ↦ tail ]

-- a change that may be left out
value_or_before : (q : Bool) (u : List Bit) (c : Change) (cs : List Change) (t : ℕ) → c.tick ≤ t
    → value_from u (if q then c ∷ cs else cs) t ≡ value_from (if q then c.value else u) cs t
value_or_before true u c cs t late = value_past u c cs t late
value_or_before false u c cs t late = refl

-- the tests of a run, by its last tick and by the change that follows
last_run : (a end n : ℕ) → (a == 0 || end == end || nat_le n (end - a + 1)) ≡ true
last_run a end n = grind (arith, nat_tests)

inner_run : (a b c end n : ℕ) → suc b ≡ c → a ≤ b → c ≤ end
    → (a == 0 || b == end || nat_le n (b - a + 1)) ≡ (a == 0 || nat_le n (c - a))
inner_run a b c end n next ordered within =
    let other : (b == end) ≡ false = grind (arith, nat_tests) in
    let long : b - a + 1 ≡ c - a = omega arith in
    (λ i. a == 0 || other i || nat_le n (long i)) ∙ ap (λ q. q || nat_le n (c - a)) (or-false (a == 0))

-- from the first tick of a run on, the values are those of the steady changes
module _ (n end width : ℕ) (f : ℕ → List Bit) where
  pub steady_from : (cs : List Change) (a : ℕ) (v u : List Bit) → a ≤ end → length v ≡ width
      → ((s : ℕ) → a ≤ s → s ≤ end → f s ≡ value_from v cs s)
      → AreChangesFrom (a + 1) v cs → AllUpTo end cs → ((p : ℕ) → suc p ≡ a → f a ≢ f p)
      → ((p : ℕ) → suc p ≡ a → steady_value n end f p ≡ u) → (t : ℕ) → a ≤ t → t ≤ end
      → steady_value n end f t ≡ value_from (if begins_steady n (change a v) cs then v else u) (steady_changes n cs)
      t
  unfolding value_from steady_changes
  steady_from [] a v u le wide values rise upto begins carried t from to =
      run_stays n end f a end le (omega arith) (λ s late early. values s late early ∙ sym (values a (omega arith) le))
      begins (λ less. absurd (omega arith)) (last_run a end n) t from to ∙ values t from to
  steady_from (c ∷ cs) a v u le wide values (later, other, alike, rest) (here, upto) begins carried t from to =
      let b : ℕ = c.tick - 1 in
      let next : suc b ≡ c.tick = omega arith in
      let value : (s : ℕ) → a ≤ s → s ≤ b → f s ≡ v =
      λ s late early. values s late (omega arith)
      ∙ value_early v v (c ∷ cs) c.tick s (omega arith, other, alike, rest) (omega arith) in
      let same : (s : ℕ) → a ≤ s → s ≤ b → f s ≡ f a = λ s late early. value s late early
      ∙ sym (value a (omega arith) (omega arith)) in
      let there : f c.tick ≡ c.value =
      values c.tick (omega arith) here ∙ value_past v c cs c.tick (omega arith)
      ∙ value_early c.value c.value cs (c.tick + 1) c.tick rest (omega arith) in
      let ends : f (suc b) ≢ f b =
      λ equal. other (sym there ∙ ap f (sym next) ∙ equal ∙ value b (omega arith) (omega arith)) in
      let test = inner_run a b c.tick end n next (omega arith) here in
      let kept : List Bit = if begins_steady n (change a v) (c ∷ cs) then v else u in
      let run : (s : ℕ) → a ≤ s → s ≤ b → steady_value n end f s ≡ kept =
      λ s late early. cond_both (begins_steady n (change a v) (c ∷ cs)) v u (λ w. steady_value n end f s ≡ w)
      (λ is. run_stays n end f a b (omega arith) (omega arith) same begins (λ less. ends) (test ∙ is) s late early
      ∙ value s late early)
      (λ is. run_falls n end f a b (omega arith) (omega arith) same begins (λ less. ends) (test ∙ is) u carried s late
      early) in
      elim (cases_lt t c.tick) [
        | inl early ↦
            run t from (omega arith)
            ∙ sym (early_value width kept (steady_changes n (c ∷ cs)) c.tick t
            (steady_rise n width c.tick (c ∷ cs) (
              omega arith,
              alike ∙ wide,
              wave_rises width (c.tick + 1) c.value cs (alike ∙ wide) rest,
            )) early)
        | inr late ↦
            steady_from cs c.tick c.value kept here (alike ∙ wide) (λ s at stop. values s (omega arith) stop
            ∙ value_past v c cs s at) rest upto
            (λ p is equal. ends (ap f next ∙ equal ∙ ap f {x = p} {y = b} (omega arith)))
            (λ p is. run p (omega arith) (omega arith)) t late to
            ∙ sym (value_or_before (begins_steady n c cs) kept c (steady_changes n cs) t late)
      ]

-- only the tick of the first change counts
test_same : (n a : ℕ) (c : Change) (cs : List Change) → c.tick ≡ a
    → begins_steady n c cs ≡ begins_steady n (change a c.value) cs
test_same n a c [] is = refl
test_same n a c (next ∷ cs) is = ap (λ k. k == 0 || nat_le n (next.tick - k)) is

-- the value at each tick of a wave without its glitches is that of the steady changes
pub steady_values : (n end width : ℕ) (cs : List Change) → AreChangesFrom 0 (all_x width) cs → AllUpTo end cs → (t : ℕ)
    → t ≤ end → value_from (all_x width) (steady_changes n cs) t ≡ steady_value n end (value_from (all_x width) cs) t
unfolding steady_changes
steady_values n end width [] rise upto t to =
    sym (steady_from n end width (value_from (all_x width) []) [] 0 (all_x width) (all_x width) (omega arith)
    (length-replicate width X) (λ s late early. refl) tt tt
    (λ p is. absurd (omega (arith, is))) (λ p is. absurd (omega (arith, is))) t (omega arith) to)
steady_values n end width (c ∷ cs) (from, other, wide, rest) (here, upto) t to =
    elim (cases_eq c.tick 0) [
      | inl is ↦
          let rest_from : AreChangesFrom (0 + 1) c.value cs =
          subst (λ (k : ℕ). AreChangesFrom (k + 1) c.value cs) is rest in
          value_or_before (begins_steady n c cs) (all_x width) c (steady_changes n cs) t (omega (arith, is))
          ∙ ap (λ q. value_from (if q then c.value else all_x width) (steady_changes n cs) t) (test_same n 0 c cs is)
          ∙ sym (steady_from n end width (value_from (all_x width) (c ∷ cs)) cs 0 c.value (all_x width) (omega arith)
          (wide ∙ length-replicate width X) (λ s late early. value_past (all_x width) c cs s (omega (arith, is)))
          rest_from upto (λ p same. absurd (omega (arith, same))) (λ p same. absurd (omega (arith, same))) t
          (omega arith) to)
      | inr apart ↦
          ap (λ v. value_from v (steady_changes n (c ∷ cs)) t)
          (sym (either_same (begins_steady n (change 0 (all_x width)) (c ∷ cs)) (all_x width)))
          ∙ sym (steady_from n end width (value_from (all_x width) (c ∷ cs)) (c ∷ cs) 0 (all_x width) (all_x width)
          (omega arith) (length-replicate width X) (λ s late early. refl)
          (omega arith, other, wide, rest) (here, upto) (λ p same. absurd (omega (arith, same)))
          (λ p same. absurd (omega (arith, same))) t (omega arith) to)
    ]

-- the changes without the glitches
pub steady_are : (n end : ℕ) (s : SignalContents) → IsWave s.width s.changes → AllUpTo end s.changes
    → without_repeats (all_x s.width) (steady_changes n s.changes)
    ≡ changes_of s.width end (steady_value n end (signal_value s))
steady_are n end s is upto =
    without_repeats_is s.width end (steady_changes n s.changes) (steady_value n end (signal_value s))
    (steady_rise n s.width 0 s.changes
    (wave_rises s.width 0 (all_x s.width) s.changes (length-replicate s.width X) is.rise))
    (steady_upto n end s.changes upto) (steady_values n end s.width s.changes is.rise upto)

pub deglitch_is_wave : (k n : ℕ) (c : Contents)
    → effect (Deglitch k n) c ≡ with_wave c k (steady_value n c.end (signal_value (signal_at c k)))
unfolding effect
deglitch_is_wave k n c = refl
