-- A pair of waves takes the next change of one of them.
use Rattle.std.proofs.Common.{◌≡◌, ℕ, ◌<◌, ◌≤◌, Bool, List, [], ◌∷◌, refl, sym, ap, ◌∙◌, arith, if◌then◌else◌}
use Rattle.std.proofs.lemmas.Bool.{le-leb, lt-leb}
use Rattle.vcd_compare.specs.Differences.{WaveByTicks}
use Rattle.vcd_compare.specs.Variables.{last_value}
use Rattle.vcd_compare.specs.inside.WavePair.{HasValueUntil}
use Rattle.vcd_compare.specs.inside.Pairs.{AllFrom, HasChanged, IsWavePairAt}
use Rattle.vcd_compare.specs.declared.wave_pair.Bounds.{Bounds}
use Rattle.vcd_compare.specs.declared.wave_pair.WavePair.{WavePair}
use Rattle.vcd_compare.specs.declared.pairs.Which.TheVariants.{First, Second}

module _ {V : Type 0} where
  -- a change at or before the tick counts
  pub value_past : (before : V) (c : ℕ × V) (cs : List (ℕ × V)) (t : ℕ) → c.0 ≤ t
      → last_value before (c ∷ cs) t ≡ last_value c.1 cs t
  unfolding last_value
  value_past before c cs t past = ap (λ b. last_value (if b then c.1 else before) cs t) (le-leb c.0 t past)

  -- a later one does not
  pub value_skip : (before : V) (c : ℕ × V) (cs : List (ℕ × V)) (t : ℕ) → t < c.0
      → last_value before (c ∷ cs) t ≡ last_value before cs t
  unfolding last_value
  value_skip before c cs t early = ap (λ b. last_value (if b then c.1 else before) cs t) (lt-leb c.0 t early)

  -- before the first change the value stays
  value_before : (v : V) (cs : List (ℕ × V)) (floor s : ℕ) → AllFrom floor cs → s < floor → last_value v cs s ≡ v
  unfolding last_value
  value_before v [] floor s from early = refl
  value_before v (c ∷ cs) floor s (at, rest) early =
      value_skip v c cs s (omega arith) ∙ value_before v cs floor s rest early

module _ {V : Type 0} (same : V → V → Bool) (bounds : Bounds) (last : ℕ) (wave other : WaveByTicks V) where
  -- up to a tick before which there is no change, both waves keep their values
  pub keeps_a : (left_a left_b : List (ℕ × V)) (tick : ℕ) (p : WavePair V)
      → IsWavePairAt same bounds last wave other left_a left_b p → AllFrom tick left_a
      → HasValueUntil wave p.tick tick p.a
  keeps_a left_a left_b tick p is all s from until = is.a s from ∙ value_before p.a left_a tick s all until

  pub keeps_b : (left_a left_b : List (ℕ × V)) (tick : ℕ) (p : WavePair V)
      → IsWavePairAt same bounds last wave other left_a left_b p → AllFrom tick left_b
      → HasValueUntil other p.tick tick p.b
  keeps_b left_a left_b tick p is all s from until = is.b s from ∙ value_before p.b left_b tick s all until

  -- a change of the first wave
  pub step_first : (tick : ℕ) (value : V) (left_a left_b : List (ℕ × V)) (old new : WavePair V)
      → IsWavePairAt same bounds last wave other ((tick, value) ∷ left_a) left_b old → AllFrom tick left_a
      → AllFrom tick left_b → tick ≤ last → HasChanged same bounds First tick value old new
      → IsWavePairAt same bounds last wave other left_a left_b new
  step_first tick value left_a left_b old new is later later_b upto changed =
      let within = is.within in
      let tick_is = changed.tick_is in
      record {
        found = changed.found wave other is.found
            (keeps_a ((tick, value) ∷ left_a) left_b tick old is (omega arith, later))
            (keeps_b ((tick, value) ∷ left_a) left_b tick old is later_b);
        a = λ s from.
            is.a s (omega (arith, tick_is)) ∙ value_past old.a (tick, value) left_a s (omega (arith, tick_is))
            ∙ ap (λ v. last_value v left_a s) (sym changed.a);
        b = λ s from. is.b s (omega (arith, tick_is)) ∙ ap (λ v. last_value v left_b s) (sym changed.b);
        within = omega (arith, within, tick_is);
      }

  -- a change of the second wave
  pub step_second : (tick : ℕ) (value : V) (left_a left_b : List (ℕ × V)) (old new : WavePair V)
      → IsWavePairAt same bounds last wave other left_a ((tick, value) ∷ left_b) old → AllFrom tick left_a
      → AllFrom tick left_b → tick ≤ last → HasChanged same bounds Second tick value old new
      → IsWavePairAt same bounds last wave other left_a left_b new
  step_second tick value left_a left_b old new is later later_b upto changed =
      let within = is.within in
      let tick_is = changed.tick_is in
      record {
        found = changed.found wave other is.found
            (keeps_a left_a ((tick, value) ∷ left_b) tick old is later)
            (keeps_b left_a ((tick, value) ∷ left_b) tick old is (omega arith, later_b));
        a = λ s from. is.a s (omega (arith, tick_is)) ∙ ap (λ v. last_value v left_a s) (sym changed.a);
        b = λ s from.
            is.b s (omega (arith, tick_is)) ∙ value_past old.b (tick, value) left_b s (omega (arith, tick_is))
            ∙ ap (λ v. last_value v left_b s) (sym changed.b);
        within = omega (arith, within, tick_is);
      }
