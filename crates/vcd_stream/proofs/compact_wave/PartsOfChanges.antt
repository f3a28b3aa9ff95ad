-- The ticks and the values of changes, and the changes to these values at these ticks.
use Rattle.std.proofs.Common.{◌≡◌, ℕ, zero, suc, ◌+◌, ◌-◌, ◌<◌, ◌≤◌, nat_le, List, [], ◌∷◌, length, take, map, get_or}
use Rattle.std.proofs.Common.{refl, sym, ap, ap₂, ◌∙◌, arith}
use Rattle.std.specs.List.{count_by}
use Rattle.std.specs.List.Sorted.{IsNonDecreasing}
use Rattle.std.proofs.lemmas.Bool.{le-leb, lt-leb}
use Rattle.std.proofs.lemmas.List.{length-map, get_or-map}
use Rattle.vcd_core.specs.declared.bit.Bit.{Bit}
use Rattle.vcd_core.specs.declared.wave.Change.{Change}
use Rattle.vcd_core.specs.Value.{all_x}
use Rattle.vcd_core.specs.Wave.{value_at, AreChangesFrom, IsWave}
use Rattle.vcd_core.specs.WavePush.{last_value}
use Rattle.vcd_core.proofs.shared.Pushes.{ticks_do_not_fall, count_is, value_counted, no_change}
use Rattle.vcd_stream.specs.inside.CompactWaves.{changes_to}

-- the ticks and the values of changes make them again
again : (cs : List Change) → changes_to (map (λ c. c.tick) cs) (map (λ c. c.value) cs) ≡ cs
again [] = refl
again (c ∷ cs) = ap (λ (l : List Change). c ∷ l) (again cs)

pub made_again : (ts : List ℕ) (vs : List (List Bit)) (cs : List Change) → ts ≡ map (λ c. c.tick) cs
    → vs ≡ map (λ c. c.value) cs → changes_to ts vs ≡ cs
made_again ts vs cs ticks values = ap₂ changes_to ticks values ∙ again cs

pub ticks_made : (ts : List ℕ) (vs : List (List Bit)) → length ts ≡ length vs
    → map (λ (c : Change). c.tick) (changes_to ts vs) ≡ ts
ticks_made [] vs long = refl
ticks_made (t ∷ ts) [] long = absurd (omega (arith, long))
ticks_made (t ∷ ts) (v ∷ vs) long = ap (λ (l : List ℕ). t ∷ l) (ticks_made ts vs (omega (arith, long)))

pub length_made : (ts : List ℕ) (vs : List (List Bit)) → length ts ≡ length vs → length (changes_to ts vs) ≡ length vs
length_made ts vs long = sym (length-map (changes_to ts vs) (λ (c : Change). c.tick))
    ∙ ap length (ticks_made ts vs long) ∙ long

-- the value after some changes is that of the last of them
pub last_made : (before : List Bit) (ts : List ℕ) (vs : List (List Bit)) (k : ℕ) (d : List Bit)
    → k < length (changes_to ts vs) → last_value before (take (suc k) (changes_to ts vs)) ≡ get_or vs k d
unfolding last_value
last_made before [] vs k d within = absurd (omega arith)
last_made before (t ∷ ts) [] k d within = absurd (omega arith)
last_made before (t ∷ ts) (v ∷ vs) zero d within = refl
last_made before (t ∷ ts) (v ∷ vs) (suc k) d within = last_made v ts vs k d (omega arith)

-- all values have one width
pub value_wide : (floor : ℕ) (before : List Bit) (cs : List Change) → AreChangesFrom floor before cs → (k : ℕ)
    (d : Change) → k < length cs → length (get_or cs k d).value ≡ length before
value_wide floor before [] rise k d within = absurd (omega arith)
value_wide floor before (c ∷ cs) (from, other, wide, rest) zero d within = wide
value_wide floor before (c ∷ cs) (from, other, wide, rest) (suc k) d within =
    value_wide (c.tick + 1) c.value cs rest k d (omega arith) ∙ wide

-- the value after some changes is that at a tick up to which there are as many
pub value_there : (width : ℕ) (cs : List Change) → IsWave width cs → (count tick : ℕ) (v : List Bit)
    → v ≡ last_value (all_x width) (take count cs) → count ≡ count_by (λ c. nat_le c.tick tick) cs
    → v ≡ value_at width cs tick
value_there width cs is count tick v last counted =
    last ∙ ap (λ n. last_value (all_x width) (take n cs)) counted
    ∙ sym (value_counted cs tick 0 (all_x width) (all_x width) is.rise)

module _ (width : ℕ) (cs : List Change) (is : IsWave width cs) (ts : List ℕ) (same : map (λ c. c.tick) cs ≡ ts) where
  long : length ts ≡ length cs
  long = ap length (sym same) ∙ length-map cs (λ (c : Change). c.tick)

  tick_at : (k d : ℕ) → k < length cs → get_or ts k d ≡ (get_or cs k no_change).tick
  tick_at k d within = ap (λ (l : List ℕ). get_or l k d) (sym same)
      ∙ get_or-map (λ (c : Change). c.tick) cs k no_change d within

  stay : (i j : ℕ) → i ≤ j → j < length cs → (get_or cs i no_change).tick ≤ (get_or cs j no_change).tick
  stay i j le within = ticks_do_not_fall 0 (all_x width) cs is.rise i j no_change le within

  pub ticks_stay : IsNonDecreasing ts
  ticks_stay i j d le within =
      let inside : j < length cs = omega (arith, long) in
      omega (arith, tick_at i d (omega arith), tick_at j d inside, stay i j le inside)

  -- an index between the changes at or before a tick and the later ones counts the former
  pub index_counts : (tick n : ℕ) → n ≤ length ts → (0 < n → get_or ts (n - 1) 0 ≤ tick)
      → (n < length ts → tick < get_or ts n 0) → n ≡ count_by (λ c. nat_le c.tick tick) cs
  index_counts tick n within early late =
      sym (count_is (λ c. nat_le c.tick tick) cs n no_change (omega (arith, long)) (λ k below. le-leb _ tick (omega (
        arith,
        early (omega arith),
        tick_at (n - 1) 0 (omega (arith, long)),
        stay k (n - 1) (omega arith) (omega (arith, long)),
      ))) (λ k from inside. lt-leb _ tick (omega (
        arith,
        late (omega (arith, long)),
        tick_at n 0 (omega arith),
        stay n k from inside,
      ))))
