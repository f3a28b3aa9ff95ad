-- The runs that end at the changes of a signal are those of its runs that contain neither tick 0 nor the end.
use Rattle.std.proofs.Common.{◌≡◌, ℕ, ◌+◌, ◌-◌, ◌≤◌, ◌==◌, ◌&&◌, nat_lt, Bool, true, false, if◌then◌else◌}
use Rattle.std.proofs.Common.{Option, List, [], ◌∷◌, length, refl, sym, ap, ◌∙◌, arith}
use Rattle.std.specs.List.{filter}
use Rattle.std.proofs.lemmas.Bool.{lt-ltb, le-ltb, both_ways, eq-eqb}
use Rattle.vcd_core.specs.declared.bit.Bit.{Bit}
use Rattle.vcd_core.specs.declared.wave.Change.{Change}
use Rattle.vcd_core.specs.Value.{all_x, letter_at}
use Rattle.vcd_core.specs.Wave.{change, AreChangesFrom, AllUpTo}
use Rattle.vcd_remarks.specs.ClockRuns.{is_of_level, is_level_run}
use Rattle.vcd_remarks.specs.ValueRuns.{ValueRun, runs_begun, changes_from_zero}
use Rattle.vcd_remarks.specs.inside.ClockRuns.{ended_runs, is_noted}

and_false : (b : Bool) → (b && false) ≡ false
and_false true = refl
and_false false = refl

and_true : (b : Bool) → (b && true) ≡ b
and_true true = refl
and_true false = refl

module _ (level : Option Bit) (end : ℕ) where
  -- the last run contains the end
  not_last : (first : ℕ) (value : List Bit)
      → is_level_run level end (record { first = first; last = end; value = value }) ≡ false
  not_last first value =
      ap (λ b. nat_lt 0 first && b && is_of_level level (letter_at value 0)) (le-ltb end end (omega arith))
      ∙ ap (λ b. b && is_of_level level (letter_at value 0)) (and_false (nat_lt 0 first))

  ended_are : (c : Change) (cs : List Change) → AreChangesFrom (c.tick + 1) c.value cs → AllUpTo end cs
      → filter (is_noted level) (ended_runs c cs) ≡ filter (is_level_run level end) (runs_begun end (c ∷ cs))
  unfolding ended_runs runs_begun
  ended_are c [] rise upto =
      let last : ValueRun = record { first = c.tick; last = end; value = c.value } in
      sym (ap (λ b. if b then last ∷ [] else []) (not_last c.tick c.value))
  ended_are c (d ∷ ds) (from, other, wide, rest) (within, upto) =
      let r : ValueRun = record { first = c.tick; last = d.tick - 1; value = c.value } in
      let early : nat_lt (d.tick - 1) end ≡ true = lt-ltb (d.tick - 1) end (omega (arith, from, within)) in
      let same : is_noted level r ≡ is_level_run level end r =
      ap (λ b. b && is_of_level level (letter_at c.value 0))
      (sym (and_true (nat_lt 0 c.tick)) ∙ ap (λ b. nat_lt 0 c.tick && b) (sym early)) in
      let later = ended_are d ds rest upto in
      λ i. if same i then r ∷ later i else later i

  -- from tick 0 on, where a line of so many bits is x
  pub all_ended : (width : ℕ) (cs : List Change) → AreChangesFrom 0 (all_x width) cs → AllUpTo end cs
      → filter (is_noted level) (ended_runs (change 0 (all_x width)) cs)
      ≡ filter (is_level_run level end) (runs_begun end (changes_from_zero width cs))
  unfolding ended_runs
  all_ended width [] rise upto = ended_are (change 0 (all_x width)) [] tt tt
  all_ended width (c ∷ cs) (from, other, wide, rest) (within, upto) = by_first (c.tick == 0) refl
    where
      by_first : (b : Bool) → (c.tick == 0) ≡ b
          → filter (is_noted level) (ended_runs (change 0 (all_x width)) (c ∷ cs))
          ≡ filter (is_level_run level end) (runs_begun end (if b then c ∷ cs else change 0 (all_x width) ∷ c ∷ cs))
      by_first true at = ended_are c cs rest upto
      by_first false apart =
          let later : 1 ≤ c.tick = omega (arith, λ (is : c.tick ≡ 0). both_ways _ apart (eq-eqb c.tick 0 is)) in
          ended_are (change 0 (all_x width)) (c ∷ cs) (later, other, wide, rest) (within, upto)

  -- ---- how many there are

  ended_few : (c : Change) (cs : List Change) → length (filter (is_noted level) (ended_runs c cs)) ≤ length cs
  unfolding ended_runs
  ended_few c [] = omega arith
  ended_few c (d ∷ ds) =
      let r : ValueRun = record { first = c.tick; last = d.tick - 1; value = c.value } in
      by_test (ended_few d ds) (is_noted level r)
    where
      by_test : length (filter (is_noted level) (ended_runs d ds)) ≤ length ds → (b : Bool)
          → length (if b then record { first = c.tick; last = d.tick - 1; value = c.value }
          ∷ filter (is_noted level) (ended_runs d ds) else filter (is_noted level) (ended_runs d ds)) ≤ length (d ∷ ds)
      by_test few true = omega (arith, few)
      by_test few false = omega (arith, few)

  rising_few : (floor : ℕ) (before : List Bit) (cs : List Change) → AreChangesFrom floor before cs → AllUpTo end cs
      → floor ≤ end + 1 → length cs + floor ≤ end + 1
  rising_few floor before [] rise upto low = omega (arith, low)
  rising_few floor before (c ∷ cs) (from, other, wide, rest) (within, upto) low =
      omega (arith, from, rising_few (c.tick + 1) c.value cs rest upto (omega (arith, within)))

  -- the run from tick 0 on is none of them
  pub few_ended : (width : ℕ) (cs : List Change) → AreChangesFrom 0 (all_x width) cs → AllUpTo end cs
      → length (filter (is_noted level) (ended_runs (change 0 (all_x width)) cs)) ≤ end
  unfolding ended_runs
  few_ended width [] rise upto = omega arith
  few_ended width (c ∷ cs) (from, other, wide, rest) (within, upto) =
      omega (arith, ended_few c cs, rising_few (c.tick + 1) c.value cs rest upto (omega (arith, within)))
