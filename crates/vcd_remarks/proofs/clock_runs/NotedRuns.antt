-- The runs of a level that are noted under each power of two.
use Rattle.std.proofs.Common.{◌≡◌, ℕ, suc, ◌-◌, ◌^◌, ◌<◌, ◌&&◌, nat_lt, Bool, true, false, if◌then◌else◌}
use Rattle.std.proofs.Common.{Option, Some, None, List, [], ◌∷◌, length, map, refl, sym, ap, ◌∙◌, arith}
use Rattle.std.specs.List.{filter}
use Rattle.std.proofs.lemmas.Bool.{lt-ltb, ltb-true, and_parts}
use Rattle.vcd_core.specs.declared.bit.Bit.{Bit}
use Rattle.vcd_core.specs.declared.wave.Change.{Change}
use Rattle.vcd_core.specs.Wave.{change}
use Rattle.vcd_remarks.specs.declared.clock_runs.LevelRuns.{LevelRuns}
use Rattle.vcd_remarks.specs.declared.clock_runs.runs_below.RunsBelow.{RunsBelow}
use Rattle.vcd_remarks.specs.declared.findings.found_ticks.FoundTicks.{FoundTicks}
use Rattle.vcd_remarks.specs.ClockRuns.{is_level_run}
use Rattle.vcd_remarks.specs.ValueRuns.{ValueRun, ticks_of_run}
use Rattle.vcd_remarks.specs.inside.ClockRuns.{is_noted, ended_runs, ended_ticks, is_below_if, below}
use Rattle.vcd_remarks.specs.inside.ClockRuns.{below_left}
use Rattle.vcd_remarks.specs.inside.FoundTicks.{with_tick, with_ticks}
use Rattle.vcd_remarks.specs.inside.RunsBelow.{at_power}

-- the runs of a level are all below the last power
module _ (level : Option Bit) (end : ℕ) where
  pub all_below : (rs : List ValueRun) → end < 2 ^ 64 → length (filter (is_level_run level end) rs)
      ≡ length (below 64 (filter (is_level_run level end) rs))
  unfolding below
  all_below [] fits = refl
  all_below (r ∷ rs) fits = by_level (all_below rs fits) (is_level_run level end r) refl
    where
      by_level : length (filter (is_level_run level end) rs) ≡ length (below 64 (filter (is_level_run level end) rs))
          → (b : Bool) → is_level_run level end r ≡ b
          → length (if b then r ∷ filter (is_level_run level end) rs else filter (is_level_run level end) rs)
          ≡ length (below 64 (if b then r ∷ filter (is_level_run level end) rs else filter (is_level_run level end) rs))
      by_level later false is = later
      by_level later true is =
          let inner = and_parts (nat_lt 0 r.first && nat_lt r.last end) _ is in
          let early = ltb-true r.last end (and_parts (nat_lt 0 r.first) (nat_lt r.last end) inner.0).1 in
          let short : nat_lt (ticks_of_run r) (2 ^ 64) ≡ true =
          lt-ltb (ticks_of_run r) (2 ^ 64) (omega (arith, early, fits)) in
          ap suc later
          ∙ ap (λ (b : Bool). length (map (λ (q : ValueRun). q.first)
          (if b then r ∷ filter (λ q. nat_lt (ticks_of_run q) (2 ^ 64)) (filter (is_level_run level end) rs)
          else filter (λ q. nat_lt (ticks_of_run q) (2 ^ 64)) (filter (is_level_run level end) rs)))) (sym short)

-- the last run ends at a change, and is noted if it is of the level
module _ (l : LevelRuns) (tick : ℕ) (letter : Bit) (more : List Change) (power : ℕ) where
  abbrev ended : ValueRun
  ended = record { first = l.since; last = tick - 1; value = l.letter ∷ [] }

  abbrev later : List ValueRun
  later = filter (is_noted l.level) (ended_runs (change tick (letter ∷ [])) more)

  one_noted : (found : FoundTicks) (b : Bool)
      → with_ticks (if is_below_if (if b then Some (ticks_of_run ended) else None) power then with_tick found l.since
      else found) (below power later)
      ≡ with_ticks found (below power (if b then ended ∷ later else later))
  unfolding with_ticks below
  one_noted found false = refl
  one_noted found true = by_power (nat_lt (ticks_of_run ended) (2 ^ power))
    where
      by_power : (b : Bool) → with_ticks (if b then with_tick found l.since else found) (below power later)
          ≡ with_ticks found (map (λ (q : ValueRun). q.first) (if b then ended
          ∷ filter (λ q. nat_lt (ticks_of_run q) (2 ^ power)) later
          else filter (λ q. nat_lt (ticks_of_run q) (2 ^ power)) later))
      by_power true = refl
      by_power false = refl

  pub run_noted : (next : RunsBelow) → at_power next power
      ≡ (if is_below_if (ended_ticks l tick) power then with_tick (at_power l.below power) l.since
      else at_power l.below power)
      → below_left (record { level = l.level; since = tick; letter = letter; below = next }) more power
      ≡ below_left l (change tick (letter ∷ []) ∷ more) power
  unfolding ended_runs
  run_noted next is = ap (λ (f : FoundTicks). with_ticks f (below power later)) is
      ∙ one_noted (at_power l.below power) (is_noted l.level ended)
