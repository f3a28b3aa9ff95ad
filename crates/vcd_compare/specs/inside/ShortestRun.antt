-- A wave up to a tick: the value there, the last turn, and the shortest run before.
use Rattle.std.specs.Prelude.{◌≡◌, ℕ, ◌-◌, ◌≤◌, Bool, Option, Some, None, IfSome}
use Rattle.std.specs.List.{last_or}
use Rattle.vcd_compare.specs.Differences.{WaveByTicks, ticks_between}
use Rattle.vcd_compare.specs.ShortestRun.{turns, shortest_run, lesser}
use Rattle.vcd_compare.specs.declared.shortest_run.ShortestRun.{ShortestRun}

-- the shortest run after a turn at a tick, after the turn before
abbrev pub shortest_after : (turned : Option ℕ) → ℕ → (shortest : Option ℕ) → Option ℕ
shortest_after None tick shortest = shortest
shortest_after (Some turned) tick shortest = Some (lesser (tick - turned) shortest)

-- a wave was seen from the first tick of a window to t
pub record HasSeenRuns {V : Type 0} (same : V → V → Bool) (a : WaveByTicks V) (first t : ℕ)
    (r : ShortestRun V) : Type 0 where
  pub from : first ≤ t
  pub value : r.value ≡ a t
  pub turned : r.turned ≡ last_or None (turns same a (ticks_between first t))
  pub within : IfSome r.turned (λ turned. turned ≤ t)
  pub shortest : r.shortest ≡ shortest_run same a (ticks_between first t)
