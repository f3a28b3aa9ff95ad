-- What is true where remarks are made: the contracts of functions of `laws`.
use Rattle.std.specs.Prelude.{ℕ, zero, suc, ◌-◌, ◌≡◌, ◌≢◌, ◌<◌, ◌≤◌, nat_lt, Bool}
use Rattle.std.specs.Prelude.{if◌then◌else◌, None, List, [], ◌∷◌, length, map, All}
use Rattle.std.specs.List.{filter, range_with_len}
use Rattle.vcd_core.specs.declared.bit.Bit.{Bit}
use Rattle.vcd_core.specs.Value.{same_letters}
use Rattle.vcd_core.specs.Contents.{Contents, signal_at}
use Rattle.vcd_core.specs.Sound.{IsSound}
use Rattle.vcd_edit.specs.declared.edit.Edit.TheVariants.{Deglitch}
use Rattle.vcd_edit.specs.Effect.{is_steady, effect}
use Rattle.vcd_edit.specs.EditFaults.{edit_fault}
use Rattle.vcd_edit.specs.EffectLaws.{value_of}
use Rattle.vcd_remarks.specs.EditFindings.{late_edges}
use Rattle.vcd_remarks.specs.FoundTicks.{span}
use Rattle.vcd_remarks.specs.ValueRuns.{ValueRun, value_runs, is_pulse}

-- these are the runs of one value at the ticks `from` to `end`: they follow one another, each has
-- its value at each of its ticks, and the tick after it another
abbrev pub AreRunsFrom : (f : ℕ → List Bit) → (from end : ℕ) → List ValueRun → Type 0
AreRunsFrom f from end [] = from ≡ suc end
AreRunsFrom f from end (r ∷ rs) =
    (r.first ≡ from) × (r.first ≤ r.last) × ((t : ℕ) → r.first ≤ t → t ≤ r.last → f t ≡ r.value)
    × (r.last < end → f (suc r.last) ≢ r.value)
    × AreRunsFrom f (suc r.last) end rs

-- the runs of a signal are all its runs of one value, from tick 0 to the end
abbrev pub ValueRunsAreAll : Type 0
ValueRunsAreAll =
    (c : Contents) (k : ℕ) → IsSound c → k < length c.signals
    → AreRunsFrom (value_of c k) 0 c.end (value_runs c.end (signal_at c k))

-- at the ticks of a pulse a deglitch leaves the value that the signal then has just before it, and
-- at those of any other run its own
abbrev pub IsTakenOutIfPulse : Contents → (k ticks : ℕ) → ValueRun → Type 0
IsTakenOutIfPulse c k ticks r =
    let after = value_of (effect (Deglitch k ticks) c) k in
    (t : ℕ) → r.first ≤ t → t ≤ r.last
    → after t ≡ (if is_pulse ticks c.end r then after (r.first - 1) else r.value)

-- the pulses that a remark counts are just the runs that a deglitch takes out
abbrev pub PulsesAreTakenOut : Type 0
PulsesAreTakenOut =
    (c : Contents) (k ticks : ℕ) → IsSound c → k < length c.signals
    → edit_fault (Deglitch k ticks) c ≡ None
    → All (IsTakenOutIfPulse c k ticks) (value_runs c.end (signal_at c k))

-- how many ticks that are not steady come right before a tick
unfoldable pub unsteady_before : (steady : ℕ → Bool) → ℕ → ℕ
unsteady_before steady zero = 0
unsteady_before steady (suc t) = if steady t then 0 else suc (unsteady_before steady t)

-- by how many ticks at most the edge at a tick is late after a deglitch: those right before it that
-- are not steady. 0 if the signal does not change at that tick
abbrev pub delay_at : Contents → (k ticks : ℕ) → ℕ → ℕ
delay_at c k ticks t =
    let after = value_of (effect (Deglitch k ticks) c) k in
    if same_letters (after t) (after (t - 1)) then 0
    else unsteady_before (is_steady ticks c.end (value_of c k)) t

-- the edges that a remark calls late are those at all ticks at which an edge is late
abbrev pub DelaysAreAll : Type 0
DelaysAreAll =
    (c : Contents) (k ticks : ℕ) → IsSound c → k < length c.signals
    → edit_fault (Deglitch k ticks) c ≡ None
    → late_edges ticks c.end (value_runs c.end (signal_at c k)) ≡ filter (λ s. nat_lt 0 s.ticks)
    (map (λ t. span t (delay_at c k ticks t)) (range_with_len 0 (suc c.end)))
