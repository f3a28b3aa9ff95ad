-- Edges of several waves, where an absent wave has no value: the project's own.
use Rattle.std.specs.Prelude.{ℕ, zero, suc, Bool, Option, Some, None, true, false, not, List, []}
use Rattle.std.specs.Prelude.{◌∷◌, map, filter, IfSome}
use Rattle.std.specs.List.{list_any, range_with_len}
use Rattle.std.specs.Option.{option_map}
use Rattle.vcd_core.specs.declared.bit.Bit.{Bit}
use Rattle.vcd_core.specs.declared.wave.Change.{Change}
use Rattle.vcd_core.specs.declared.edges.Edge.{Edge}
use Rattle.vcd_core.specs.Value.{all_x, same_letters}
use Rattle.vcd_core.specs.Wave.{value_from, AllUpTo}
use Rattle.vcd_core.specs.WaveView.{WaveView}

-- a wave by its value before tick 0, none if it is absent, and its changes
pub record Trace : Type 0 where
  pub before : Option (List Bit)
  pub changes : List Change

-- a wave that may be absent: all x before tick 0
abbrev pub trace_of : Option WaveView → Trace
trace_of None = record { before = None; changes = [] }
trace_of (Some w) = record { before = Some (all_x w.width); changes = w.changes }

-- the value of a trace at a tick
abbrev pub value_on : Trace → ℕ → Option (List Bit)
value_on l t = option_map (λ v. value_from v l.changes t) l.before

-- the value of a trace just before a tick
abbrev pub value_before : Trace → ℕ → Option (List Bit)
value_before l zero = l.before
value_before l (suc t) = value_on l t

-- whether two values are the same, or both absent
abbrev pub same_value : Option (List Bit) → Option (List Bit) → Bool
same_value None None = true
same_value None (Some w) = false
same_value (Some v) None = false
same_value (Some v) (Some w) = same_letters v w

-- whether the value of a trace at a tick differs from that just before it
abbrev pub changes_at : ℕ → Trace → Bool
changes_at t l = not (same_value (value_on l t) (value_before l t))

-- the values just before a tick and at it
abbrev pub edge_on : List Trace → ℕ → Edge
edge_on lines t = record {
  tick = t;
  before = map (λ l. value_before l t) lines;
  at = map
      (λ l. value_on l t) lines;
}

-- the edges at the ticks 0 to `end`, rising: one at each tick at which some wave changes
unfoldable pub edges_on : List Trace → ℕ → List Edge
edges_on lines end =
    map (edge_on lines) (filter (λ t. list_any (changes_at t) lines) (range_with_len 0 (suc end)))

-- the edges of waves that may be absent
abbrev pub edges_of : List (Option WaveView) → ℕ → List Edge
edges_of waves end = edges_on (map trace_of waves) end

-- no wave changes past the tick `end`
abbrev pub EachUpTo : ℕ → List (Option WaveView) → Type 0
EachUpTo end [] = Unit {0}
EachUpTo end (wave ∷ waves) = IfSome wave (λ w. AllUpTo end w.changes) × EachUpTo end waves
