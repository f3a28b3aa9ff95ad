-- The walk over the edges of waves: the waves from some tick on, and the edges that are left.
use Rattle.std.specs.Prelude.{ℕ, ◌+◌, ◌≡◌, ◌==◌, Option, Some, None, MatchOption, if◌then◌else◌}
use Rattle.std.specs.Prelude.{min, List, [], ◌∷◌, map}
use Rattle.vcd_core.specs.declared.bit.Bit.{Bit}
use Rattle.vcd_core.specs.declared.wave.Change.{Change}
use Rattle.vcd_core.specs.declared.edges.Edge.{Edge}
use Rattle.vcd_core.specs.declared.bit_edges.BitEdge.{BitEdge}
use Rattle.vcd_core.specs.declared.edge_walk.Latest.{Latest}
use Rattle.vcd_core.specs.declared.edge_walk.Latest.TheVariants as latest
use Rattle.vcd_core.specs.declared.edge_walk.Trace.{Trace as LentTrace}
use Rattle.vcd_core.specs.declared.edge_walk.EdgeWalk.{EdgeWalk}
use Rattle.vcd_core.specs.Value.{all_x}
use Rattle.vcd_core.specs.Wave.{AreChangesFrom}
use Rattle.vcd_core.specs.Edges.{Trace, edges_on}
use Rattle.vcd_core.specs.BitEdges.{bit_edge}

-- the value of a wave by what gives it
abbrev pub latest_value : Latest → Option (List Bit)
latest_value latest.Absent = None
latest_value (latest.Start wave) = Some (all_x wave.now.width)
latest_value (latest.Change change) = Some change.now.value

-- the rest of a wave, from the tick of the walk on
abbrev pub trace_left : LentTrace → Trace
trace_left track = record { before = latest_value track.latest; changes = track.rest.now }

-- the rest of the four waves
abbrev pub traces_left : EdgeWalk → List Trace
traces_left e = trace_left e.a ∷ trace_left e.b ∷ trace_left e.c ∷ trace_left e.d ∷ []

-- the tick of the next change
abbrev pub next_tick : List Change → Option ℕ
next_tick [] = None
next_tick (c ∷ cs) = Some c.tick

-- the lesser of two ticks that may be absent
abbrev pub earlier_tick : Option ℕ → Option ℕ → Option ℕ
earlier_tick None u = u
earlier_tick (Some t) None = Some t
earlier_tick (Some t) (Some u) = Some (min t u)

-- the tick of the next change of several waves
abbrev pub next_tick_of : List Trace → Option ℕ
next_tick_of [] = None
next_tick_of (l ∷ ls) = earlier_tick (next_tick l.changes) (next_tick_of ls)

-- a wave after its next change, if that is at the tick
abbrev pub trace_past : ℕ → Option (List Bit) → List Change → Trace
trace_past t before [] = record { before = before; changes = [] }
trace_past t before (c ∷ cs) =
    if c.tick == t then record { before = Some c.value; changes = cs }
    else record { before = before; changes = c ∷ cs }

-- the same for a wave
abbrev pub trace_after : ℕ → Trace → Trace
trace_after t l = trace_past t l.before l.changes

-- the changes of a wave rise from a tick on; an absent wave has none
abbrev pub Rises : ℕ → Trace → Type 0
Rises floor l = MatchOption l.before (l.changes ≡ []) (λ v. AreChangesFrom floor v l.changes)

-- the same for each wave
abbrev pub EachRises : ℕ → List Trace → Type 0
EachRises floor [] = Unit {0}
EachRises floor (l ∷ ls) = Rises floor l × EachRises floor ls

-- a tick at or after all changes
abbrev pub ticks_sum : List Change → ℕ
ticks_sum [] = 0
ticks_sum (c ∷ cs) = c.tick + ticks_sum cs

-- a tick at or after all changes of all waves
abbrev pub reach : List Trace → ℕ
reach [] = 0
reach (l ∷ ls) = ticks_sum l.changes + reach ls

-- the edges that are left
unfoldable pub edges_left : List Trace → List Edge
edges_left ls = edges_on ls (reach ls)

-- the same with bits in place of values
abbrev pub bit_edges_left : List Trace → List BitEdge
bit_edges_left ls = map bit_edge (edges_left ls)
