-- Ticks and spans that are found one after another.
use Rattle.std.specs.Prelude.{ℕ, ◌+◌, ◌-◌, ◌^◌, nat_lt, min, max, if◌then◌else◌, Bool, Option}
use Rattle.std.specs.Prelude.{Some, None, List, [], ◌∷◌, slice_set}
use Rattle.std.specs.List.{flat_map}
use Rattle.vcd_core.specs.declared.bit_edges.BitEdge.{BitEdge}
use Rattle.vcd_remarks.specs.declared.findings.finding.Finding.{Finding}
use Rattle.vcd_remarks.specs.declared.findings.finding_kind.FindingKind.{FindingKind}
use Rattle.vcd_remarks.specs.declared.findings.found_spans.FoundSpans.{FoundSpans}
use Rattle.vcd_remarks.specs.declared.findings.found_spans.Span.{Span}
use Rattle.vcd_remarks.specs.declared.findings.found_ticks.FoundTicks.{FoundTicks}
use Rattle.vcd_remarks.specs.declared.findings.found_ticks.TheConstants.{SHOWN_TICKS}

-- these ticks, and one more after them, counted as far as a `u64` goes
abbrev pub with_tick : FoundTicks → ℕ → FoundTicks
with_tick found tick = record {
  count = min (found.count + 1) (2 ^ 64 - 1);
  first = if nat_lt found.count SHOWN_TICKS then slice_set found.first found.count tick
      else found.first;
}

-- these ticks, and more after them
unfoldable pub with_ticks : FoundTicks → List ℕ → FoundTicks
with_ticks found [] = found
with_ticks found (t ∷ ts) = with_ticks (with_tick found t) ts

-- the ticks of the edges that pass a test
abbrev pub edge_ticks : (BitEdge → Bool) → List BitEdge → List ℕ
edge_ticks test es = flat_map (λ e. if test e then e.tick ∷ [] else []) es

-- these ticks, and that of an edge after them if it passes
abbrev pub with_edge_tick : (BitEdge → Bool) → FoundTicks → BitEdge → FoundTicks
with_edge_tick test found e = if test e then with_tick found e.tick else found

-- these ticks, and those of the edges to come that pass
abbrev pub found_left : (BitEdge → Bool) → FoundTicks → List BitEdge → FoundTicks
found_left test found es = with_ticks found (edge_ticks test es)

-- these spans, and one more after them
abbrev pub with_span : FoundSpans → Span → FoundSpans
with_span found s =
    record { ticks = with_tick found.ticks s.tick; most = max found.most s.ticks }

-- these spans, and one more after them if there is one
abbrev pub with_found : FoundSpans → Option Span → FoundSpans
with_found found None = found
with_found found (Some s) = with_span found s

-- these spans, and more after them
unfoldable pub with_spans : FoundSpans → List Span → FoundSpans
with_spans found [] = found
with_spans found (s ∷ ss) = with_spans (with_span found s) ss

-- ticks as a finding
abbrev pub finding_at : FindingKind → FoundTicks → Finding
finding_at kind ticks = record { kind = kind; ticks = ticks; most = 0 }

-- spans as a finding
abbrev pub finding_of_kind : FindingKind → FoundSpans → Finding
finding_of_kind kind found = record { kind = kind; ticks = found.ticks; most = found.most }
