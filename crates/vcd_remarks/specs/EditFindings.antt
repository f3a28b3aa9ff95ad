-- What an edit takes out, moves or leaves of a signal, and may mislead. The project's own.
use Rattle.std.specs.Prelude.{ℕ, ◌-◌, ◌&&◌, nat_lt, nat_le, ℤ, int_lt, pos, ◌+ℤ◌, Bool, true}
use Rattle.std.specs.Prelude.{false, not, if◌then◌else◌, List, [], ◌∷◌, map}
use Rattle.std.specs.List.{filter, list_any}
use Rattle.vcd_core.specs.declared.bit.Bit.{Bit}
use Rattle.vcd_core.specs.declared.bit.Bit.TheVariants.{Z}
use Rattle.vcd_core.specs.declared.wave.Change.{Change}
use Rattle.vcd_core.specs.Value.{all_x, same_letters}
use Rattle.vcd_core.specs.Contents.{Contents, signal_at}
use Rattle.vcd_edit.specs.declared.edit.Edit.{Edit}
use Rattle.vcd_edit.specs.declared.edit.Edit.TheVariants.{Invert, Shift, Deglitch, Force}
use Rattle.vcd_remarks.specs.declared.findings.finding.Finding.{Finding}
use Rattle.vcd_remarks.specs.declared.findings.finding_kind.FindingKind.{FindingKind}
use Rattle.vcd_remarks.specs.declared.findings.finding_kind.FindingKind.TheVariants as kinds
use Rattle.vcd_remarks.specs.declared.findings.found_spans.Span.{Span}
use Rattle.vcd_remarks.specs.Findings.{finding, span_finding}
use Rattle.vcd_remarks.specs.FoundTicks.{span}
use Rattle.vcd_remarks.specs.ValueRuns.{ValueRun, value_runs, ticks_of_run, is_pulse}

-- ---- deglitch

-- how many ticks there are between two runs in turn, of which those between them were taken out
abbrev pub gap : (before : ValueRun) → ValueRun → ℕ
gap before r = r.first - before.last - 1

-- the ticks between runs in turn
unfoldable pub gaps : List ValueRun → List Span
gaps (before ∷ r ∷ rs) = span (r.first - gap before r) (gap before r) ∷ gaps (r ∷ rs)
gaps rs = []

-- by how many ticks at most the edge from a run to the next one is late. 0 if both have one value:
-- there is no edge
abbrev pub edge_delay : (before : ValueRun) → ValueRun → ℕ
edge_delay before r = if same_letters r.value before.value then 0 else gap before r

-- the edges between runs in turn, with these delays
unfoldable pub delayed_edges : List ValueRun → List Span
delayed_edges (before ∷ r ∷ rs) = span r.first (edge_delay before r) ∷ delayed_edges (r ∷ rs)
delayed_edges rs = []

-- on the runs of a signal
module _ (ticks end : ℕ) (runs : List ValueRun) where
  -- those that a `deglitch` leaves
  abbrev pub kept_runs : List ValueRun
  kept_runs = filter (λ r. not (is_pulse ticks end r)) runs

  -- the edges right after pulses
  abbrev pub late_edges : List Span
  late_edges = filter (λ s. nat_lt 0 s.ticks) (delayed_edges kept_runs)

  -- what is found by a `deglitch`: pulses, stretches of pulses that last as long as no pulse may,
  -- late edges, and runs that stay though they are as short as pulses
  abbrev pub deglitch_findings : List Finding
  deglitch_findings =
      let run_spans = map (λ r. span r.first (ticks_of_run r)) in
      span_finding kinds.PulsesRemoved (run_spans (filter (is_pulse ticks end) runs))
      ∷ span_finding kinds.BrokenStretches (filter (λ s. nat_le ticks s.ticks) (gaps kept_runs))
      ∷ span_finding kinds.LateEdges late_edges
      ∷ span_finding kinds.ShortRunsKept
      (run_spans (filter (λ r. nat_lt (ticks_of_run r) ticks) kept_runs)) ∷ []

-- ---- other edits

-- what is found at the changes that pass a test
abbrev pub change_finding : FindingKind → (Change → Bool) → List Change → Finding
change_finding kind test changes = finding kind (map (λ c. c.tick) (filter test changes))

-- whether a shift by so many ticks moves a change past the end
abbrev pub is_moved_past : (end : ℕ) → (by : ℤ) → Change → Bool
is_moved_past end by c = int_lt (pos end) (pos c.tick +ℤ by)

-- whether it moves an edge before tick 0. A change at tick 0 is no edge
abbrev pub is_moved_before_zero : (by : ℤ) → Change → Bool
is_moved_before_zero by c = nat_lt 0 c.tick && int_lt (pos c.tick +ℤ by) (pos 0)

-- what is found by a `shift` of these changes, in a capture up to this end
abbrev pub shift_findings : (end : ℕ) → (by : ℤ) → List Change → List Finding
shift_findings end by changes = change_finding kinds.MovedPastEnd (is_moved_past end by) changes
    ∷ change_finding kinds.MovedBeforeZero (is_moved_before_zero by) changes ∷ []

-- whether a letter is z
abbrev pub is_z : Bit → Bool
is_z Z = true
is_z b = false

-- what is found by an `invert` of these changes
abbrev pub invert_findings : List Change → List Finding
invert_findings changes = change_finding kinds.InvertedZ (λ c. list_any is_z c.value) changes ∷ []

-- whether a change is one no more once its signal has a value from one tick up to but not including
-- another; `before` is the value before the change
abbrev pub is_change_taken_out : (from to : ℕ) → (value before : List Bit) → Change → Bool
is_change_taken_out from to value before c = same_letters
    (if nat_le from c.tick && nat_lt c.tick to then value else c.value)
    (if nat_lt from c.tick && nat_le c.tick to then value else before)

-- the ticks of these changes; `before` is the value before the first
unfoldable pub ticks_taken_out : (from to : ℕ) → (value before : List Bit) → List Change → List ℕ
ticks_taken_out from to value before [] = []
ticks_taken_out from to value before (c ∷ cs) =
    let rest = ticks_taken_out from to value c.value cs in
    if is_change_taken_out from to value before c then c.tick ∷ rest else rest

-- what is found by a `force` of a signal
abbrev pub force_findings : (from to : ℕ) → (value x : List Bit) → List Change → List Finding
force_findings from to value x changes =
    finding kinds.ChangesTakenOut (ticks_taken_out from to value x changes) ∷ []

-- what is found by an edit that is not refused
abbrev pub edit_findings : Edit → Contents → List Finding
edit_findings (Deglitch k ticks) c =
    deglitch_findings ticks c.end (value_runs c.end (signal_at c k))
edit_findings (Shift k by) c = shift_findings c.end by (signal_at c k).changes
edit_findings (Invert k) c = invert_findings (signal_at c k).changes
edit_findings (Force k from to value) c =
    force_findings from to value (all_x (signal_at c k).width) (signal_at c k).changes
edit_findings e c = []
