-- What is found by a `deglitch` while the changes of its signal come one at a time.
use Rattle.std.specs.Prelude.{ℕ, ◌-◌, ◌==◌, ◌&&◌, ◌||◌, nat_lt, nat_le, not, Bool}
use Rattle.std.specs.Prelude.{if◌then◌else◌, Option, Some, None, List, [], ◌∷◌, ◌++◌, map}
use Rattle.std.specs.List.{filter}
use Rattle.std.specs.Option.{option_map, option_to_list}
use Rattle.vcd_core.specs.declared.wave.Change.{Change}
use Rattle.vcd_core.specs.Value.{same_letters}
use Rattle.vcd_remarks.specs.declared.deglitch_finder.DeglitchFinder.{DeglitchFinder}
use Rattle.vcd_remarks.specs.declared.deglitch_finder.FoundRuns.{FoundRuns}
use Rattle.vcd_remarks.specs.declared.deglitch_finder.PulseRule.{PulseRule}
use Rattle.vcd_remarks.specs.declared.deglitch_finder.Run.{Run}
use Rattle.vcd_remarks.specs.declared.findings.finding.Finding.{Finding}
use Rattle.vcd_remarks.specs.declared.findings.finding_kind.FindingKind.TheVariants as kinds
use Rattle.vcd_remarks.specs.declared.findings.found_spans.Span.{Span}
use Rattle.vcd_remarks.specs.EditFindings.{gap, gaps, delayed_edges, kept_runs}
use Rattle.vcd_remarks.specs.FoundTicks.{span}
use Rattle.vcd_remarks.specs.ValueRuns.{ValueRun, runs_begun, ticks_of_run, is_pulse}
use Rattle.vcd_remarks.specs.inside.FoundTicks.{with_spans, finding_of_kind}

-- ---- runs

-- a run of the code
abbrev pub value_run : Run → ValueRun
value_run r = record { first = r.begin.tick; last = r.last; value = r.begin.value }

-- a run as a span, if it has fewer ticks
abbrev pub short_span : (ticks : ℕ) → ValueRun → Option Span
short_span ticks r =
    if nat_lt (ticks_of_run r) ticks then Some (span r.first (ticks_of_run r)) else None

-- the ticks between the last run that stays and another, if they are at least so many
abbrev pub stretch_before : (ticks : ℕ) → (kept : Option Run) → ValueRun → Option Span
stretch_before ticks None r = None
stretch_before ticks (Some before) r =
    let n = gap (value_run before) r in
    if nat_le ticks n then Some (span (r.first - n) n) else None

-- the edge between them, if it is late
abbrev pub late_edge : (kept : Option Run) → ValueRun → Option Span
late_edge None r = None
late_edge (Some before) r =
    let n = gap (value_run before) r in
    let is_same = same_letters r.value before.begin.value in
    if not is_same && nat_lt 0 n then Some (span r.first n) else None

-- ---- what is found in runs

-- runs as spans
abbrev pub run_spans : List ValueRun → List Span
run_spans rs = map (λ r. span r.first (ticks_of_run r)) rs

-- those of them that are short
abbrev pub short_spans : (ticks : ℕ) → List ValueRun → List Span
short_spans ticks rs = run_spans (filter (λ r. nat_lt (ticks_of_run r) ticks) rs)

-- the gaps between runs that have at least so many ticks
abbrev pub long_gaps : (ticks : ℕ) → List ValueRun → List Span
long_gaps ticks rs = filter (λ s. nat_le ticks s.ticks) (gaps rs)

-- the late edges between runs
abbrev pub late_spans : List ValueRun → List Span
late_spans rs = filter (λ s. nat_lt 0 s.ticks) (delayed_edges rs)

-- runs that stay, after the last one before them
abbrev pub with_last_kept : Option Run → List ValueRun → List ValueRun
with_last_kept kept rs = option_to_list (option_map value_run kept) ++ rs

-- what will have been found after the runs to come
abbrev pub run_findings_left : PulseRule → FoundRuns → List ValueRun → List Finding
run_findings_left rule found rs =
    let stay = kept_runs rule.ticks rule.end rs in
    finding_of_kind kinds.PulsesRemoved
    (with_spans found.pulses (run_spans (filter (is_pulse rule.ticks rule.end) rs)))
    ∷ finding_of_kind kinds.BrokenStretches
    (with_spans found.stretches (long_gaps rule.ticks (with_last_kept found.kept stay)))
    ∷ finding_of_kind kinds.LateEdges
    (with_spans found.late_edges (late_spans (with_last_kept found.kept stay)))
    ∷ finding_of_kind kinds.ShortRunsKept
    (with_spans found.short_runs (short_spans rule.ticks stay)) ∷ []

-- ---- what is found at changes

-- the changes that begin runs: the one before those to come, and these. It begins none if the first
-- change is at tick 0
abbrev pub begins_left : (has_change : Bool) → (begin : Change) → List Change → List Change
begins_left has_change begin [] = begin ∷ []
begins_left has_change begin (c ∷ cs) =
    if has_change || not (c.tick == 0) then begin ∷ c ∷ cs else c ∷ cs

-- what will have been found after the changes to come
abbrev pub deglitch_left : DeglitchFinder → List Change → List Finding
deglitch_left f cs =
    let begins = begins_left f.has_change f.run.begin cs in
    run_findings_left f.rule f.found (runs_begun f.rule.end begins)
