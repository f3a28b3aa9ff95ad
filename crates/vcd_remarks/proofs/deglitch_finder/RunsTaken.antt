-- What is left to find of a `deglitch` after one more run, and before the first change.
use Rattle.std.proofs.Common.{◌≡◌, ℕ, suc, ◌+◌, ◌^◌, ◌<◌, ◌≤◌, ◌==◌, ◌&&◌, nat_lt, nat_le, not, Bool}
use Rattle.std.proofs.Common.{true, false, cond, if◌then◌else◌, Option, Some, None, List, [], ◌∷◌, length}
use Rattle.std.proofs.Common.{refl, ap, ◌∙◌, arith}
use Rattle.std.specs.List.{filter}
use Rattle.std.proofs.lemmas.Bool.{and_parts}
use Rattle.std.proofs.lemmas.List.{length-map}
use Rattle.std.proofs.lemmas.List.Sums.{length-filter, count_by-le-length}
use Rattle.vcd_core.specs.declared.bit.Bit.{Bit}
use Rattle.vcd_core.specs.declared.wave.Change.{Change}
use Rattle.vcd_core.specs.Value.{all_x, same_letters}
use Rattle.vcd_core.specs.Wave.{change}
use Rattle.vcd_remarks.specs.declared.deglitch_finder.FoundRuns.{FoundRuns}
use Rattle.vcd_remarks.specs.declared.deglitch_finder.PulseRule.{PulseRule}
use Rattle.vcd_remarks.specs.declared.deglitch_finder.Run.{Run}
use Rattle.vcd_remarks.specs.declared.findings.finding_kind.FindingKind.TheVariants as kinds
use Rattle.vcd_remarks.specs.declared.findings.found_spans.FoundSpans.{FoundSpans}
use Rattle.vcd_remarks.specs.declared.findings.found_spans.Span.{Span}
use Rattle.vcd_remarks.specs.EditFindings.{gap, gaps, delayed_edges, kept_runs, deglitch_findings}
use Rattle.vcd_remarks.specs.FoundTicks.{span, found_spans}
use Rattle.vcd_remarks.specs.ValueRuns.{ValueRun, runs_begun, changes_from_zero, ticks_of_run, is_pulse}
use Rattle.vcd_remarks.specs.inside.DeglitchFinder.{value_run, short_span, stretch_before, late_edge}
use Rattle.vcd_remarks.specs.inside.DeglitchFinder.{run_spans, short_spans, long_gaps, late_spans, with_last_kept}
use Rattle.vcd_remarks.specs.inside.DeglitchFinder.{run_findings_left, begins_left}
use Rattle.vcd_remarks.specs.inside.FoundTicks.{with_found, with_spans, finding_of_kind}
use Rattle.vcd_remarks.proofs.findings.TicksInTurn.{spans_in_turn}

-- ---- one span more, if it passes a test

more : (found : FoundSpans) (b : Bool) (s : Span) (ss : List Span)
    → with_spans (with_found found (if b then Some s else None)) ss ≡ with_spans found (cond b (s ∷ ss) ss)
unfolding with_spans
more found true s ss = refl
more found false s ss = refl

-- ---- one run more

module _ (rule : PulseRule) (run : Run) (rs : List ValueRun) where
  abbrev r : ValueRun
  r = value_run run

  short_more : (found : FoundSpans)
      → with_spans (with_found found (short_span rule.ticks r)) (short_spans rule.ticks rs)
      ≡ with_spans found (short_spans rule.ticks (r ∷ rs))
  unfolding with_spans
  short_more found = by_test (nat_lt (ticks_of_run r) rule.ticks) where
    others : List ValueRun
    others = filter (λ q. nat_lt (ticks_of_run q) rule.ticks) rs

    by_test : (b : Bool)
        → with_spans (with_found found (if b then Some (span r.first (ticks_of_run r)) else None)) (run_spans others)
        ≡ with_spans found (run_spans (cond b (r ∷ others) others))
    by_test true = refl
    by_test false = refl

  stretch_more : (found : FoundSpans) (kept : Option Run)
      → with_spans (with_found found (stretch_before rule.ticks kept r)) (long_gaps rule.ticks (r ∷ rs))
      ≡ with_spans found (long_gaps rule.ticks (with_last_kept kept (r ∷ rs)))
  unfolding gaps
  stretch_more found None = refl
  stretch_more found (Some before) = more found _ _ (long_gaps rule.ticks (r ∷ rs))

  late_more : (found : FoundSpans) (kept : Option Run)
      → with_spans (with_found found (late_edge kept r)) (late_spans (r ∷ rs))
      ≡ with_spans found (late_spans (with_last_kept kept (r ∷ rs)))
  unfolding delayed_edges
  late_more found None = refl
  late_more found (Some before) = by_test (same_letters r.value before.begin.value) where
    n : ℕ
    n = gap (value_run before) r

    by_test : (same : Bool)
        → with_spans (with_found found (if not same && nat_lt 0 n then Some (span r.first n) else None))
        (late_spans (r ∷ rs))
        ≡ with_spans found (filter (λ s. nat_lt 0 s.ticks) (span r.first (if same then 0 else n)
        ∷ delayed_edges (r ∷ rs)))
    by_test true = refl
    by_test false = more found (nat_lt 0 n) (span r.first n) (late_spans (r ∷ rs))

module _ (rule : PulseRule) (found : FoundRuns) (run : Run) (rs : List ValueRun) where
  abbrev here : ValueRun
  here = value_run run

  abbrev stay : List ValueRun
  stay = kept_runs rule.ticks rule.end rs

  -- a pulse
  pub pulse_taken : is_pulse rule.ticks rule.end here ≡ true
      → run_findings_left rule (record found { pulses = with_found found.pulses (short_span rule.ticks here) }) rs
      ≡ run_findings_left rule found (here ∷ rs)
  unfolding with_spans
  pulse_taken is =
      let short : nat_lt (ticks_of_run here) rule.ticks ≡ true = (and_parts _ _ is).1 in
      rw (is, short) refl

  -- a run that stays
  pub run_taken : is_pulse rule.ticks rule.end here ≡ false
      → run_findings_left rule (record {
        pulses = found.pulses;
        stretches = with_found found.stretches (stretch_before rule.ticks found.kept here);
        late_edges = with_found found.late_edges (late_edge found.kept here);
        short_runs = with_found found.short_runs (short_span rule.ticks here);
        kept = Some run;
      }) rs ≡ run_findings_left rule found (here ∷ rs)
  run_taken is =
      rw (
        is,
        stretch_more rule run stay found.stretches found.kept,
        late_more rule run stay found.late_edges found.kept,
        short_more rule run stay found.short_runs,
      ) refl

pub ruleset run_steps = (pulse_taken, run_taken)

-- ---- all runs

gaps_few : (rs : List ValueRun) → length (gaps rs) ≤ length rs
unfolding gaps
gaps_few [] = omega arith
gaps_few (r ∷ []) = omega arith
gaps_few (r ∷ q ∷ rs) = omega (arith, gaps_few (q ∷ rs))

edges_few : (rs : List ValueRun) → length (delayed_edges rs) ≤ length rs
unfolding delayed_edges
edges_few [] = omega arith
edges_few (r ∷ []) = omega arith
edges_few (r ∷ q ∷ rs) = omega (arith, edges_few (q ∷ rs))

pub passing_few : {A : Type 0} (p : A → Bool) (xs : List A) → length (filter p xs) ≤ length xs
passing_few p xs = omega (arith, length-filter p xs, count_by-le-length p xs)

spans_few : (p : ValueRun → Bool) (rs : List ValueRun) → length (run_spans (filter p rs)) ≤ length rs
spans_few p rs = omega (arith, passing_few p rs, length-map (filter p rs) (λ r. span r.first (ticks_of_run r)))

runs_few : (end : ℕ) (cs : List Change) → length (runs_begun end cs) ≡ length cs
unfolding runs_begun
runs_few end [] = refl
runs_few end (c ∷ cs) = ap suc (runs_few end cs)

-- nothing is found before the first run
abbrev pub nothing : FoundSpans → FoundRuns
nothing none = record { pulses = none; stretches = none; late_edges = none; short_runs = none; kept = None }

all_runs_found : (rule : PulseRule) (rs : List ValueRun) → length rs < 2 ^ 64
    → run_findings_left rule (nothing (found_spans [])) rs ≡ deglitch_findings rule.ticks rule.end rs
all_runs_found rule rs fits =
    let stay : List ValueRun = kept_runs rule.ticks rule.end rs in
    let few : length stay < 2 ^ 64 = omega (arith, fits, passing_few (λ r. not (is_pulse rule.ticks rule.end r)) rs) in
    let long : length (long_gaps rule.ticks stay) < 2 ^ 64 =
    omega (arith, few, gaps_few stay, passing_few (λ s. nat_le rule.ticks s.ticks) (gaps stay)) in
    let delayed : length (late_spans stay) < 2 ^ 64 =
    omega (arith, few, edges_few stay, passing_few (λ s. nat_lt 0 s.ticks) (delayed_edges stay)) in
    let pulses = spans_in_turn (run_spans (filter (is_pulse rule.ticks rule.end) rs))
    (omega (arith, fits, spans_few (is_pulse rule.ticks rule.end) rs)) in
    let short = spans_in_turn (short_spans rule.ticks stay)
    (omega (arith, few, spans_few (λ r. nat_lt (ticks_of_run r) rule.ticks) stay)) in
    λ i. finding_of_kind kinds.PulsesRemoved (pulses i)
    ∷ finding_of_kind kinds.BrokenStretches (spans_in_turn (long_gaps rule.ticks stay) long i)
    ∷ finding_of_kind kinds.LateEdges (spans_in_turn (late_spans stay) delayed i)
    ∷ finding_of_kind kinds.ShortRunsKept (short i) ∷ []

-- ---- the runs that changes begin

first_begins : (width : ℕ) (cs : List Change) → begins_left false (change 0 (all_x width)) cs
    ≡ changes_from_zero width cs
first_begins width [] = refl
first_begins width (c ∷ cs) = by_test (c.tick == 0) where
  by_test : (b : Bool) → (if not b then change 0 (all_x width) ∷ c ∷ cs else c ∷ cs)
      ≡ (if b then c ∷ cs else change 0 (all_x width) ∷ c ∷ cs)
  by_test true = refl
  by_test false = refl

begins_few : (begin : Change) (cs : List Change) → length (begins_left false begin cs) ≤ length cs + 1
begins_few begin [] = omega arith
begins_few begin (c ∷ cs) = by_test (not (c.tick == 0)) where
  by_test : (b : Bool) → length (if b then begin ∷ c ∷ cs else c ∷ cs) ≤ length (c ∷ cs) + 1
  by_test true = omega arith
  by_test false = omega arith

-- before the first change all runs are left
pub all_changes_found : (rule : PulseRule) (width : ℕ) (cs : List Change) (none : FoundSpans) (x : List Bit)
    → none ≡ found_spans [] → x ≡ all_x width → length cs + 1 < 2 ^ 64
    → run_findings_left rule (nothing none) (runs_begun rule.end (begins_left false (change 0 x) cs))
    ≡ deglitch_findings rule.ticks rule.end (runs_begun rule.end (changes_from_zero width cs))
all_changes_found rule width cs none x is_none is_x fits =
    let begins = begins_left false (change 0 (all_x width)) cs in
    rw (is_none, is_x) (all_runs_found rule (runs_begun rule.end begins)
    (omega (arith, fits, runs_few rule.end begins, begins_few (change 0 (all_x width)) cs))
    ∙ ap (λ l. deglitch_findings rule.ticks rule.end (runs_begun rule.end l)) (first_begins width cs))

-- after it that change begins a run
pub later_begins : (begin : Change) (cs : List Change) → begins_left true begin cs ≡ begin ∷ cs
later_begins begin [] = refl
later_begins begin (c ∷ cs) = refl

-- ---- after the last change

no_gap : (kept : Option Run) → gaps (with_last_kept kept []) ≡ []
unfolding gaps
no_gap None = refl
no_gap (Some before) = refl

no_edge : (kept : Option Run) → delayed_edges (with_last_kept kept []) ≡ []
unfolding delayed_edges
no_edge None = refl
no_edge (Some before) = refl

-- no run is left
pub no_run_left : (rule : PulseRule) (found : FoundRuns) → finding_of_kind kinds.PulsesRemoved found.pulses
    ∷ finding_of_kind kinds.BrokenStretches found.stretches ∷ finding_of_kind kinds.LateEdges found.late_edges
    ∷ finding_of_kind kinds.ShortRunsKept found.short_runs ∷ [] ≡ run_findings_left rule found []
unfolding with_spans
no_run_left rule found = rw (no_gap found.kept, no_edge found.kept) refl
