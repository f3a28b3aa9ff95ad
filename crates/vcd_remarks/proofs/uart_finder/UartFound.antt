-- What is left to find of a UART line, of all its edges: what is found of its signal.
use Rattle.std.proofs.Common.{◌≡◌, ℕ, zero, suc, ◌+◌, ◌-◌, ◌^◌, ◌<◌, ◌≤◌, ◌==◌, ◌&&◌, nat_lt, Bool, true, false}
use Rattle.std.proofs.Common.{if◌then◌else◌}
use Rattle.std.proofs.Common.{◌||◌, Some, None, inl, inr, List, [], ◌∷◌, ◌++◌, map, length, refl, sym, ap, ◌∙◌, arith}
use Rattle.std.specs.List.{filter, list_any, range_with_len}
use Rattle.std.proofs.lemmas.Bool.{le-ltb, cases_Bool}
use Rattle.std.proofs.lemmas.List.{length-append}
use Rattle.std.proofs.lemmas.List.FromFn.{length-range_with_len}
use Rattle.std.proofs.lemmas.List.Sums.{count_by-le-length, length-filter}
use Rattle.vcd_core.specs.declared.bit.Bit.{Bit}
use Rattle.vcd_core.specs.declared.bit_edges.BitEdge.{BitEdge}
use Rattle.vcd_core.specs.declared.wave.Change.{Change}
use Rattle.vcd_core.specs.Contents.{SignalContents}
use Rattle.vcd_core.specs.Sound.{IsSoundSignal}
use Rattle.vcd_core.specs.Value.{letter_at}
use Rattle.vcd_decode.specs.declared.annotation.Annotation.{Annotation}
use Rattle.vcd_decode.specs.LineEdges.{AreEdgesOf}
use Rattle.vcd_decode.specs.Lines.{is_zero, is_one}
use Rattle.vcd_decode.specs.Uart.{uart_annotations}
use Rattle.vcd_decode.specs.UartSetup.{UartSetup}
use Rattle.vcd_remarks.specs.declared.findings.finding_kind.FindingKind.TheVariants as kinds
use Rattle.vcd_remarks.specs.declared.lost_lines.Pull.TheVariants.{Floating}
use Rattle.vcd_remarks.specs.DecoderFindings.{bit_line, uart_findings}
use Rattle.vcd_remarks.specs.FoundTicks.{found_ticks}
use Rattle.vcd_remarks.specs.LostLines.{becomes_lost}
use Rattle.vcd_remarks.specs.UartEdges.{edges_amid_bits, is_amid_bit_of}
use Rattle.vcd_remarks.specs.UartLine.{early_start, early_fall, runs_under, long_runs, frame_ticks, long_bit}
use Rattle.vcd_remarks.specs.ValueRuns.{ValueRun, run_begun, runs_begun, is_pulse, value_runs}
use Rattle.vcd_remarks.specs.inside.ClockRuns.{changes_of_place}
use Rattle.vcd_remarks.specs.inside.FoundTicks.{with_ticks, finding_at}
use Rattle.vcd_remarks.specs.inside.LostLines.{loses_line_at}
use Rattle.vcd_remarks.specs.inside.UartFinder.{first_search, uart_findings_left, early_found, long_found, no_changes}
use Rattle.vcd_remarks.specs.inside.UartFinder.{amid_left, short_starts, unless_short, is_short_run}
use Rattle.vcd_decode.specs.inside.UartFrames.{first_state}
use Rattle.vcd_decode.specs.AmidBit.{is_amid_bit}
use Rattle.vcd_remarks.proofs.findings.TicksInTurn.{found_so_far}
use Rattle.vcd_remarks.proofs.lost_lines.LostEdges.{not_lost_at}
use Rattle.vcd_remarks.proofs.remarks.FindingsOfSignals.{under_of}
use Rattle.vcd_remarks.proofs.shared.FoundSoFar.{found_at_ticks, unless_any_found}
use Rattle.vcd_remarks.proofs.uart_finder.AmidByEdges.{ticks_amid, amid_are}
use Rattle.vcd_remarks.proofs.uart_finder.LineChanges.{is_change, changes_are, ticks_are, few_changes}

-- ---- the first fall

early_few : (ticks from : ℕ) (before : Bit) (cs : List Change) → length (early_fall ticks from before cs) ≤ 1
unfolding early_fall
early_few ticks from before [] = omega arith
early_few ticks from before (c ∷ cs) =
    by_tests (early_few ticks c.tick (letter_at c.value 0) cs) (is_one before && is_zero (letter_at c.value 0))
    (nat_lt (c.tick - from) ticks)
  where
    by_tests : length (early_fall ticks c.tick (letter_at c.value 0) cs) ≤ 1 → (p q : Bool)
        → length (if p then (if q then c.tick ∷ [] else [])
        else early_fall ticks c.tick (letter_at c.value 0) cs) ≤ 1
    by_tests later true true = omega arith
    by_tests later true false = omega arith
    by_tests later false q = later

start_few : (ticks : ℕ) (cs : List Change) → length (early_start ticks cs) ≤ 1
start_few ticks [] = omega arith
start_few ticks (c ∷ cs) = by_test (c.tick == 0 && (is_zero (letter_at c.value 0) || is_one (letter_at c.value 0)))
  where
    later : length (early_fall ticks 0 (letter_at c.value 0) cs) ≤ 1
    later = early_few ticks 0 (letter_at c.value 0) cs

    by_test : (p : Bool) → length (if p then early_fall ticks 0 (letter_at c.value 0) cs else []) ≤ 1
    by_test true = later
    by_test false = omega arith

-- ---- short runs

-- a run in front
one_run : (ticks end : ℕ) (r : ValueRun) (rs : List ValueRun) (b : Bool) → is_pulse ticks end r ≡ b
    → runs_under ticks end (r ∷ rs) ≡ (if b then r.first ∷ [] else []) ++ runs_under ticks end rs
one_run ticks end r rs b is =
    ap (λ (q : Bool). map (λ (p : ValueRun). p.first) (if q then r ∷ filter (is_pulse ticks end) rs
    else filter (is_pulse ticks end) rs)) is ∙ by_test b
  where
    by_test : (q : Bool) → map (λ (p : ValueRun). p.first) (if q then r ∷ filter (is_pulse ticks end) rs
        else filter (is_pulse ticks end) rs)
        ≡ (if q then r.first ∷ [] else []) ++ runs_under ticks end rs
    by_test true = refl
    by_test false = refl

never_within : (p q : Bool) → (p && false && q) ≡ false
never_within true q = refl
never_within false q = refl

starts_are : (ticks end : ℕ) (cs : List Change)
    → short_starts ticks end (map (λ c. c.tick) cs) ≡ runs_under ticks end (runs_begun end cs)
unfolding short_starts runs_begun
starts_are ticks end [] = refl
starts_are ticks end (c ∷ []) =
    let last : is_pulse ticks end (run_begun end c []) ≡ false =
    ap (λ b. nat_lt 0 c.tick && b && nat_lt (end - c.tick + 1) ticks) (le-ltb end end (omega arith))
    ∙ never_within (nat_lt 0 c.tick) (nat_lt (end - c.tick + 1) ticks) in
    sym (one_run ticks end (run_begun end c []) [] false last)
starts_are ticks end (c ∷ d ∷ cs) =
    let r : ValueRun = run_begun end c (d ∷ cs) in
    let rest : List ValueRun = runs_begun end (d ∷ cs) in
    ap (λ ts. (if is_pulse ticks end r then c.tick ∷ [] else []) ++ ts) (starts_are ticks end (d ∷ cs))
    ∙ sym (one_run ticks end r rest (is_pulse ticks end r) refl)

at_most_one : (b : Bool) (t : ℕ) → length (if b then t ∷ [] else []) ≤ 1
at_most_one true t = omega arith
at_most_one false t = omega arith

-- the last run is none of them
starts_few : (ticks end n : ℕ) (ts : List ℕ) → length ts ≤ suc n → length (short_starts ticks end ts) ≤ n
unfolding short_starts
starts_few ticks end n [] le = omega arith
starts_few ticks end n (t ∷ []) le = omega arith
starts_few ticks end zero (t ∷ next ∷ ts) le = absurd (omega (arith, le))
starts_few ticks end (suc n) (t ∷ next ∷ ts) le = omega (
  arith,
  starts_few ticks end n (next ∷ ts) (omega (arith, le)),
  at_most_one (is_short_run ticks end t next) t,
  length-append (if is_short_run ticks end t next then t ∷ [] else []) (short_starts ticks end (next ∷ ts)),
)

-- ---- edges amid bits

amid_ticks : (u : UartSetup) (fs : List Annotation) (cs : List Change)
    → ticks_amid u fs (map (λ c. c.tick) cs) ≡ edges_amid_bits u cs fs
unfolding edges_amid_bits
amid_ticks u fs [] = refl
amid_ticks u fs (c ∷ cs) =
    let rest : List ℕ = ticks_amid u fs (map (λ (d : Change). d.tick) cs) in
    by_test (list_any (is_amid_bit_of u c.tick) fs) rest
    ∙ ap (λ ts. (if list_any (is_amid_bit_of u c.tick) fs then c.tick ∷ [] else []) ++ ts) (amid_ticks u fs cs)
  where
    by_test : (b : Bool) (ts : List ℕ) → (if b then c.tick ∷ ts else ts) ≡ (if b then c.tick ∷ [] else []) ++ ts
    by_test true ts = refl
    by_test false ts = refl

-- none is at tick 0
none_at_zero : (u : UartSetup) (fs : List Annotation) → list_any (is_amid_bit_of u 0) fs ≡ false
none_at_zero u [] = refl
none_at_zero u (a ∷ fs) = ap (λ b. b || list_any (is_amid_bit_of u 0) fs)
    (ap (λ b. b && nat_lt 0 a.end && is_amid_bit u (0 - a.start)) (le-ltb a.start 0 (omega arith)))
    ∙ none_at_zero u fs

amid_few : (u : UartSetup) (fs : List Annotation) (p : ℕ → Bool) (end : ℕ)
    → length (ticks_amid u fs (filter p (range_with_len 0 (suc end)))) ≤ end
amid_few u fs p end =
    let rest : List ℕ = filter p (range_with_len 1 end) in
    let test : ℕ → Bool = λ t. list_any (is_amid_bit_of u t) fs in
    let few : length (filter test rest) ≤ end = omega (
      arith,
      length-filter test rest,
      count_by-le-length test rest,
      length-filter p (range_with_len 1 end),
      count_by-le-length p (range_with_len 1 end),
      length-range_with_len 1 end,
    ) in
    elim (cases_Bool (p 0)) [
      | inl at ↦ rw at (rw (none_at_zero u fs) few)
      | inr none ↦ rw none few
    ]

-- ---- all

module _ (u : UartSetup) (end : ℕ) (s : SignalContents) (edges : List BitEdge) (fits : end < 2 ^ 64)
    (sound : IsSoundSignal end s) (one : s.width ≡ 1)
    (are : AreEdgesOf (Some (bit_line s) ∷ None ∷ None ∷ None ∷ []) end edges) where
  early_is : early_found (no_changes u end) (changes_of_place 0 edges)
      ≡ found_ticks (early_start (frame_ticks u) s.changes)
  early_is = ap (early_found (no_changes u end)) (changes_are end s edges sound one are)
      ∙ found_so_far [] (early_start (frame_ticks u) s.changes)
      (omega (arith, start_few (frame_ticks u) s.changes))

  runs_are : (ticks : ℕ) → with_ticks (found_ticks []) (short_starts ticks end (map (λ c. c.tick) s.changes))
      ≡ found_ticks (runs_under ticks end (value_runs end s))
  runs_are ticks =
      found_so_far [] (short_starts ticks end (map (λ c. c.tick) s.changes))
      (omega (
        arith,
        fits,
        starts_few ticks end end (map (λ c. c.tick) s.changes)
            (few_changes end s edges sound one are),
      ))
      ∙ ap found_ticks (starts_are ticks end s.changes ∙ under_of ticks end s.width s.changes)

  long_is : long_found (no_changes u end) (changes_of_place 0 edges)
      ≡ found_ticks (long_runs (long_bit u) end (value_runs end s))
  long_is = ap (long_found (no_changes u end)) (changes_are end s edges sound one are)
      ∙ (λ i. unless_short (runs_are (long_bit u) i) (runs_are end i))
      ∙ unless_any_found (runs_under (long_bit u) end (value_runs end s)) (runs_under end end (value_runs end s))

  amid_found : amid_left u (first_state end u) [] (found_ticks []) edges
      ≡ found_ticks (edges_amid_bits u s.changes (uart_annotations (bit_line s) end u))
  amid_found =
      let fs : List Annotation = uart_annotations (bit_line s) end u in
      let ticks : List ℕ = filter (is_change (bit_line s)) (range_with_len 0 (suc end)) in
      amid_are u end (bit_line s) edges (found_ticks []) are
      ∙ found_so_far [] (ticks_amid u fs ticks) (omega (arith, fits, amid_few u fs (is_change (bit_line s)) end))
      ∙ ap found_ticks (ap (ticks_amid u fs) (sym (ticks_are end s edges sound one are)) ∙ amid_ticks u fs s.changes)

  pub all_found : uart_findings_left (first_search end u) edges ≡ uart_findings u end s
  all_found =
      let lost = found_at_ticks (Some (bit_line s) ∷ None ∷ None ∷ None ∷ []) end edges are (loses_line_at Floating 0)
      (becomes_lost Floating (bit_line s)) (λ t. refl) (not_lost_at Floating 0) refl fits in
      λ i. finding_at kinds.UartLost (lost i) ∷ finding_at kinds.UartEarlyStart (early_is i)
      ∷ finding_at kinds.UartLongRuns (long_is i) ∷ finding_at kinds.UartEdgesAmidBits (amid_found i) ∷ []
