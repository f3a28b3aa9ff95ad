-- What is left to find of a UART line after one more edge.
use Rattle.std.proofs.Common.{◌≡◌, ℕ, ◌-◌, ◌==◌, ◌&&◌, ◌||◌, nat_lt, Bool, true, false, if◌then◌else◌}
use Rattle.std.proofs.Common.{Option, Some, None}
use Rattle.std.proofs.Common.{List, [], ◌∷◌, ◌++◌, map, refl, sym}
use Rattle.std.specs.List.{cons_option}
use Rattle.std.specs.Option.{option_map}
use Rattle.vcd_core.specs.declared.bit.Bit.{Bit}
use Rattle.vcd_core.specs.declared.bit_edges.BitEdge.{BitEdge}
use Rattle.vcd_core.specs.declared.wave.Change.{Change}
use Rattle.vcd_core.specs.Wave.{change}
use Rattle.vcd_decode.specs.Lines.{is_zero, is_one}
use Rattle.vcd_decode.specs.inside.UartFrames.{last_frame}
use Rattle.vcd_remarks.specs.declared.findings.finding_kind.FindingKind.TheVariants as kinds
use Rattle.vcd_remarks.specs.declared.findings.found_ticks.FoundTicks.{FoundTicks}
use Rattle.vcd_remarks.specs.declared.lost_lines.Pull.TheVariants.{Floating}
use Rattle.vcd_remarks.specs.declared.uart_finder.changes_found.ChangesFound.{ChangesFound}
use Rattle.vcd_remarks.specs.declared.uart_finder.changes_found.FirstFall.{FirstFall}
use Rattle.vcd_remarks.specs.declared.uart_finder.changes_found.FirstFall.TheVariants.{NoChange, Level, Over}
use Rattle.vcd_remarks.specs.UartLine.{early_fall}
use Rattle.vcd_remarks.specs.inside.ClockRuns.{changes_of_place}
use Rattle.vcd_remarks.specs.inside.FoundTicks.{with_tick, with_ticks, finding_at}
use Rattle.vcd_remarks.specs.inside.LostLines.{loses_line_at}
use Rattle.vcd_remarks.specs.inside.UartFinder.{changed_letter, fall_sought, falls_early, early_left}
use Rattle.vcd_remarks.specs.inside.UartFinder.{is_short_run, with_run, short_starts, runs_left, unless_short}
use Rattle.vcd_remarks.specs.inside.UartFinder.{with_change_if, early_found, long_found, amid_left, UartSearch}
use Rattle.vcd_remarks.specs.inside.UartFinder.{search_after, uart_findings_left, with_amid}
use Rattle.vcd_remarks.proofs.shared.FoundSoFar.{edge_found}

-- ---- the first fall

early_with : (ticks : ℕ) (sought : FirstFall) (found : FoundTicks) (t : ℕ) (b : Bit) (cs : List Change)
    → with_ticks (if falls_early ticks sought t b then with_tick found t else found)
    (early_left ticks (fall_sought sought t b) cs)
    ≡ with_ticks found (early_left ticks sought (change t (b ∷ []) ∷ cs))
unfolding early_fall with_ticks
early_with ticks NoChange found t b cs = by_test (t == 0 && (is_zero b || is_one b))
  where
    by_test : (p : Bool) → with_ticks found (early_left ticks (if p then Level 0 b else Over) cs)
        ≡ with_ticks found (if p then early_fall ticks 0 b cs else [])
    by_test true = refl
    by_test false = refl
early_with ticks (Level from before) found t b cs =
    by_tests (is_one before) (is_zero b) (nat_lt (t - from) ticks)
  where
    by_tests : (p q r : Bool) → with_ticks (if p && q && r then with_tick found t else found)
        (early_left ticks (if p && q then Over else Level t b) cs)
        ≡ with_ticks found (if p && q then (if r then t ∷ [] else []) else early_fall ticks t b cs)
    by_tests true true true = refl
    by_tests true true false = refl
    by_tests true false r = refl
    by_tests false q r = refl
early_with ticks Over found t b cs = refl

-- ---- short runs

run_with : (ticks end : ℕ) (since : Option ℕ) (found : FoundTicks) (t : ℕ) (b : Bit) (cs : List Change)
    → runs_left ticks end (Some t) (with_run ticks end since t found) cs
    ≡ runs_left ticks end since found (change t (b ∷ []) ∷ cs)
unfolding short_starts with_ticks
run_with ticks end None found t b cs = refl
run_with ticks end (Some s) found t b cs = by_test (is_short_run ticks end s t)
  where
    rest : List ℕ
    rest = short_starts ticks end (t ∷ map (λ c. c.tick) cs)

    by_test : (p : Bool) → with_ticks (if p then with_tick found s else found) rest
        ≡ with_ticks found ((if p then s ∷ [] else []) ++ rest)
    by_test true = refl
    by_test false = refl

-- ---- a change

module _ (f : ChangesFound) (t : ℕ) (cs : List Change) where
  abbrev with_letter : Option Bit → List Change
  with_letter o = cons_option (option_map (λ b. change t (b ∷ [])) o) cs

  early_taken : (o : Option Bit) → early_found (with_change_if f t o) cs ≡ early_found f (with_letter o)
  early_taken None = refl
  early_taken (Some b) = early_with f.frame_ticks f.first_fall f.early t b cs

  long_taken : (o : Option Bit) → long_found (with_change_if f t o) cs ≡ long_found f (with_letter o)
  long_taken None = refl
  long_taken (Some b) =
      let short = run_with f.long_bit f.end f.since f.short t b cs in
      let inner = run_with f.end f.end f.since f.inner t b cs in
      λ i. unless_short (short i) (inner i)

-- ---- an edge

module _ (f : UartSearch) (e : BitEdge) (more : List BitEdge) where
  pub edge_taken : uart_findings_left (search_after f e) more ≡ uart_findings_left f (e ∷ more)
  unfolding amid_left
  edge_taken =
      let lost = edge_found (loses_line_at Floating 0) f.lost e more in
      let early = early_taken f.changes e.tick (changes_of_place 0 more) (changed_letter e) in
      let long = long_taken f.changes e.tick (changes_of_place 0 more) (changed_letter e) in
      λ i. finding_at kinds.UartLost (lost i) ∷ finding_at kinds.UartEarlyStart (early i)
      ∷ finding_at kinds.UartLongRuns (long i)
      ∷ finding_at kinds.UartEdgesAmidBits (amid_left f.setup f.decoder f.held f.amid_bits (e ∷ more)) ∷ []

-- ---- no edge is left

early_end : (f : ChangesFound) (sought : FirstFall) → sought ≡ f.first_fall → f.early ≡ early_found f []
unfolding early_fall with_ticks
early_end f NoChange is = rw (sym is) refl
early_end f (Level from before) is = rw (sym is) refl
early_end f Over is = rw (sym is) refl

run_end : (ticks end : ℕ) (since : Option ℕ) (found : FoundTicks) → found ≡ runs_left ticks end since found []
unfolding short_starts with_ticks
run_end ticks end None found = refl
run_end ticks end (Some s) found = refl

-- what is found then
pub all_taken : (f : UartSearch) → finding_at kinds.UartLost f.lost ∷ finding_at kinds.UartEarlyStart f.changes.early
    ∷ finding_at kinds.UartLongRuns (unless_short f.changes.short f.changes.inner)
    ∷ finding_at kinds.UartEdgesAmidBits (with_amid f.setup f.amid_bits f.held (last_frame f.decoder)) ∷ []
    ≡ uart_findings_left f []
unfolding amid_left with_ticks
all_taken f =
    let c : ChangesFound = f.changes in
    let early = early_end c c.first_fall refl in
    let short = run_end c.long_bit c.end c.since c.short in
    let inner = run_end c.end c.end c.since c.inner in
    λ i. finding_at kinds.UartLost f.lost ∷ finding_at kinds.UartEarlyStart (early i)
    ∷ finding_at kinds.UartLongRuns (unless_short (short i) (inner i))
    ∷ finding_at kinds.UartEdgesAmidBits (with_amid f.setup f.amid_bits f.held (last_frame f.decoder)) ∷ []
