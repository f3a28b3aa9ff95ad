-- From the first edge on, the runs of a level that are noted are those of the line's signal.
use Rattle.std.proofs.Common.{◌≡◌, ℕ, ◌^◌, ◌<◌, ◌≤◌, nat_lt, Option, List, [], ◌∷◌, length, sym, ap, ◌∙◌, arith}
use Rattle.std.specs.List.{filter}
use Rattle.std.proofs.lemmas.List.{length-map}
use Rattle.std.proofs.lemmas.List.Sums.{length-filter, count_by-le-length}
use Rattle.vcd_core.specs.declared.bit.Bit.{Bit}
use Rattle.vcd_core.specs.declared.bit.Bit.TheVariants.{X}
use Rattle.vcd_core.specs.declared.bit_edges.BitEdge.{BitEdge}
use Rattle.vcd_core.specs.Contents.{SignalContents}
use Rattle.vcd_core.specs.Value.{all_x}
use Rattle.vcd_core.specs.Wave.{change}
use Rattle.vcd_decode.specs.LineEdges.{line_edge, AreEdgesOf}
use Rattle.vcd_remarks.specs.declared.findings.found_ticks.FoundTicks.{FoundTicks}
use Rattle.vcd_remarks.specs.ClockRuns.{level_runs, short_among}
use Rattle.vcd_remarks.specs.DecoderFindings.{bit_line, IsSoundLine}
use Rattle.vcd_remarks.specs.FoundTicks.{found_ticks}
use Rattle.vcd_remarks.specs.ValueRuns.{ValueRun, value_runs, ticks_of_run}
use Rattle.vcd_remarks.specs.inside.ClockRuns.{is_noted, ended_runs, below, no_runs, changes_of_place, below_left}
use Rattle.vcd_remarks.specs.inside.ClockRuns.{short_noted}
use Rattle.vcd_remarks.specs.inside.FoundTicks.{with_ticks}
use Rattle.vcd_remarks.specs.inside.LineBits.{line_bits}
use Rattle.vcd_remarks.proofs.clock_runs.CountedBits.{none_noted}
use Rattle.vcd_remarks.proofs.clock_runs.EdgeChanges.{bits_around, place_changes}
use Rattle.vcd_remarks.proofs.clock_runs.EndedRuns.{all_ended, few_ended}
use Rattle.vcd_remarks.proofs.clock_runs.NotedRuns.{all_below}
use Rattle.vcd_remarks.proofs.clock_runs.ShortRuns.{short_is}
use Rattle.vcd_remarks.proofs.findings.TicksInTurn.{found_so_far}

below_few : (k : ℕ) (rs : List ValueRun) → length (below k rs) ≤ length rs
unfolding below
below_few k rs = omega (
  arith,
  length-map (filter (λ r. nat_lt (ticks_of_run r) (2 ^ k)) rs) (λ r. r.first),
  length-filter (λ r. nat_lt (ticks_of_run r) (2 ^ k)) rs,
  count_by-le-length (λ r. nat_lt (ticks_of_run r) (2 ^ k)) rs,
)

-- a line at a place shows the letters of a sound signal
pub record ShowsLine (lines : List (Option (ℕ → Bit))) (end : ℕ) (place : ℕ) (s : SignalContents) : Type 0 where
  pub sound : IsSoundLine end s
  pub around : (t : ℕ) → line_bits place (line_edge lines t) ≡ bits_around (bit_line s) t

module _ (lines : List (Option (ℕ → Bit))) (end : ℕ) (edges : List BitEdge) (are : AreEdgesOf lines end edges)
    (fits : end < 2 ^ 64) (level : Option Bit) where
  module _ (place : ℕ) (s : SignalContents) (shows : ShowsLine lines end place s) where
    runs_are : filter (is_noted level) (ended_runs (change 0 (X ∷ [])) (changes_of_place place edges))
        ≡ level_runs level end s
    runs_are =
        ap (λ cs. filter (is_noted level) (ended_runs (change 0 (X ∷ [])) cs))
        (place_changes lines end edges are place s shows.sound shows.around)
        ∙ ap (λ width. filter (is_noted level) (ended_runs (change 0 (all_x width)) s.changes)) (sym shows.sound.1)
        ∙ all_ended level end s.width s.changes shows.sound.0.wave.rise shows.sound.0.ticks

    runs_few : length (level_runs level end s) ≤ end
    runs_few = omega (
      arith,
      ap length (all_ended level end s.width s.changes shows.sound.0.wave.rise shows.sound.0.ticks),
      few_ended level end s.width s.changes shows.sound.0.wave.rise shows.sound.0.ticks,
    )

    level_found : (k : ℕ) → k < 65
        → below_left (no_runs level) (changes_of_place place edges) k ≡ found_ticks (below k (level_runs level end s))
    level_found k less =
        ap (λ (f : FoundTicks). with_ticks f (below k (filter (is_noted level)
        (ended_runs (change 0 (X ∷ [])) (changes_of_place place edges)))))
        (none_noted k less)
        ∙ ap (λ rs. with_ticks (found_ticks []) (below k rs)) runs_are
        ∙ found_so_far [] (below k (level_runs level end s))
        (omega (arith, fits, runs_few, below_few k (level_runs level end s)))

    level_all : length (level_runs level end s)
        ≡ (below_left (no_runs level) (changes_of_place place edges) 64).count
    level_all = all_below level end (value_runs end s) fits
        ∙ sym (ap (λ (f : FoundTicks). f.count) (level_found 64 (omega arith)))

  -- the short ones of one line beside those of another
  pub short_found : (usual_place place : ℕ) (usual s : SignalContents) → ShowsLine lines end usual_place usual
      → ShowsLine lines end place s
      → short_noted (below_left (no_runs level) (changes_of_place usual_place edges))
      (below_left (no_runs level) (changes_of_place place edges))
      ≡ found_ticks (short_among (level_runs level end usual) (level_runs level end s))
  short_found usual_place place usual s usual_shows shows =
      short_is (level_runs level end usual) _ (level_found usual_place usual usual_shows)
      (level_all usual_place usual usual_shows) (level_runs level end s) _ (level_found place s shows)
