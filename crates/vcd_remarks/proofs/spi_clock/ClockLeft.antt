-- From the first edge on, what is left to find of a clock is all.
use Rattle.std.proofs.Common.{◌≡◌, ℕ, ◌^◌, ◌<◌, Option, Some, List, [], ◌∷◌, refl}
use Rattle.vcd_core.specs.declared.bit.Bit.{Bit}
use Rattle.vcd_core.specs.declared.bit.Bit.TheVariants.{Zero, One}
use Rattle.vcd_core.specs.declared.bit_edges.BitEdge.{BitEdge}
use Rattle.vcd_core.specs.Contents.{SignalContents}
use Rattle.vcd_decode.specs.LineEdges.{AreEdgesOf}
use Rattle.vcd_remarks.specs.declared.findings.finding_kind.FindingKind.TheVariants as kinds
use Rattle.vcd_remarks.specs.declared.lost_lines.Pull.TheVariants.{Floating}
use Rattle.vcd_remarks.specs.DecoderFindings.{bit_line, clk_findings, IsSoundLine}
use Rattle.vcd_remarks.specs.LostLines.{becomes_lost}
use Rattle.vcd_remarks.specs.inside.FoundTicks.{finding_at}
use Rattle.vcd_remarks.specs.inside.LostLines.{loses_line_at}
use Rattle.vcd_remarks.specs.inside.SpiClock.{no_clock, clk_left}
use Rattle.vcd_remarks.proofs.clock_runs.LevelsFound.{ShowsLine, short_found}
use Rattle.vcd_remarks.proofs.lost_lines.LostEdges.{not_lost_at}
use Rattle.vcd_remarks.proofs.shared.FoundSoFar.{found_at_ticks}

-- the clock is the first line
pub clock_shows : (end : ℕ) (s : SignalContents) (others : List (Option (ℕ → Bit))) → IsSoundLine end s
    → ShowsLine (Some (bit_line s) ∷ others) end 0 s
clock_shows end s others sound = record { sound = sound; around = λ t. refl }

module _ (s : SignalContents) (others : List (Option (ℕ → Bit))) (end : ℕ) (edges : List BitEdge) (fits : end < 2 ^ 64)
    (sound : IsSoundLine end s) (are : AreEdgesOf (Some (bit_line s) ∷ others) end edges) where
  pub clock_found : clk_left no_clock edges ≡ clk_findings end s
  clock_found =
      let lines : List (Option (ℕ → Bit)) = Some (bit_line s) ∷ others in
      let shows = clock_shows end s others sound in
      let lost = found_at_ticks lines end edges are (loses_line_at Floating 0) (becomes_lost Floating (bit_line s))
      (λ t. refl) (not_lost_at Floating 0) refl fits in
      let low = short_found lines end edges are fits (Some Zero) 0 0 s s shows shows in
      let high = short_found lines end edges are fits (Some One) 0 0 s s shows shows in
      λ i. finding_at kinds.ClkLost (lost i) ∷ finding_at kinds.ClkShortLow (low i)
      ∷ finding_at kinds.ClkShortHigh (high i) ∷ []
