-- What is left to find of a chip select: from the first edge on it is all, and after an edge the rest.
use Rattle.std.proofs.Common.{◌≡◌, ℕ, ◌^◌, ◌<◌, ◌&&◌, ◌||◌, Bool, true, false, not, if◌then◌else◌, Option, Some}
use Rattle.std.proofs.Common.{List, [], ◌∷◌, refl, ap, ◌∙◌}
use Rattle.vcd_core.specs.declared.bit.Bit.{Bit}
use Rattle.vcd_core.specs.declared.bit_edges.BitEdge.{BitEdge}
use Rattle.vcd_core.specs.Contents.{SignalContents}
use Rattle.vcd_decode.specs.LineEdges.{line_edge, AreEdgesOf}
use Rattle.vcd_decode.specs.Lines.{letter_before, is_zero, is_one}
use Rattle.vcd_decode.specs.Spi.{has_sampling_edge}
use Rattle.vcd_decode.specs.SpiSetup.{SpiSetup}
use Rattle.vcd_decode.specs.inside.PartialWord.{line_bit}
use Rattle.vcd_decode.specs.inside.SpiParts.{samples_rising_edge}
use Rattle.vcd_decode.specs.inside.SpiSetup.{samples_at}
use Rattle.vcd_decode.specs.inside.SpiWords.{selects_chip}
use Rattle.vcd_decode.proofs.shared.EdgeByEdge.{never_sampled}
use Rattle.vcd_remarks.specs.declared.findings.finding_kind.FindingKind.TheVariants as kinds
use Rattle.vcd_remarks.specs.declared.lost_lines.Pull.TheVariants.{Floating}
use Rattle.vcd_remarks.specs.declared.spi_selection.SelectionFinder.{SelectionFinder}
use Rattle.vcd_remarks.specs.DecoderFindings.{bit_line, cs_findings}
use Rattle.vcd_remarks.specs.FoundTicks.{found_ticks, ticks_where}
use Rattle.vcd_remarks.specs.LostLines.{becomes_lost}
use Rattle.vcd_remarks.specs.SpiSelection.{has_edge_inside, has_edge_outside}
use Rattle.vcd_remarks.specs.inside.FoundTicks.{found_left, finding_at}
use Rattle.vcd_remarks.specs.inside.LostLines.{loses_line_at}
use Rattle.vcd_remarks.specs.inside.SpiSelection.{samples, samples_at_change, samples_inside, samples_outside}
use Rattle.vcd_remarks.specs.inside.SpiSelection.{no_selection, with_edge, unless_any, cs_left}
use Rattle.vcd_remarks.proofs.lost_lines.LostEdges.{not_lost_at}
use Rattle.vcd_remarks.proofs.shared.FoundSoFar.{found_at_ticks, edge_found, unless_any_found}

-- at tick 0 is no sampling edge
no_first_edge : (mode : ℕ) (clk : ℕ → Bit) → has_sampling_edge mode clk 0 ≡ false
no_first_edge mode clk = no_edge (samples_rising_edge mode)
  where
    no_edge : (rise : Bool) → (if rise then false && is_one (clk 0) else false && is_zero (clk 0)) ≡ false
    no_edge true = refl
    no_edge false = refl

-- ---- all edges

module _ (u : SpiSetup) (clk cs : SignalContents) (mosi miso : Option (ℕ → Bit)) (end : ℕ) (edges : List BitEdge)
    (fits : end < 2 ^ 64)
    (are : AreEdgesOf (Some (bit_line clk) ∷ mosi ∷ miso ∷ Some (bit_line cs) ∷ []) end edges) where
  abbrev lines : List (Option (ℕ → Bit))
  lines = Some (bit_line clk) ∷ mosi ∷ miso ∷ Some (bit_line cs) ∷ []

  -- a test of sampling edges
  sampled : (test : BitEdge → Bool) (p : ℕ → Bool)
      → ((t : ℕ) → (samples u (line_edge lines t) && test (line_edge lines t))
      ≡ (has_sampling_edge u.mode (bit_line clk) t && p t))
      → found_left (λ e. samples u e && test e) (found_ticks []) edges
      ≡ found_ticks (ticks_where (λ t. has_sampling_edge u.mode (bit_line clk) t && p t) end)
  sampled test p same = found_at_ticks lines end edges are (λ e. samples u e && test e)
      (λ t. has_sampling_edge u.mode (bit_line clk) t && p t) same
      (λ e still. ap (λ bits. samples_at u.mode (line_bit e.before 0) (line_bit bits 0) && test e) still
      ∙ ap (λ b. b && test e) (never_sampled u.mode (line_bit e.before 0)))
      (ap (λ b. b && p 0) (no_first_edge u.mode (bit_line clk))) fits

  abbrev changes_on : BitEdge → Bool
  changes_on e = (selects_chip (line_bit e.before 3) && not (selects_chip (line_bit e.at 3)))
      || (not (selects_chip (line_bit e.before 3)) && selects_chip (line_bit e.at 3))

  abbrev changes_at : ℕ → Bool
  changes_at t = (is_zero (letter_before (bit_line cs) t) && not (is_zero (bit_line cs t)))
      || (not (is_zero (letter_before (bit_line cs) t)) && is_zero (bit_line cs t))

  pub selection_found : cs_left u no_selection edges ≡ cs_findings u clk end cs
  selection_found =
      let lost = found_at_ticks lines end edges are (loses_line_at Floating 3) (becomes_lost Floating (bit_line cs))
      (λ t. refl) (not_lost_at Floating 3) refl fits in
      let at_change = sampled changes_on changes_at (λ t. refl) in
      let inside = sampled (λ e. selects_chip (line_bit e.at 3)) (λ t. is_zero (bit_line cs t)) (λ t. refl) in
      let outside = sampled (λ e. not (selects_chip (line_bit e.at 3))) (λ t. not (is_zero (bit_line cs t)))
      (λ t. refl) in
      let unselected = (λ i. unless_any (outside i) (inside i))
      ∙ unless_any_found (ticks_where (has_edge_inside u (bit_line clk) (bit_line cs)) end)
      (ticks_where (has_edge_outside u (bit_line clk) (bit_line cs)) end) in
      λ i. finding_at kinds.CsLost (lost i) ∷ finding_at kinds.CsAtEdges (at_change i)
      ∷ finding_at kinds.CsUnselected (unselected i) ∷ []

-- ---- one more edge

pub selection_taken : (u : SpiSetup) (f : SelectionFinder) (e : BitEdge) (more : List BitEdge)
    → cs_left u (with_edge u f e) more ≡ cs_left u f (e ∷ more)
selection_taken u f e more =
    let lost = edge_found (loses_line_at Floating 3) f.lost e more in
    let at_change = edge_found (samples_at_change u) f.at_change e more in
    let inside = edge_found (samples_inside u) f.inside e more in
    let outside = edge_found (samples_outside u) f.outside e more in
    λ i. finding_at kinds.CsLost (lost i) ∷ finding_at kinds.CsAtEdges (at_change i)
    ∷ finding_at kinds.CsUnselected (unless_any (outside i) (inside i)) ∷ []
