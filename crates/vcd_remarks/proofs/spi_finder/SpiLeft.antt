-- From the first edge on, what is left to find of the lines of `spi` is all.
use Rattle.std.proofs.Common.{◌≡◌, ℕ, ◌^◌, ◌<◌, Bool, if◌then◌else◌, Option, Some, None, List, [], ◌∷◌}
use Rattle.std.proofs.Common.{◌++◌, refl, sym, ap, subst, ◌∙◌}
use Rattle.std.specs.Prelude.{IfSome, is_some}
use Rattle.std.specs.Option.{option_map}
use Rattle.vcd_core.specs.declared.bit_edges.BitEdge.{BitEdge}
use Rattle.vcd_core.specs.Contents.{SignalContents}
use Rattle.vcd_decode.specs.LineEdges.{AreEdgesOf}
use Rattle.vcd_decode.specs.SpiSetup.{SpiSetup}
use Rattle.vcd_remarks.specs.declared.findings.found_ticks.FoundTicks.{FoundTicks}
use Rattle.vcd_remarks.specs.declared.spi_finder.PresentLines.{PresentLines}
use Rattle.vcd_remarks.specs.declared.spi_line.TheConstants.{MOSI, MISO}
use Rattle.vcd_remarks.specs.DecoderFindings.{bit_line, IsSoundLine, findings_if_any, data_findings, cs_findings}
use Rattle.vcd_remarks.specs.DecoderFindings.{spi_findings}
use Rattle.vcd_remarks.specs.inside.ClockRuns.{no_runs, changes_of_place, below_left}
use Rattle.vcd_remarks.specs.inside.SpiFinder.{no_edges, spi_findings_left}
use Rattle.vcd_remarks.specs.inside.SpiLine.{no_data, data_left}
use Rattle.vcd_remarks.specs.inside.SpiSelection.{no_selection, cs_left}
use Rattle.vcd_remarks.proofs.spi_clock.ClockLeft.{clock_found}
use Rattle.vcd_remarks.proofs.spi_line.DataLeft.{line_found}
use Rattle.vcd_remarks.proofs.spi_selection.SelectionLeft.{selection_found}

module _ (u : SpiSetup) (clk : SignalContents) (mosi miso cs : Option SignalContents) (end : ℕ) (edges : List BitEdge)
    (fits : end < 2 ^ 64) (sound : IsSoundLine end clk)
    (are : AreEdgesOf (Some (bit_line clk) ∷ option_map bit_line mosi ∷ option_map bit_line miso
    ∷ option_map bit_line cs ∷ []) end edges) where
  abbrev clk_runs : ℕ → FoundTicks
  clk_runs = below_left (no_runs None) (changes_of_place 0 edges)

  mosi_found : (line : Option SignalContents) → mosi ≡ line → IfSome line (IsSoundLine end)
      → (if is_some line then data_left MOSI u 1 clk_runs no_data edges else [])
      ≡ findings_if_any (data_findings MOSI u clk cs end) line
  mosi_found None is tt = refl
  mosi_found (Some s) is line_sound =
      line_found u clk s (Some (bit_line s)) (option_map bit_line miso) (option_map bit_line cs) end edges fits 1
      (subst (λ l. AreEdgesOf (Some (bit_line clk) ∷ option_map bit_line l ∷ option_map bit_line miso
      ∷ option_map bit_line cs ∷ []) end edges) is are)
      (record { sound = line_sound; around = λ t. refl }) sound MOSI

  miso_found : (line : Option SignalContents) → miso ≡ line → IfSome line (IsSoundLine end)
      → (if is_some line then data_left MISO u 2 clk_runs no_data edges else [])
      ≡ findings_if_any (data_findings MISO u clk cs end) line
  miso_found None is tt = refl
  miso_found (Some s) is line_sound =
      line_found u clk s (option_map bit_line mosi) (Some (bit_line s)) (option_map bit_line cs) end edges fits 2
      (subst (λ l. AreEdgesOf (Some (bit_line clk) ∷ option_map bit_line mosi ∷ option_map bit_line l
      ∷ option_map bit_line cs ∷ []) end edges) is are)
      (record { sound = line_sound; around = λ t. refl }) sound MISO

  cs_found : (line : Option SignalContents) → cs ≡ line
      → (if is_some line then cs_left u no_selection edges else []) ≡ findings_if_any (cs_findings u clk end) line
  cs_found None is = refl
  cs_found (Some s) is =
      selection_found u clk s (option_map bit_line mosi) (option_map bit_line miso) end edges fits
      (subst (λ l. AreEdgesOf (Some (bit_line clk) ∷ option_map bit_line mosi ∷ option_map bit_line miso
      ∷ option_map bit_line l ∷ []) end edges) is are)

  pub spi_found : (present : PresentLines) → is_some mosi ≡ present.mosi → is_some miso ≡ present.miso
      → is_some cs ≡ present.cs → IfSome mosi (IsSoundLine end) → IfSome miso (IsSoundLine end)
      → spi_findings_left (no_edges u present) edges ≡ spi_findings u clk mosi miso cs end
  spi_found present has_mosi has_miso has_cs mosi_sound miso_sound =
      let clock = clock_found clk (option_map bit_line mosi ∷ option_map bit_line miso ∷ option_map bit_line cs ∷ [])
      end edges fits sound are in
      let out = ap (λ (b : Bool). if b then data_left MOSI u 1 clk_runs no_data edges else []) (sym has_mosi)
      ∙ mosi_found mosi refl mosi_sound in
      let back = ap (λ (b : Bool). if b then data_left MISO u 2 clk_runs no_data edges else []) (sym has_miso)
      ∙ miso_found miso refl miso_sound in
      let chip = ap (λ (b : Bool). if b then cs_left u no_selection edges else []) (sym has_cs) ∙ cs_found cs refl in
      λ i. clock i ++ out i ++ back i ++ chip i
