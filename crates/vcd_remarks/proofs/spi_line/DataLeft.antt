-- From the first edge on, what is left to find of a data line is all.
use Rattle.std.proofs.Common.{◌≡◌, ℕ, ◌^◌, ◌<◌, ◌&&◌, nat_lt, Bool, true, false, if◌then◌else◌, Option, Some, None}
use Rattle.std.proofs.Common.{List, [], ◌∷◌, length, refl, ap, ◌∙◌}
use Rattle.std.specs.Option.{option_map, option_map_or}
use Rattle.vcd_core.specs.declared.bit.Bit.{Bit}
use Rattle.vcd_core.specs.declared.bit.Bit.TheVariants.{Zero, One, X, Z}
use Rattle.vcd_core.specs.declared.bit_edges.BitEdge.{BitEdge}
use Rattle.vcd_core.specs.Contents.{SignalContents}
use Rattle.vcd_decode.specs.LineEdges.{line_edge, AreEdgesOf}
use Rattle.vcd_decode.specs.Lines.{letter_before, is_zero}
use Rattle.vcd_decode.specs.Spi.{has_sampling_edge, is_selected}
use Rattle.vcd_decode.specs.SpiSetup.{SpiSetup}
use Rattle.vcd_decode.specs.inside.PartialWord.{line_bit}
use Rattle.vcd_decode.specs.inside.SpiSetup.{is_present_and, shows_sampled_level, shows_waiting_level}
use Rattle.vcd_decode.specs.inside.SpiWords.{selects_chip, is_sampling}
use Rattle.vcd_decode.proofs.shared.EdgeByEdge.{selected_is}
use Rattle.vcd_remarks.specs.declared.line_bits.LineBits.{LineBits}
use Rattle.vcd_remarks.specs.declared.lost_lines.Pull.TheVariants.{Floating}
use Rattle.vcd_remarks.specs.declared.spi_line.DataKinds.{DataKinds}
use Rattle.vcd_remarks.specs.ClockRuns.{short_beside}
use Rattle.vcd_remarks.specs.DecoderFindings.{bit_line, IsSoundLine}
use Rattle.vcd_remarks.specs.FoundTicks.{found_ticks, ticks_where}
use Rattle.vcd_remarks.specs.LostLines.{becomes_lost}
use Rattle.vcd_remarks.specs.SpiLine.{is_lost_in_selection, has_no_setup, goes_after_sample, goes_before_sample}
use Rattle.vcd_remarks.specs.SpiLine.{is_sampled_level, is_waiting_level, goes_straight, late_changes}
use Rattle.vcd_remarks.specs.inside.ClockRuns.{no_runs, changes_of_place, below_left}
use Rattle.vcd_remarks.specs.inside.FoundTicks.{found_left, finding_at}
use Rattle.vcd_remarks.specs.inside.LostLines.{become_lost}
use Rattle.vcd_remarks.specs.inside.SpiLine.{go_straight, shows_lost, shows_straight, shows_no_setup, shows_after}
use Rattle.vcd_remarks.specs.inside.SpiLine.{shows_before, no_data, if_more, data_left}
use Rattle.vcd_remarks.proofs.clock_runs.LevelsFound.{ShowsLine, short_found}
use Rattle.vcd_remarks.proofs.lost_lines.LostEdges.{not_lost_at}
use Rattle.vcd_remarks.proofs.shared.FoundSoFar.{found_at_ticks}
use Rattle.vcd_remarks.proofs.spi_clock.ClockLeft.{clock_shows}

-- the ticks that were found, if there are more than others
if_more_found : (ticks others : List ℕ) → if_more (found_ticks ticks) (found_ticks others)
    ≡ found_ticks (if nat_lt (length others) (length ticks) then ticks else [])
if_more_found ticks others = by_test (nat_lt (length others) (length ticks))
  where
    by_test : (b : Bool) → (if b then found_ticks ticks else found_ticks []) ≡ found_ticks (if b then ticks else [])
    by_test true = refl
    by_test false = refl

and_none : (b : Bool) → (b && false) ≡ false
and_none true = refl
and_none false = refl

-- a letter that stays
never_straight : (b : Option Bit) → go_straight b b ≡ false
never_straight None = refl
never_straight (Some Zero) = refl
never_straight (Some One) = refl
never_straight (Some X) = refl
never_straight (Some Z) = refl

not_straight_at : (place : ℕ) (e : BitEdge) → e.at ≡ e.before → shows_straight place e ≡ false
not_straight_at place e same = ap (λ bits. go_straight (line_bit e.before place) (line_bit bits place)) same
    ∙ never_straight (line_bit e.before place)

-- a chip select that is there and 0
zero_is : (t : ℕ) (cs : Option (ℕ → Bit)) → is_present_and is_zero (option_map (λ f. f t) cs)
    ≡ option_map_or (λ f. is_zero (f t)) cs false
zero_is t None = refl
zero_is t (Some cs) = refl

module _ (u : SpiSetup) (clk s : SignalContents) (mosi miso cs : Option (ℕ → Bit)) (end : ℕ) (edges : List BitEdge)
    (fits : end < 2 ^ 64) (place : ℕ)
    (are : AreEdgesOf (Some (bit_line clk) ∷ mosi ∷ miso ∷ cs ∷ []) end edges)
    (shows : ShowsLine (Some (bit_line clk) ∷ mosi ∷ miso ∷ cs ∷ []) end place s) where
  abbrev lines : List (Option (ℕ → Bit))
  lines = Some (bit_line clk) ∷ mosi ∷ miso ∷ cs ∷ []

  abbrev line : ℕ → Bit
  line = bit_line s

  lost : found_left (shows_lost place) (found_ticks []) edges
      ≡ found_ticks (ticks_where (is_lost_in_selection u (bit_line clk) line cs) end)
  lost = found_at_ticks lines end edges are (shows_lost place) (is_lost_in_selection u (bit_line clk) line cs)
      (λ t. ap (λ (l : LineBits). is_present_and is_zero (option_map (λ f. f t) cs)
      && become_lost Floating l.before l.at) (shows.around t)
      ∙ ap (λ b. b && becomes_lost Floating line t) (zero_is t cs))
      (λ e same. ap (λ b. is_present_and is_zero (line_bit e.at 3) && b) (not_lost_at Floating place e same)
      ∙ and_none (is_present_and is_zero (line_bit e.at 3)))
      (and_none (option_map_or (λ f. is_zero (f 0)) cs false)) fits

  no_setup : found_left (λ e. shows_no_setup u (shows_straight place e) e) (found_ticks []) edges
      ≡ found_ticks (ticks_where (has_no_setup u (bit_line clk) line cs) end)
  no_setup = found_at_ticks lines end edges are (λ e. shows_no_setup u (shows_straight place e) e)
      (has_no_setup u (bit_line clk) line cs)
      (λ t. ap (λ (l : LineBits). shows_no_setup u (go_straight l.before l.at) (line_edge lines t)) (shows.around t)
      ∙ ap (λ b. b && has_sampling_edge u.mode (bit_line clk) t && goes_straight line t) (selected_is cs t))
      (λ e same. ap (λ b. is_sampling u e && b) (not_straight_at place e same) ∙ and_none (is_sampling u e))
      (and_none (is_selected cs 0 && has_sampling_edge u.mode (bit_line clk) 0)) fits

  after : found_left (λ e. shows_after u (shows_straight place e) e) (found_ticks []) edges
      ≡ found_ticks (ticks_where (goes_after_sample u (bit_line clk) line cs) end)
  after = found_at_ticks lines end edges are (λ e. shows_after u (shows_straight place e) e)
      (goes_after_sample u (bit_line clk) line cs)
      (λ t. ap (λ (l : LineBits). shows_after u (go_straight l.before l.at) (line_edge lines t)) (shows.around t)
      ∙ ap (λ b. b && is_sampled_level u.mode (letter_before (bit_line clk) t)
      && is_sampled_level u.mode (bit_line clk t) && goes_straight line t) (selected_is cs t))
      (λ e same. ap (λ b. shows_after u b e) (not_straight_at place e same)
      ∙ and_none (selects_chip (line_bit e.at 3) && shows_sampled_level u.mode (line_bit e.before 0)
      && shows_sampled_level u.mode (line_bit e.at 0)))
      (and_none (is_selected cs 0 && is_sampled_level u.mode (letter_before (bit_line clk) 0)
      && is_sampled_level u.mode (bit_line clk 0))) fits

  before : found_left (λ e. shows_before u (shows_straight place e) e) (found_ticks []) edges
      ≡ found_ticks (ticks_where (goes_before_sample u (bit_line clk) line cs) end)
  before = found_at_ticks lines end edges are (λ e. shows_before u (shows_straight place e) e)
      (goes_before_sample u (bit_line clk) line cs)
      (λ t. ap (λ (l : LineBits). shows_before u (go_straight l.before l.at) (line_edge lines t)) (shows.around t)
      ∙ ap (λ b. b && is_waiting_level u.mode (bit_line clk t) && goes_straight line t) (selected_is cs t))
      (λ e same. ap (λ b. shows_before u b e) (not_straight_at place e same)
      ∙ and_none (selects_chip (line_bit e.at 3) && shows_waiting_level u.mode (line_bit e.at 0)))
      (and_none (is_selected cs 0 && is_waiting_level u.mode (bit_line clk 0))) fits

  late : if_more (found_left (λ e. shows_after u (shows_straight place e) e) (found_ticks []) edges)
      (found_left (λ e. shows_before u (shows_straight place e) e) (found_ticks []) edges)
      ≡ found_ticks (late_changes u (bit_line clk) line cs end)
  late = (λ i. if_more (after i) (before i))
      ∙ if_more_found (ticks_where (goes_after_sample u (bit_line clk) line cs) end)
      (ticks_where (goes_before_sample u (bit_line clk) line cs) end)

  pub line_found : IsSoundLine end clk → (names : DataKinds)
      → data_left names u place (below_left (no_runs None) (changes_of_place 0 edges)) no_data edges
      ≡ finding_at names.lost (found_ticks (ticks_where (is_lost_in_selection u (bit_line clk) line cs) end))
      ∷ finding_at names.short (found_ticks (short_beside end clk s))
      ∷ finding_at names.no_setup (found_ticks (ticks_where (has_no_setup u (bit_line clk) line cs) end))
      ∷ finding_at names.late (found_ticks (late_changes u (bit_line clk) line cs end)) ∷ []
  line_found sound names =
      let short = short_found lines end edges are fits None 0 place clk s
      (clock_shows end clk (mosi ∷ miso ∷ cs ∷ []) sound) shows in
      λ i. finding_at names.lost (lost i) ∷ finding_at names.short (short i)
      ∷ finding_at names.no_setup (no_setup i) ∷ finding_at names.late (late i) ∷ []
