-- What is found of a data line of a serial peripheral interface. The project's own.
use Rattle.std.specs.Prelude.{◌≡◌, List, [], length, nat_lt, ℕ, ◌==◌, ◌&&◌, ◌||◌, Bool, false}
use Rattle.std.specs.Prelude.{Option, if◌then◌else◌}
use Rattle.std.specs.List.{flat_map}
use Rattle.std.specs.Option.{option_map_or}
use Rattle.vcd_core.specs.declared.bit.Bit.{Bit}
use Rattle.vcd_decode.specs.Lines.{letter_before, is_zero, is_one}
use Rattle.vcd_decode.specs.Spi.{has_sampling_edge, is_selected, segments}
use Rattle.vcd_decode.specs.SpiSetup.{SpiSetup}
use Rattle.vcd_remarks.specs.FoundTicks.{ticks_where}
use Rattle.vcd_remarks.specs.LostLines.{becomes_lost}
use Rattle.vcd_remarks.specs.declared.lost_lines.Pull.TheVariants.{Floating}

-- whether a line goes straight from 0 to 1 or from 1 to 0 at a tick
abbrev pub goes_straight : (line : ℕ → Bit) → ℕ → Bool
goes_straight line t = (is_zero (letter_before line t) && is_one (line t))
    || (is_one (letter_before line t) && is_zero (line t))

-- whether a letter of the clock is the one to which the mode's sampling edge goes
abbrev pub is_sampled_level : (mode : ℕ) → Bit → Bool
is_sampled_level mode clk = if mode == 0 || mode == 3 then is_one clk else is_zero clk

-- whether it is the other one
abbrev pub is_waiting_level : (mode : ℕ) → Bit → Bool
is_waiting_level mode clk = if mode == 0 || mode == 3 then is_zero clk else is_one clk

-- at a tick of a bus while its chip is selected
module _ (u : SpiSetup) (clk line : ℕ → Bit) (cs : Option (ℕ → Bit)) (t : ℕ) where
  -- a line becomes x or z; without a chip select that may be between two words
  abbrev pub is_lost_in_selection : Bool
  is_lost_in_selection = option_map_or (λ f. is_zero (f t)) cs false && becomes_lost Floating line t

  -- it is sampled as it goes straight to its new value: setup 0
  abbrev pub has_no_setup : Bool
  has_no_setup = is_selected cs t && has_sampling_edge u.mode clk t && goes_straight line t

  -- it does so after a sample, at the level to which the sampling edge goes
  abbrev pub goes_after_sample : Bool
  goes_after_sample = is_selected cs t && is_sampled_level u.mode (letter_before clk t)
      && is_sampled_level u.mode (clk t) && goes_straight line t

  -- it does so before a sample, at the other level
  abbrev pub goes_before_sample : Bool
  goes_before_sample = is_selected cs t && is_waiting_level u.mode (clk t) && goes_straight line t

-- the ticks at which a line goes straight to a new value after a sample, if more do than before one
abbrev pub late_changes : SpiSetup → (clk line : ℕ → Bit) → (cs : Option (ℕ → Bit)) → (end : ℕ)
    → List ℕ
late_changes u clk line cs end =
    let after = ticks_where (goes_after_sample u clk line cs) end in
    if nat_lt (length (ticks_where (goes_before_sample u clk line cs) end)) (length after)
    then after else []

-- ---- the law

-- the ticks at which a selected chip's clock has a sampling edge are those that words are made of:
-- of each part between the ticks at which it is not selected, one after the other
abbrev pub SpiSamplesAreOfWords : Type 0
SpiSamplesAreOfWords =
    (u : SpiSetup) (clk : ℕ → Bit) (cs : Option (ℕ → Bit)) (end : ℕ)
    → flat_map (λ ticks. ticks) (segments u clk cs end)
    ≡ ticks_where (λ t. is_selected cs t && has_sampling_edge u.mode clk t) end
