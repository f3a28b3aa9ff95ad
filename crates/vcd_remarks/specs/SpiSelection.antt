-- What is found of the chip select of a serial peripheral interface. The project's own.
use Rattle.std.specs.Prelude.{ℕ, ◌==◌, ◌&&◌, ◌||◌, Bool, not, if◌then◌else◌, List, [], length}
use Rattle.vcd_core.specs.declared.bit.Bit.{Bit}
use Rattle.vcd_decode.specs.Lines.{letter_before, is_zero}
use Rattle.vcd_decode.specs.Spi.{has_sampling_edge}
use Rattle.vcd_decode.specs.SpiSetup.{SpiSetup}
use Rattle.vcd_remarks.specs.FoundTicks.{ticks_where}

-- of the chip select and the clock
module _ (u : SpiSetup) (clk cs : ℕ → Bit) where
  -- whether the chip select goes to or from 0 at a sampling edge
  abbrev pub has_edge_at_change : ℕ → Bool
  has_edge_at_change t = has_sampling_edge u.mode clk t
      && ((is_zero (letter_before cs t) && not (is_zero (cs t)))
      || (not (is_zero (letter_before cs t)) && is_zero (cs t)))

  -- whether a sampling edge comes while the chip select is 0
  abbrev pub has_edge_inside : ℕ → Bool
  has_edge_inside t = has_sampling_edge u.mode clk t && is_zero (cs t)

  -- whether one comes while it is not
  abbrev pub has_edge_outside : ℕ → Bool
  has_edge_outside t = has_sampling_edge u.mode clk t && not (is_zero (cs t))

  -- the sampling edges, if the chip select is 0 at none of them
  abbrev pub unselected_edges : (end : ℕ) → List ℕ
  unselected_edges end =
      if length (ticks_where has_edge_inside end) == 0 then ticks_where has_edge_outside end else []
