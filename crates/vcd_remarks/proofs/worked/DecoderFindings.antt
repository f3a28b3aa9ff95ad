-- Worked cases: what is found of the lines of decoders.
use Rattle.std.proofs.Common.{◌≡◌, refl}
use Rattle.std.specs.Prelude.{ℕ, false, Some, None, List, [], ◌∷◌, ◌++◌, map, codes}
use Rattle.std.specs.List.{range_with_len}
use Rattle.vcd_core.specs.declared.bit.Bit.{Bit}
use Rattle.vcd_core.specs.declared.bit.Bit.TheVariants.{Zero, One, X, Z}
use Rattle.vcd_core.specs.declared.wave.Change.{Change}
use Rattle.vcd_core.specs.Contents.{SignalContents}
use Rattle.vcd_core.specs.Wave.{value_from}
use Rattle.vcd_decode.specs.declared.annotation.Kind.TheVariants.{FrameError}
use Rattle.vcd_decode.specs.declared.i2c_bus.events.BusEvent.{BusEvent}
use Rattle.vcd_decode.specs.declared.i2c_bus.events.BusEvent.TheVariants as events
use Rattle.vcd_decode.specs.declared.spi_setup.BitOrder.TheVariants.{Msb}
use Rattle.vcd_decode.specs.declared.uart_setup.Parity.TheVariants as parities
use Rattle.vcd_decode.specs.Lines.{annotation}
use Rattle.vcd_decode.specs.SpiSetup.{SpiSetup, spi_setup}
use Rattle.vcd_decode.specs.UartSetup.{uart_setup}
use Rattle.vcd_edit.proofs.worked.Records.{from, wire}
use Rattle.vcd_remarks.specs.BusFindings.{cutting_conditions, stray_bits, open_start, has_joint_rise}
use Rattle.vcd_remarks.specs.ClockRuns.{count_below, short_among, short_runs, short_beside}
use Rattle.vcd_remarks.specs.DecoderFindings.{bit_line}
use Rattle.vcd_remarks.specs.FoundTicks.{ticks_where}
use Rattle.vcd_remarks.specs.LostLines.{becomes_lost}
use Rattle.vcd_remarks.specs.SpiLine.{is_lost_in_selection, has_no_setup, late_changes}
use Rattle.vcd_remarks.specs.SpiSelection.{has_edge_at_change, unselected_edges}
use Rattle.vcd_remarks.specs.UartEdges.{edges_amid_bits}
use Rattle.vcd_remarks.specs.UartLine.{early_start, early_fall, long_runs}
use Rattle.vcd_remarks.specs.ValueRuns.{runs_begun, value_runs}
use Rattle.vcd_remarks.specs.declared.lost_lines.Pull.TheVariants.{Floating, Up}

abbrev signal : List Change → SignalContents
signal changes = wire (codes "a") changes

abbrev line : List Change → ℕ → Bit
line changes = bit_line (signal changes)

-- ---- a line of uart

-- idle for nine ticks before its first fall, which is fewer than ten; later falls do not count
falls_early : early_start 10 (from 0 One ∷ from 9 Zero ∷ []) ++ early_start 9 (from 0 One ∷ from 9 Zero ∷ [])
    ++ early_start 10 (from 0 Zero ∷ from 5 One ∷ from 15 Zero ∷ from 16 One ∷ from 17 Zero ∷ []) ≡ 9 ∷ []
unfolding early_fall
falls_early = refl

-- it is x at tick 0, or has no change there
begins_later : early_start 10 (from 0 X ∷ from 3 One ∷ from 5 Zero ∷ [])
    ++ early_start 10 (from 3 One ∷ from 5 Zero ∷ []) ≡ []
unfolding early_fall
begins_later = refl

-- the run of 15 ticks from 10 on, between those at tick 0 and at the end
all_long : long_runs 15 40 (value_runs 40 (signal (from 0 One ∷ from 10 Zero ∷ from 25 One ∷ []))) ≡ 10 ∷ []
unfolding runs_begun
all_long = refl

one_short : long_runs 16 40 (value_runs 40 (signal (from 0 One ∷ from 10 Zero ∷ from 25 One ∷ []))) ≡ []
unfolding runs_begun
one_short = refl

-- in a frame from 10 to 52 with bits of four ticks: neither at the end of a bit or a quarter of a bit beside it, nor at
-- the frame's last tick
amid_bits : edges_amid_bits (uart_setup 4 1 8 parities.None 1) (from 8 Zero ∷ from 10 One ∷ from 12 Zero ∷ from 13 One
    ∷ from 15 Zero ∷ from 18 One ∷ from 52 Zero ∷ from 56 One ∷ []) (annotation 10 52 FrameError ∷ []) ≡ 12 ∷ []
unfolding edges_amid_bits
amid_bits = refl

-- ---- short runs

-- three pulses of four ticks and one of one: three in four have fewer than eight
abbrev clock : SignalContents
clock = signal (from 0 Zero ∷ from 2 One ∷ from 6 Zero ∷ from 8 One ∷ from 12 Zero ∷ from 14 One ∷ from 18 Zero
    ∷ from 20 One ∷ from 21 Zero ∷ [])

short_pulse : short_runs One 30 clock ≡ 20 ∷ []
unfolding runs_begun count_below short_among
short_pulse = refl

-- those of two ticks have a quarter of eight, and the last one is at the end
no_short_gap : short_runs Zero 30 clock ≡ []
unfolding runs_begun count_below short_among
no_short_gap = refl

-- one in four has four ticks, which are not more than one in four
mostly_short : short_runs One 30 (signal (from 0 Zero ∷ from 2 One ∷ from 6 Zero ∷ from 8 One ∷ from 9 Zero
    ∷ from 10 One ∷ from 11 Zero ∷ from 12 One ∷ from 13 Zero ∷ [])) ≡ []
unfolding runs_begun count_below short_among
mostly_short = refl

-- of 0 or 1, but not of z
short_data : short_beside 30 clock (signal (from 0 Zero ∷ from 10 One ∷ from 11 Zero ∷ from 20 Z ∷ from 21 Zero
    ∷ from 24 One ∷ from 27 Zero ∷ from 28 One ∷ [])) ≡ 10 ∷ 27 ∷ []
unfolding runs_begun count_below short_among
short_data = refl

-- ---- the lines of spi

-- a clock that rises at 5 and 15, and falls at 10 and 20
abbrev rises : ℕ → Bit
rises = line (from 0 Zero ∷ from 5 One ∷ from 10 Zero ∷ from 15 One ∷ from 20 Zero ∷ [])

abbrev mode : ℕ → SpiSetup
mode n = spi_setup n 8 Msb

abbrev early_chip : ℕ → Bit
early_chip = line (from 0 Zero ∷ from 15 One ∷ [])

-- a line that changes at both edges, and through x as the clock rises again
abbrev restless : ℕ → Bit
restless = line (from 0 Zero ∷ from 5 One ∷ from 10 Zero ∷ from 14 X ∷ from 15 One ∷ [])

sampled_at_changes : ticks_where (has_no_setup (mode 0) rises restless None) 30
    ++ ticks_where (has_no_setup (mode 1) rises restless (Some early_chip)) 30 ≡ 5 ∷ 10 ∷ []
unfolding value_from
sampled_at_changes = refl

not_selected : ticks_where (has_no_setup (mode 3) rises restless (Some (line (from 0 One ∷ from 7 Zero ∷ [])))) 30 ≡ []
unfolding value_from
not_selected = refl

-- two changes while the clock is 1, one while it is 0; and one each
mostly_late : late_changes (mode 0) rises (line (from 0 Zero ∷ from 6 One ∷ from 8 Zero ∷ from 12 One ∷ [])) None 30
    ++ late_changes (mode 0) rises (line (from 0 Zero ∷ from 8 One ∷ from 12 Zero ∷ [])) None 30 ≡ 6 ∷ 8 ∷ []
unfolding value_from
mostly_late = refl

-- at the tick at which the chip select is 0
lost_while_selected : ticks_where (is_lost_in_selection (mode 0) rises restless (Some early_chip)) 30
    ++ ticks_where (is_lost_in_selection (mode 0) rises restless None) 30 ≡ 14 ∷ []
unfolding value_from
lost_while_selected = refl

-- the chip select falls as the clock rises, and rises as it falls
edges_at_changes : ticks_where (has_edge_at_change (mode 0) rises (line (from 0 One ∷ from 5 Zero ∷ from 10 One ∷ [])))
    30 ++ ticks_where (has_edge_at_change (mode 2) rises (line (from 0 One ∷ from 5 Zero ∷ from 10 One ∷ []))) 30
    ≡ 5 ∷ 10 ∷ []
unfolding value_from
edges_at_changes = refl

never_selected : unselected_edges (mode 0) rises (line (from 0 One ∷ from 7 Zero ∷ from 13 One ∷ [])) 30
    ++ unselected_edges (mode 0) rises early_chip 30 ≡ 5 ∷ 15 ∷ []
unfolding value_from
never_selected = refl

-- x at tick 0 is no loss, nor is x after z; z after 0 is one, unless it stands for 1
lost : ticks_where (becomes_lost Floating (line (from 3 One ∷ from 5 Z ∷ from 6 X ∷ from 8 Zero ∷ from 9 X ∷ []))) 12
    ++ ticks_where (becomes_lost Up (line (from 3 One ∷ from 5 Z ∷ from 6 X ∷ from 8 Zero ∷ from 9 Z ∷ []))) 12
    ≡ 5 ∷ 9 ∷ 6 ∷ []
unfolding value_from
lost = refl

-- ---- the lines of i2c

abbrev bit : ℕ → BusEvent
bit t = events.Bit (record { tick = t; level = One })

abbrev bits : ℕ → List BusEvent
bits n = map bit (range_with_len 2 n)

-- a stop comes right after the ninth bit, with one rise before it, or right after the start
stops_in_place : cutting_conditions false 0 (events.Start 1 ∷ bits 10 ++ events.Start 20 ∷ bits 1
    ++ events.Stop 30 ∷ bits 3 ++ events.Start 40 ∷ []) ≡ []
unfolding cutting_conditions
stops_in_place = refl

cut_off : cutting_conditions false 0 (events.Start 1 ∷ bits 9 ++ events.Start 20 ∷ bits 2 ++ events.Stop 30 ∷ [])
    ≡ 20 ∷ 30 ∷ []
unfolding cutting_conditions
cut_off = refl

-- the first bit, and the first after a stop, are none
stray : stray_bits false 0 (bit 1 ∷ bit 2 ∷ events.Start 3 ∷ bit 4 ∷ bit 5 ∷ events.Stop 6 ∷ bit 7 ∷ bit 8 ∷ [])
    ≡ 2 ∷ 8 ∷ []
unfolding stray_bits
stray = refl

unstopped : open_start [] (events.Start 1 ∷ bit 2 ∷ events.Start 3 ∷ bit 4 ∷ [])
    ++ open_start [] (events.Start 1 ∷ events.Stop 2 ∷ bit 3 ∷ []) ≡ 3 ∷ []
unfolding open_start
unstopped = refl

-- SDA falls as SCL rises, rises as it falls, rises as it rises to z, and falls where it stays
joint_rises : ticks_where (has_joint_rise (line (from 0 Zero ∷ from 5 One ∷ from 10 Zero ∷ from 15 Z ∷ []))
    (line (from 0 One ∷ from 5 Zero ∷ from 10 Z ∷ from 12 Zero ∷ from 15 One ∷ from 18 Zero ∷ []))) 20 ≡ 5 ∷ 15 ∷ []
unfolding value_from
joint_rises = refl
