-- What is found of the lines of a decoder, and may mislead. The project's own.
use Rattle.std.specs.Prelude.{ℕ, ◌≡◌, false, Option, Some, None, List, []}
use Rattle.std.specs.Prelude.{◌∷◌, ◌++◌}
use Rattle.std.specs.List.{flat_map}
use Rattle.std.specs.Option.{option_map}
use Rattle.vcd_core.specs.declared.bit.Bit.{Bit}
use Rattle.vcd_core.specs.declared.bit.Bit.TheVariants.{Zero, One}
use Rattle.vcd_core.specs.Contents.{Contents, SignalContents, signal_at, signal_value}
use Rattle.vcd_core.specs.Sound.{IsSoundSignal}
use Rattle.vcd_core.specs.Value.{letter_at}
use Rattle.vcd_decode.specs.BusEvents.{bus_events}
use Rattle.vcd_decode.specs.SpiSetup.{SpiSetup}
use Rattle.vcd_decode.specs.Uart.{uart_annotations}
use Rattle.vcd_decode.specs.UartSetup.{UartSetup}
use Rattle.vcd_script.specs.declared.script.command.Command.{Command}
use Rattle.vcd_script.specs.declared.script.command.Command.TheVariants as commands
use Rattle.vcd_remarks.specs.declared.findings.finding.Finding.{Finding}
use Rattle.vcd_remarks.specs.declared.findings.finding_kind.FindingKind.TheVariants as kinds
use Rattle.vcd_remarks.specs.declared.spi_line.DataKinds.{DataKinds}
use Rattle.vcd_remarks.specs.declared.spi_line.TheConstants.{MOSI, MISO}
use Rattle.vcd_remarks.specs.BusFindings.{cutting_conditions, stray_bits, open_start}
use Rattle.vcd_remarks.specs.BusFindings.{has_joint_rise}
use Rattle.vcd_remarks.specs.ClockRuns.{short_runs, short_beside}
use Rattle.vcd_remarks.specs.Findings.{finding, finding_text}
use Rattle.vcd_remarks.specs.FoundTicks.{ticks_where}
use Rattle.vcd_remarks.specs.LostLines.{becomes_lost}
use Rattle.vcd_remarks.specs.SpiLine.{is_lost_in_selection, has_no_setup, late_changes}
use Rattle.vcd_remarks.specs.SpiSelection.{has_edge_at_change, unselected_edges}
use Rattle.vcd_remarks.specs.UartEdges.{edges_amid_bits}
use Rattle.vcd_remarks.specs.UartLine.{early_start, frame_ticks, long_runs, long_bit}
use Rattle.vcd_remarks.specs.ValueRuns.{value_runs}
use Rattle.vcd_remarks.specs.declared.lost_lines.Pull.TheVariants.{Floating, Up}

-- a signal is sound, in a capture up to this end, and has one bit
abbrev pub IsSoundLine : (end : ℕ) → SignalContents → Type 0
IsSoundLine end s = IsSoundSignal end s × (s.width ≡ 1)

-- the letter of a signal of one bit at each tick
abbrev pub bit_line : SignalContents → ℕ → Bit
bit_line s t = letter_at (signal_value s t) 0

-- of a line of `uart`
abbrev pub uart_findings : UartSetup → (end : ℕ) → SignalContents → List Finding
uart_findings u end s =
    finding kinds.UartLost (ticks_where (becomes_lost Floating (bit_line s)) end)
    ∷ finding kinds.UartEarlyStart (early_start (frame_ticks u) s.changes)
    ∷ finding kinds.UartLongRuns (long_runs (long_bit u) end (value_runs end s))
    ∷ finding kinds.UartEdgesAmidBits
    (edges_amid_bits u s.changes (uart_annotations (bit_line s) end u)) ∷ []

-- of the CLK of `spi`
abbrev pub clk_findings : (end : ℕ) → SignalContents → List Finding
clk_findings end clk =
    finding kinds.ClkLost (ticks_where (becomes_lost Floating (bit_line clk)) end)
    ∷ finding kinds.ClkShortLow (short_runs Zero end clk)
    ∷ finding kinds.ClkShortHigh (short_runs One end clk) ∷ []

-- of a data line of it
abbrev pub data_findings : DataKinds → SpiSetup → (clk : SignalContents)
    → (cs : Option SignalContents) → (end : ℕ) → SignalContents → List Finding
data_findings names u clk cs end s =
    let clock = bit_line clk in let line = bit_line s in let chip = option_map bit_line cs in
    finding names.lost (ticks_where (is_lost_in_selection u clock line chip) end)
    ∷ finding names.short (short_beside end clk s)
    ∷ finding names.no_setup (ticks_where (has_no_setup u clock line chip) end)
    ∷ finding names.late (late_changes u clock line chip end) ∷ []

-- of its CS
abbrev pub cs_findings : SpiSetup → (clk : SignalContents) → (end : ℕ) → SignalContents
    → List Finding
cs_findings u clk end cs =
    finding kinds.CsLost (ticks_where (becomes_lost Floating (bit_line cs)) end)
    ∷ finding kinds.CsAtEdges (ticks_where (has_edge_at_change u (bit_line clk) (bit_line cs)) end)
    ∷ finding kinds.CsUnselected (unselected_edges u (bit_line clk) (bit_line cs) end) ∷ []

-- of a line that may be absent
abbrev pub findings_if_any : (SignalContents → List Finding) → Option SignalContents → List Finding
findings_if_any findings None = []
findings_if_any findings (Some s) = findings s

-- of the lines of `spi`
abbrev pub spi_findings : SpiSetup → (clk : SignalContents)
    → (mosi miso cs : Option SignalContents) → (end : ℕ) → List Finding
spi_findings u clk mosi miso cs end = clk_findings end clk
    ++ findings_if_any (data_findings MOSI u clk cs end) mosi
    ++ findings_if_any (data_findings MISO u clk cs end) miso
    ++ findings_if_any (cs_findings u clk end) cs

-- of the lines of `i2c`
abbrev pub bus_findings : (end : ℕ) → (scl sda : SignalContents) → List Finding
bus_findings end scl sda =
    let clock = bit_line scl in let line = bit_line sda in let es = bus_events clock line end in
    finding kinds.SclLost (ticks_where (becomes_lost Up clock) end)
    ∷ finding kinds.SdaLost (ticks_where (becomes_lost Up line) end)
    ∷ finding kinds.BusCuts (cutting_conditions false 0 es)
    ∷ finding kinds.BusStray (stray_bits false 0 es)
    ∷ finding kinds.BusUnstopped (open_start [] es)
    ∷ finding kinds.BusJointRises (ticks_where (has_joint_rise clock line) end) ∷ []

-- the remarks on findings
abbrev pub told : List Finding → List (List ℕ)
told fs = flat_map finding_text fs

-- the remarks on the lines of a command that decodes; none on another
abbrev pub decoder_remarks : Contents → Command → List (List ℕ)
decoder_remarks c (commands.Uart k u) = told (uart_findings u c.end (signal_at c k))
decoder_remarks c (commands.Spi clk mosi miso cs u) =
    let at = option_map (signal_at c) in
    told (spi_findings u (signal_at c clk) (at mosi) (at miso) (at cs) c.end)
decoder_remarks c (commands.I2c scl sda) =
    told (bus_findings c.end (signal_at c scl) (signal_at c sda))
decoder_remarks c command = []
