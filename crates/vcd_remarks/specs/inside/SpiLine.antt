-- What is found of a data line at edges that come one at a time: it stands at a place among four.
use Rattle.std.specs.Prelude.{ℕ, ◌&&◌, ◌||◌, nat_lt, Bool, if◌then◌else◌, Option, None, List, []}
use Rattle.std.specs.Prelude.{◌∷◌}
use Rattle.vcd_core.specs.declared.bit.Bit.{Bit}
use Rattle.vcd_core.specs.declared.bit_edges.BitEdge.{BitEdge}
use Rattle.vcd_decode.specs.SpiSetup.{SpiSetup}
use Rattle.vcd_decode.specs.Lines.{is_zero, is_one}
use Rattle.vcd_decode.specs.inside.PartialWord.{line_bit}
use Rattle.vcd_decode.specs.inside.SpiSetup.{is_present_and}
use Rattle.vcd_decode.specs.inside.SpiSetup.{shows_sampled_level, shows_waiting_level}
use Rattle.vcd_decode.specs.inside.SpiWords.{selects_chip, is_sampling}
use Rattle.vcd_remarks.specs.declared.findings.finding.Finding.{Finding}
use Rattle.vcd_remarks.specs.declared.findings.found_ticks.FoundTicks.{FoundTicks}
use Rattle.vcd_remarks.specs.declared.line_bits.LineBits.{LineBits}
use Rattle.vcd_remarks.specs.declared.lost_lines.Pull.TheVariants.{Floating}
use Rattle.vcd_remarks.specs.declared.spi_line.DataFinder.{DataFinder}
use Rattle.vcd_remarks.specs.declared.spi_line.DataKinds.{DataKinds}
use Rattle.vcd_remarks.specs.FoundTicks.{found_ticks}
use Rattle.vcd_remarks.specs.inside.ClockRuns.{no_runs, changes_of_place, below_left, short_noted}
use Rattle.vcd_remarks.specs.inside.FoundTicks.{found_left, finding_at}
use Rattle.vcd_remarks.specs.inside.LineBits.{line_bits}
use Rattle.vcd_remarks.specs.inside.LostLines.{become_lost}

-- whether bits go straight from 0 to 1 or from 1 to 0
abbrev pub go_straight : (before at : Option Bit) → Bool
go_straight before at = (is_present_and is_zero before && is_present_and is_one at)
    || (is_present_and is_one before && is_present_and is_zero at)

-- ---- the tests of an edge

-- whether bits of the line become x or z while the chip select is there and 0
abbrev pub are_lost : LineBits → BitEdge → Bool
are_lost l e =
    is_present_and is_zero (line_bit e.at 3) && become_lost Floating l.before l.at

abbrev pub shows_lost : (place : ℕ) → BitEdge → Bool
shows_lost place e = are_lost (line_bits place e) e

abbrev pub shows_straight : (place : ℕ) → BitEdge → Bool
shows_straight place e = go_straight (line_bit e.before place) (line_bit e.at place)

-- of a line that goes straight there, or does not
abbrev pub shows_no_setup : SpiSetup → (straight : Bool) → BitEdge → Bool
shows_no_setup u straight e = is_sampling u e && straight

abbrev pub shows_after : SpiSetup → (straight : Bool) → BitEdge → Bool
shows_after u straight e = selects_chip (line_bit e.at 3)
    && shows_sampled_level u.mode (line_bit e.before 0)
    && shows_sampled_level u.mode (line_bit e.at 0) && straight

abbrev pub shows_before : SpiSetup → (straight : Bool) → BitEdge → Bool
shows_before u straight e = selects_chip (line_bit e.at 3)
    && shows_waiting_level u.mode (line_bit e.at 0) && straight

-- ---- what is found

-- before the first edge
abbrev pub no_data : DataFinder
no_data = record {
  lost = found_ticks [];
  no_setup = found_ticks [];
  after = found_ticks [];
  before = found_ticks [];
  runs = no_runs None;
}

-- the ticks that were found, if there are more than others
abbrev pub if_more : (found others : FoundTicks) → FoundTicks
if_more found others = if nat_lt others.count found.count then found else found_ticks []

-- what will have been found of the line at a place after the edges to come, beside the runs of the
-- clock below each power of two
abbrev pub data_left : DataKinds → SpiSetup → (place : ℕ) → (clk : ℕ → FoundTicks) → DataFinder
    → List BitEdge → List Finding
data_left names u place clk f es =
    finding_at names.lost (found_left (shows_lost place) f.lost es)
    ∷ finding_at names.short (short_noted clk (below_left f.runs (changes_of_place place es)))
    ∷ finding_at names.no_setup
    (found_left (λ e. shows_no_setup u (shows_straight place e) e) f.no_setup es)
    ∷ finding_at names.late
    (if_more (found_left (λ e. shows_after u (shows_straight place e) e) f.after es)
    (found_left (λ e. shows_before u (shows_straight place e) e) f.before es)) ∷ []
