-- What the writer of the remarks takes where a file is amended by a script, on any devices. The
-- project's own.
use Rattle.std.specs.Prelude.{◌≡◌, ◌≤◌, ℕ, List, ◌++◌, take, length, Some}
use Rattle.vcd_core.specs.Contents.{Contents}
use Rattle.vcd_core.specs.Devices.{DeviceEnd, HasText}
use Rattle.vcd_copy.specs.Pieces.{Piece}
use Rattle.vcd_script.specs.Script.{script_lines}
use Rattle.vcd_remarks.specs.RemarksOfRun.{remarks_of_run}
use Rattle.vcd_amend_run.specs.AmendRunEnds.{PassEnds, AllShow}
use Rattle.vcd_amend_run.specs.EditedText.{PiecesMean}
use Rattle.vcd_amend_run.specs.OutputRemarks.{output_remarks_of_run}

-- a writer took the first `count` bytes of a text, and then the first `more` bytes of another
abbrev pub HasPrefixes : DeviceEnd → (first second : List ℕ) → Type 0
HasPrefixes w first second = (count : ℕ) × (more : ℕ) × (count ≤ length first)
    × (more ≤ length second) × HasText w (take count first ++ take more second)

-- if every pass shows one file, and the script its bytes: the first bytes of the remarks on the
-- lines, on the capture that the file means, and then the first bytes of those on the output. Both
-- may be none: remarks end where memory runs out, or the run before the output
unfoldable pub TakesRemarks : (depth : ℕ) → PassEnds → (script remarks : DeviceEnd) → Type 0
TakesRemarks depth passes script remarks =
    (file lines : List ℕ) → AllShow passes file → script.before ≡ Some lines
    → (c : Contents) (skipped : ℕ) (pieces : List Piece) (tail : List ℕ)
    → PiecesMean file pieces tail c skipped
    → HasPrefixes remarks (remarks_of_run c skipped depth (script_lines lines))
    (output_remarks_of_run c skipped depth (script_lines lines) pieces)
