-- The replies to `list` and `changes`. Their form is the project's own.
use Rattle.std.specs.Prelude.{ℕ, List, ◌∷◌, ◌++◌, length, map, Option, Some, None, codes}
use Rattle.std.specs.List.{enumerate_from}
use Rattle.std.specs.Fmt.{decimal}
use Rattle.vcd_core.specs.declared.capture.Timescale.{Timescale}
use Rattle.vcd_core.specs.declared.wave.Change.{Change}
use Rattle.vcd_core.specs.Contents.{Contents, SignalContents}
use Rattle.vcd_core.specs.Names.{full_name}
use Rattle.vcd_core.specs.TimeUnits.{unit_text}
use Rattle.vcd_text.specs.Letters.{printed_letters}

-- `timescale 1 ns`, with its number and its unit, or `timescale none`
abbrev pub timescale_line : Option Timescale → List ℕ
timescale_line None = codes "timescale none"
timescale_line (Some t) = codes "timescale " ++ decimal t.count ++ codes " " ++ unit_text t.unit

-- the signal at a position: `@K WIDTH KIND FULLNAME`
abbrev pub signal_line : ℕ → SignalContents → List ℕ
signal_line position s = codes "@" ++ decimal position ++ codes " " ++ decimal s.width
    ++ codes " " ++ s.kind ++ codes " " ++ full_name s

-- the lines of `list`; edits do not change how many variables of the file were skipped
abbrev pub listing : Contents → (skipped : ℕ) → List (List ℕ)
listing c skipped = timescale_line c.timescale ∷ (codes "end " ++ decimal c.end)
    ∷ (codes "signals " ++ decimal (length c.signals)) ∷ (codes "skipped " ++ decimal skipped)
    ∷ map (λ p. signal_line p.0 p.1) (enumerate_from 0 c.signals)

-- a change: its tick and its value, most significant letter first
abbrev pub change_line : Change → List ℕ
change_line c = decimal c.tick ++ codes " " ++ printed_letters c.value
