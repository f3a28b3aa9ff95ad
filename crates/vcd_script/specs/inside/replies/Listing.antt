-- The lines of a listing, as the code appends them.
use Rattle.std.specs.Prelude.{ℕ, List, ◌++◌, map, codes}
use Rattle.std.specs.List.{enumerate_from}
use Rattle.std.specs.Fmt.{decimal}
use Rattle.vcd_core.specs.Contents.{SignalContents}
use Rattle.vcd_script.specs.Queries.{signal_line}

-- a word and a number
abbrev pub number_line : List ℕ → ℕ → List ℕ
number_line word n = word ++ codes " " ++ decimal n

-- signals, the first at this position
abbrev pub signal_lines : ℕ → List SignalContents → List (List ℕ)
signal_lines position signals = map (λ p. signal_line p.0 p.1) (enumerate_from position signals)
