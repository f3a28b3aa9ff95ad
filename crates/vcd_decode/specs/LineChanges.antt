-- The letters of a decoder's lines by a list of their changes. The project's own.
use Rattle.std.specs.Prelude.{ℕ, ◌==◌, ◌≤◌, ◌&&◌, nat_le, Bool, if◌then◌else◌, Option, Some, None}
use Rattle.std.specs.Prelude.{List, [], ◌∷◌, map}
use Rattle.std.specs.List.{enumerate_from}
use Rattle.vcd_core.specs.declared.bit.Bit.{Bit}
use Rattle.vcd_core.specs.declared.bit.Bit.TheVariants.{X}
use Rattle.vcd_decode.specs.declared.edge_maker.LineChange.{LineChange}

-- the letter of a line at a tick: that of its last change at or before it, or else `before`
unfoldable pub letter_from : Bit → ℕ → List LineChange → ℕ → Bit
letter_from before line [] t = before
letter_from before line (c ∷ cs) t =
    letter_from (if (c.line == line) && nat_le c.tick t then c.letter else before) line cs t

-- the letter of a line at a tick: x before its first change
abbrev pub letter_of_line : ℕ → List LineChange → ℕ → Bit
letter_of_line line changes t = letter_from X line changes t

-- the lines that are present, by the changes of all
abbrev pub lines_fed : List Bool → List LineChange → List (Option (ℕ → Bit))
lines_fed present changes =
    map (λ p. if p.1 then Some (letter_of_line p.0 changes) else None) (enumerate_from 0 present)

-- the ticks do not fall, none is before the tick `from`, and none past the tick `end`
abbrev pub InOrder : ℕ → ℕ → List LineChange → Type 0
InOrder from end [] = Unit {0}
InOrder from end (c ∷ cs) = (from ≤ c.tick) × (c.tick ≤ end) × InOrder c.tick end cs
