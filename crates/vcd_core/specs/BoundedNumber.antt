-- Decimal numbers up to a greatest one.
use Rattle.std.specs.Prelude.{ℕ, Option, Some, None, if◌then◌else◌, min, List}
use Rattle.vcd_core.specs.Decimal.{is_number, number_of}

-- the number that a text writes, or `most` if it is greater; none if the text is no number
abbrev pub number_up_to : List ℕ → ℕ → Option ℕ
number_up_to text most = if is_number text then Some (min (number_of text) most) else None
