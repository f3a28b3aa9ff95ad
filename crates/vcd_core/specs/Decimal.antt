-- Decimal numbers, as files, scripts and names write them.
use Rattle.std.specs.Prelude.{ℕ, Bool, not, ◌&&◌, ◌==◌, List, length}
use Rattle.std.specs.List.{list_all}
use Rattle.std.specs.Char.{is_ascii_digit}
use Rattle.std.specs.Str.Parse.{digits_value}

-- whether a text is a decimal number: one or more of the digits 0 to 9 alone
abbrev pub is_number : List ℕ → Bool
is_number text = not (length text == 0) && list_all is_ascii_digit text

-- the number that decimal digits write
abbrev pub number_of : List ℕ → ℕ
number_of text = digits_value 10 text
