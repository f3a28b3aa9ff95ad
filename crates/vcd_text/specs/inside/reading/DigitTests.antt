-- What the code tests of the first byte and of the digits of a stamp or of a change.
use Rattle.std.specs.Prelude.{ℕ, Bool, not, ◌&&◌, ◌||◌, ◌==◌, nat_le, List, length, codes}
use Rattle.std.specs.List.{list_all}
use Rattle.vcd_core.specs.Decimal.{is_number, number_of}
use Rattle.vcd_core.specs.declared.capture.TheConstants.{END_LIMIT}
use Rattle.vcd_text.specs.Letters.{is_binary_digit}
use Rattle.vcd_text.specs.Grammar.{VariableDeclaration, is_skipped}

-- the first bytes of a change by a binary number
abbrev pub vector_prefixes : List ℕ
vector_prefixes = codes "bB"

-- the first bytes of changes of real numbers and strings
abbrev pub real_or_string_prefixes : List ℕ
real_or_string_prefixes = codes "rRsS"

-- whether a text is a tick
abbrev pub is_tick : List ℕ → Bool
is_tick digits = is_number digits && nat_le (number_of digits) END_LIMIT

-- whether a text is a binary number: one or more binary digits alone
abbrev pub is_binary_number : List ℕ → Bool
is_binary_number digits = not (length digits == 0) && list_all is_binary_digit digits

-- whether a variable accepts these digits: a skipped one any, a kept one a value that is not too
-- long
abbrev pub takes_binary_number : VariableDeclaration → List ℕ → Bool
takes_binary_number d digits =
    is_skipped d || (is_binary_number digits && nat_le (length digits) d.size)
