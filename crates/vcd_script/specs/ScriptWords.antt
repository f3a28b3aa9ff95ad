-- What a word of a line says, or the fault of the line: the project's own.
use Rattle.std.specs.Prelude.{ℕ, ◌^◌, ◌==◌, ◌&&◌, nat_lt, nat_le, if◌then◌else◌, ℤ, pos, neg_ℤ}
use Rattle.std.specs.Prelude.{List, [], ◌∷◌, Result}
use Rattle.std.specs.Prelude.{Ok, Err}
use Rattle.std.specs.Option.{ok_or}
use Rattle.vcd_core.specs.declared.bit.Bit.{Bit}
use Rattle.vcd_core.specs.Contents.{Contents}
use Rattle.vcd_core.specs.Decimal.{is_number, number_of}
use Rattle.vcd_core.specs.Names.{lookup}
use Rattle.vcd_text.specs.Letters.{value_of_digits}
use Rattle.vcd_script.specs.declared.script.line_error.LineError.{LineError}
use Rattle.vcd_script.specs.declared.script.line_error.LineError.TheVariants.{NoSuchName, BadNumber}
use Rattle.vcd_script.specs.declared.script.line_error.LineError.TheVariants.{BadValueText}

-- words are read from the left: what the next reading makes of this one, or the fault of this one
infixl 10 ◌>>=◌
abbrev pub ◌>>=◌ : {A B : Type 0} → Result A LineError → (A → Result B LineError)
    → Result B LineError
(Ok x) >>= f = f x
(Err fault) >>= f = Err fault

-- the position of the signal that a word names
abbrev pub signal_of_name : Contents → List ℕ → Result ℕ LineError
signal_of_name c name = ok_or (lookup c.signals name) NoSuchName

-- the number that a word writes: a decimal number below 2^64
abbrev pub number_of_word : List ℕ → Result ℕ LineError
number_of_word word = if is_number word && nat_lt (number_of word) (2 ^ 64) then Ok (number_of word)
    else Err BadNumber

-- a distance to a later tick: below 2^63
abbrev pub distance_forth : List ℕ → Result ℤ LineError
distance_forth digits = if is_number digits && nat_lt (number_of digits) (2 ^ 63)
    then Ok (pos (number_of digits)) else Err BadNumber

-- a distance to an earlier tick: at most 2^63
abbrev pub distance_back : List ℕ → Result ℤ LineError
distance_back digits = if is_number digits && nat_le (number_of digits) (2 ^ 63)
    then Ok (neg_ℤ (pos (number_of digits))) else Err BadNumber

-- the distance that a word writes: a decimal number after `-` (45), `+` (43) or neither
abbrev pub distance_of_word : List ℕ → Result ℤ LineError
distance_of_word [] = Err BadNumber
distance_of_word (c ∷ digits) =
    if c == 45 then distance_back digits
    else (if c == 43 then distance_forth digits else distance_forth (c ∷ digits))

-- the value of `width` bits that a word writes: 1 to `width` binary digits, extended on the left
abbrev pub value_of_word : ℕ → List ℕ → Result (List Bit) LineError
value_of_word width word = ok_or (value_of_digits width word) BadValueText
