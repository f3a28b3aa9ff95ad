-- Binary digits, their letters, the extension and the short form of letters (IEEE 1364-2005, 18.2).
use Rattle.std.specs.Prelude.{ℕ, ◌-◌, ◌==◌, ◌&&◌, not, nat_le, Bool, if◌then◌else◌, List, ◌∷◌, ◌++◌}
use Rattle.std.specs.Prelude.{nat_eq, length}
use Rattle.std.specs.Prelude.{map, replicate, find, Option, Some, None, is_some, unwrap_or, codes}
use Rattle.std.specs.Prelude.{[]}
use Rattle.std.specs.List.{list_any, list_all}
use Rattle.vcd_core.specs.declared.bit.Bit.{Bit}
use Rattle.vcd_core.specs.declared.bit.Bit.TheVariants.{Zero, One, X, Z}
use Rattle.vcd_core.specs.Value.{same_letters, printed_letter}

-- whether a byte is among these
abbrev pub is_among : List ℕ → ℕ → Bool
is_among bytes b = list_any (nat_eq b) bytes

-- the letter that a binary digit writes: 0 1 x X z Z by IEEE 1364-2005, 18.2; the others come from
-- VHDL simulators
abbrev pub letter_of_digit : ℕ → Option Bit
letter_of_digit b = if is_among (codes "0lL") b then Some Zero
    else (if is_among (codes "1hH") b then Some One
    else (if is_among (codes "xXuUwW-") b then Some X
    else (if is_among (codes "zZ") b then Some Z else None)))

-- whether a byte is a binary digit
abbrev pub is_binary_digit : ℕ → Bool
is_binary_digit b = is_some (letter_of_digit b)

-- the letters that binary digits write
abbrev pub letters_of_digits : List ℕ → List Bit
letters_of_digits digits = map (λ b. unwrap_or (letter_of_digit b) X) digits

-- the printed bytes of letters
abbrev pub printed_letters : List Bit → List ℕ
printed_letters letters = map printed_letter letters

-- the letter that extends letters on the left: 0 if the leftmost is 1, else the leftmost (18.2); no
-- list that is read is empty
abbrev pub pad_letter : List Bit → Bit
pad_letter [] = X
pad_letter (Zero ∷ s) = Zero
pad_letter (One ∷ s) = Zero
pad_letter (b ∷ s) = b

-- letters extended on the left to a width (18.2)
abbrev pub extension : ℕ → List Bit → List Bit
extension width s = replicate (width - length s) (pad_letter s) ++ s

-- in scripts: the value of a width that binary digits write, extended on the left; none without
-- digits, with another byte, or with more digits than bits
abbrev pub value_of_digits : ℕ → List ℕ → Option (List Bit)
value_of_digits width digits =
    if not (length digits == 0) && list_all is_binary_digit digits && nat_le (length digits) width
    then Some (extension width (letters_of_digits digits)) else None

-- the non-empty suffixes of a list, the shortest first
abbrev pub suffixes : List Bit → List (List Bit)
suffixes [] = []
suffixes (b ∷ s) = suffixes s ++ (b ∷ s) ∷ []

-- the short form of a value: its shortest non-empty suffix whose extension is the value (18.2)
unfoldable pub short_form : List Bit → List Bit
short_form v = unwrap_or (find (λ s. same_letters (extension (length v) s) v) (suffixes v)) v
