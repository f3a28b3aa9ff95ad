-- The letters of a four-state value, and the equality of two values.
use Rattle.std.specs.Prelude.{ℕ, Bool, ◌-◌, List, length, replicate, slice_index_or, nat_eq}
use Rattle.std.specs.Cmp.Lexicographic.{pointwise}
use Rattle.vcd_core.specs.declared.bit.Bit.{Bit}
use Rattle.vcd_core.specs.declared.bit.Bit.TheVariants.{Zero, One, X, Z}

-- the value of this width that is x in every bit
abbrev pub all_x : ℕ → List Bit
all_x width = replicate width X

-- bit k of a value, counted from its last letter, the least significant; k is below its width
abbrev pub letter_at : List Bit → ℕ → Bit
letter_at v k = slice_index_or v (length v - 1 - k) X

-- the number of a letter
abbrev pub letter_number : Bit → ℕ
letter_number Zero = 0
letter_number One = 1
letter_number X = 2
letter_number Z = 3

-- whether two letters are the same
abbrev pub same_letter : Bit → Bit → Bool
same_letter a b = nat_eq (letter_number a) (letter_number b)

-- whether two values have the same letters
abbrev pub same_letters : List Bit → List Bit → Bool
same_letters = pointwise same_letter

-- a letter as it is printed: `0`, `1`, `x` or `z` (IEEE 1364-2005, 18.2)
abbrev pub printed_letter : Bit → ℕ
printed_letter Zero = 48
printed_letter One = 49
printed_letter X = 120
printed_letter Z = 122
