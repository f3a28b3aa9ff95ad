-- The bitwise operators on four-state letters, where x and z may be 0 or 1: they have the tables of
-- IEEE 1364-2005, 5.1.10.
use Rattle.std.specs.Prelude.{Bool, true, false, not, ◌&&◌, ◌||◌, if◌then◌else◌, List, [], ◌∷◌, map}
use Rattle.std.specs.List.{flat_map, list_all, list_any}
use Rattle.vcd_core.specs.declared.bit.Bit.{Bit}
use Rattle.vcd_core.specs.declared.bit.Bit.TheVariants.{Zero, One, X}
use Rattle.vcd_edit.specs.declared.edit.Operator.{Operator}
use Rattle.vcd_edit.specs.declared.edit.Operator.TheVariants.{And, Or, Xor}

-- what a letter may mean, true for 1: x and z both
abbrev pub meant_values : Bit → List Bool
meant_values Zero = false ∷ []
meant_values One = true ∷ []
meant_values b = false ∷ true ∷ []

-- the letter of values that are one, or x
abbrev pub shared_letter : List Bool → Bit
shared_letter values = if list_all (λ v. v) values then One
    else (if list_any (λ v. v) values then X else Zero)

-- `~`
abbrev pub not_bit : Bit → Bit
not_bit a = shared_letter (map not (meant_values a))

-- `&`, `|` and `^` where both are 0 or 1
abbrev pub operator_value : Operator → Bool → Bool → Bool
operator_value And a b = a && b
operator_value Or a b = a || b
operator_value Xor a b = if a then not b else b

-- `&`, `|` and `^`
abbrev pub operator_bit : Operator → Bit → Bit → Bit
operator_bit operator a b = shared_letter
    (flat_map (λ v. map (operator_value operator v) (meant_values b)) (meant_values a))
