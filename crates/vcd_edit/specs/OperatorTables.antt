-- The tables of the bitwise operators, as IEEE 1364-2005, 5.1.10 has them: the contract of a
-- function of `laws`.
use Rattle.std.specs.Prelude.{◌≡◌}
use Rattle.vcd_core.specs.declared.bit.Bit.{Bit}
use Rattle.vcd_core.specs.declared.bit.Bit.TheVariants.{Zero, One, X, Z}
use Rattle.vcd_edit.specs.declared.edit.Operator.{Operator}
use Rattle.vcd_edit.specs.declared.edit.Operator.TheVariants.{And, Or, Xor}
use Rattle.vcd_edit.specs.Operators.{not_bit, operator_bit}

-- a row of a table: its entries for the second letters 0, 1, x and z
abbrev pub row : (at_0 at_1 at_x at_z : Bit) → Bit → Bit
row at_0 at_1 at_x at_z Zero = at_0
row at_0 at_1 at_x at_z One = at_1
row at_0 at_1 at_x at_z X = at_x
row at_0 at_1 at_x at_z Z = at_z

-- the tables of `&`, `|` and `^`: the first letter chooses the row
abbrev pub operator_table : Operator → Bit → Bit → Bit
operator_table And Zero = row Zero Zero Zero Zero
operator_table And One = row Zero One X X
operator_table And X = row Zero X X X
operator_table And Z = row Zero X X X
operator_table Or Zero = row Zero One X X
operator_table Or One = row One One One One
operator_table Or X = row X One X X
operator_table Or Z = row X One X X
operator_table Xor Zero = row Zero One X X
operator_table Xor One = row One Zero X X
operator_table Xor X = row X X X X
operator_table Xor Z = row X X X X

-- `~` has its table
abbrev pub NotHasItsTable : Type 0
NotHasItsTable = (a : Bit) → not_bit a ≡ row One Zero X X a

-- the operators have their tables
abbrev pub OperatorsHaveTheirTables : Type 0
OperatorsHaveTheirTables =
    (operator : Operator) (a b : Bit) → operator_bit operator a b ≡ operator_table operator a b
