-- The differences of two variables, as they are told. The project's own.
use Rattle.std.specs.Prelude.{ℕ, List, Option, option_map}
use Rattle.vcd_core.specs.declared.bit.Bit.{Bit}
use Rattle.vcd_compare.specs.declared.differences.Difference.{Difference}
use Rattle.vcd_compare.specs.declared.differences.Differences.{Differences}

-- the differences of two signals by their letters, or of two other variables by their words
pub data VariableDifferences : Type 0 where
  by_letters : Differences (List Bit) → VariableDifferences
  by_words : Differences (List ℕ) → VariableDifferences

-- how many there are
abbrev pub count_of : VariableDifferences → ℕ
count_of (by_letters ds) = ds.count
count_of (by_words ds) = ds.count

-- a value of a variable: letters of a signal, or else a word
pub data VariableValue : Type 0 where
  of_letters : List Bit → VariableValue
  of_word : List ℕ → VariableValue

-- a difference with other values
abbrev pub difference_map : {V W : Type 0} → (V → W) → Difference V → Difference W
difference_map f d = record {
  ticks = d.ticks;
  value_in_a = f d.value_in_a;
  value_in_b = f d.value_in_b;
}

-- the first of them
abbrev pub first_of : VariableDifferences → Option (Difference VariableValue)
first_of (by_letters ds) = option_map (difference_map of_letters) ds.first
first_of (by_words ds) = option_map (difference_map of_word) ds.first

-- the last of the others
abbrev pub last_of : VariableDifferences → Option (Difference VariableValue)
last_of (by_letters ds) = option_map (difference_map of_letters) ds.last
last_of (by_words ds) = option_map (difference_map of_word) ds.last
