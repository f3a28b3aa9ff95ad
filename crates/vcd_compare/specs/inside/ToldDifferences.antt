-- The differences of two variables, in the room that they need, and as they are told.
use Rattle.std.specs.Prelude.{[]}
use Rattle.vcd_compare.specs.Differences.{summary}
use Rattle.vcd_compare.specs.VariableDifferences.{VariableDifferences, by_letters, by_words}
use Rattle.vcd_compare.specs.VariableDifferences.{VariableValue, of_letters, of_word}
use Rattle.vcd_compare.specs.VariableDifferences.{difference_map}
use Rattle.vcd_compare.specs.declared.differences.Difference.{Difference}
use Rattle.vcd_compare.specs.declared.told_differences.SizedDifferences.{SizedDifferences}
use Rattle.vcd_compare.specs.declared.told_differences.SizedDifferences.TheVariants.{NoLetters}
use Rattle.vcd_compare.specs.declared.told_differences.SizedDifferences.TheVariants.{NoWords}
use Rattle.vcd_compare.specs.declared.told_differences.SizedDifferences.TheVariants.{Narrow, Wide}
use Rattle.vcd_compare.specs.declared.told_differences.SizedDifferences.TheVariants.{Words}
use Rattle.vcd_compare.specs.declared.told_value.ToldValue.{ToldValue}
use Rattle.vcd_compare.specs.declared.told_value.ToldValue.TheVariants.{Letters, Word}

-- differences, with letters or words as values
abbrev pub differences_in : SizedDifferences → VariableDifferences
differences_in NoLetters = by_letters (summary [])
differences_in NoWords = by_words (summary [])
differences_in (Narrow differences) = by_letters differences.value
differences_in (Wide differences) = by_letters differences.value
differences_in (Words differences) = by_words differences.value

-- a value as it is told
abbrev pub told_value : ToldValue → VariableValue
told_value (Letters value) = of_letters value
told_value (Word word) = of_word word.now

-- a difference as it is told
abbrev pub told_difference : Difference ToldValue → Difference VariableValue
told_difference = difference_map told_value
