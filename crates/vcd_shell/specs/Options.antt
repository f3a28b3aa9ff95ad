-- The options that programs share: the project's own.
use Rattle.std.specs.Prelude.{Bool, false, bytes_eq, codes, Option, Some, None}
use Rattle.clap.specs.Words.{Rule, Text, new_rule}
use Rattle.clap.specs.declared.builder.action.ArgAction.TheVariants.{Append, SetTrue}

-- `--NAME VALUE`
abbrev pub value_option : Text → Rule
value_option name = record (new_rule name) { long = Some name; value_names = 1 }

-- `-i FILE` or `--input-file FILE`, where 105 is the letter `i`
abbrev pub input_option : Rule
input_option = record (value_option (codes "input-file")) { short = Some 105 }

-- `-o FILE` or `--output-file FILE`, where 111 is the letter `o`
abbrev pub output_option : Rule
output_option = record (value_option (codes "output-file")) { short = Some 111 }

-- `--NAME VALUE`, any number of times
abbrev pub list_option : Text → Rule
list_option name = record (value_option name) { action = Some Append }

-- `--NAME`, without a value
abbrev pub flag : Text → Rule
flag name = record (new_rule name) { long = Some name; action = Some SetTrue }

-- whether an option without a value is given, by the text that it then has
abbrev pub is_given : Option Text → Bool
is_given None = false
is_given (Some text) = bytes_eq text (codes "true")
