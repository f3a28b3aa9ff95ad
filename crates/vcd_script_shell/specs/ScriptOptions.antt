-- The options of programs that carry out a script: the project's own.
use Rattle.std.specs.Prelude.{ℕ, List, [], ◌∷◌, codes, if◌then◌else◌, Option, Some, None}
use Rattle.std.specs.Str.Parse.{digits_value, without_leading_plus}
use Rattle.clap.specs.Words.{Rule, Text}
use Rattle.clap.specs.ValueTests.{is_unsigned_in}
use Rattle.clap.specs.declared.builder.action.ArgAction.TheVariants.{Set}
use Rattle.clap.specs.declared.builder.value_parser.ValueParser.TheVariants as parsers
use Rattle.vcd_journal.specs.declared.step.TheConstants.{DEPTH_LIMIT}
use Rattle.vcd_shell.specs.Options.{value_option}

-- `--depth N`, a number from 1 to the limit, by default 100
abbrev pub depth_option : Rule
depth_option = record
    (value_option (codes "depth")) {
      action = Some Set;
      defaults = codes "100" ∷ [];
      parser = Some (parsers.Unsigned 1 DEPTH_LIMIT);
    }

-- the number of the depth's text, if it is from 1 to the limit; accepted words have such a text, if
-- only the default, and 1 stands for any other
abbrev pub depth_asked : Option Text → ℕ
depth_asked None = 1
depth_asked (Some text) = if is_unsigned_in 1 DEPTH_LIMIT text
    then digits_value 10 (without_leading_plus text) else 1

-- the script without a path: the one line `list`
abbrev pub default_script : List ℕ
default_script = codes "list\n"
