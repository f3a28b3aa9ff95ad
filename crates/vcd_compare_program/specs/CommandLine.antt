-- The options of the command line, and what its words ask for. They are the project's own.
use Rattle.std.specs.Prelude.{Bool, List, codes, true, Option}
use Rattle.std.specs.Option.{option_copied}
use Rattle.clap.specs.Words.{App, Rule, Text, all_of, first_of, matches_of, new_app, new_rule}
use Rattle.clap.specs.Words.{with_rule}
use Rattle.clap.specs.Simple.{new_shape}
use Rattle.vcd_shell.specs.Options.{flag, is_given, list_option, value_option}
use Rattle.vcd_part.specs.Requests.{texts}
use Rattle.vcd_compare_program.specs.declared.command_line.Options.{Options}

-- a word without an option, which has to be there
abbrev pub capture_argument : Text → Rule
capture_argument name = record (new_rule name) { value_names = 1; required = true }

-- with the captures, and which of their variables are compared
abbrev pub with_captures : App → App
with_captures app = with_rule (with_rule (with_rule
    (with_rule app (capture_argument (codes "first"))) (capture_argument (codes "second")))
    (list_option (codes "keep"))) (list_option (codes "map"))

-- with the options that say at which ticks, and how the report is
abbrev pub with_times : App → App
with_times app = with_rule (with_rule (with_rule (with_rule (with_rule app
    (value_option (codes "from"))) (value_option (codes "to"))) (value_option (codes "within")))
    (flag (codes "strict"))) (flag (codes "json"))

-- the program with these options, help and a version; its words do not begin with its name
abbrev pub option_app : App
option_app = with_times (with_captures (record (new_app (codes "vcdedit-compare")) {
  top = record (new_shape (codes "vcdedit-compare")) { no_binary_name = true; has_version = true };
}))

-- the text of each given option, and whether the flags are given
pub record AskedOptions : Type 0 where
  pub first : Option Text
  pub second : Option Text
  pub keep : Option (List Text)
  pub maps : Option (List Text)
  pub from : Option Text
  pub to : Option Text
  pub within : Option Text
  pub is_strict : Bool
  pub is_json : Bool

-- the same for the options that the code holds
abbrev pub options_in : Options → AskedOptions
options_in o = record {
  first = option_copied o.first;
  second = option_copied o.second;
  keep = texts o.keep;
  maps = texts o.maps;
  from = option_copied o.from;
  to = option_copied o.to;
  within = option_copied o.within;
  is_strict = o.is_strict;
  is_json = o.is_json;
}

-- what accepted words after the program's name ask for
abbrev pub asked_options : List Text → AskedOptions
asked_options words =
    let rows = matches_of option_app words in
    record {
      first = first_of (codes "first") rows;
      second = first_of (codes "second") rows;
      keep = all_of (codes "keep") rows;
      maps = all_of (codes "map") rows;
      from = first_of (codes "from") rows;
      to = first_of (codes "to") rows;
      within = first_of (codes "within") rows;
      is_strict = is_given (first_of (codes "strict") rows);
      is_json = is_given (first_of (codes "json") rows);
    }
