-- The options of the command line, and what its words ask for. They are the project's own.
use Rattle.std.specs.Prelude.{ℕ, Bool, List, codes, true, Option, Some}
use Rattle.std.specs.Prelude.{◌||◌, is_some}
use Rattle.std.specs.Option.{option_copied}
use Rattle.clap.specs.Words.{App, Rule, Text, all_of, first_of, matches_of, new_app, new_rule}
use Rattle.clap.specs.Words.{one_of}
use Rattle.clap.specs.Words.{with_rule}
use Rattle.clap.specs.Simple.{new_shape}
use Rattle.vcd_shell.specs.Options.{flag, input_option, is_given, list_option, output_option}
use Rattle.vcd_shell.specs.Options.{value_option}
use Rattle.vcd_script_shell.specs.ScriptOptions.{depth_asked, depth_option}
use Rattle.vcd_part.specs.Requests.{texts}
use Rattle.vcd_amend_program.specs.declared.command_line.Options.{Options}

-- `-q` or `--quiet`, where 113 is the letter `q`
abbrev pub quiet_option : Rule
quiet_option = record (flag (codes "quiet")) { short = Some 113 }

-- `CAPTURE`, without an option
abbrev pub capture_argument : Rule
capture_argument = record (new_rule (codes "capture")) { value_names = 1 }

-- with the options
abbrev pub with_options : App → App
with_options app = with_rule (with_rule (with_rule (with_rule (with_rule (with_rule (with_rule
    (with_rule (with_rule app input_option) (value_option (codes "script"))) output_option)
    (flag (codes "all-or-nothing"))) (flag (codes "mark"))) (value_option (codes "verify")))
    depth_option) quiet_option) capture_argument

-- with the options that say which part is meant
abbrev pub with_part : App → App
with_part app = with_rule (with_rule (with_rule (with_rule app (list_option (codes "keep")))
    (list_option (codes "remove"))) (value_option (codes "from"))) (value_option (codes "to"))

-- the program with these options, help and a version; its words do not begin with its name
abbrev pub option_app : App
option_app = with_part (with_options (record (new_app (codes "vcdedit-amend")) {
  top = record (new_shape (codes "vcdedit-amend")) { no_binary_name = true; has_version = true };
}))

-- the text of each given option, the depth, whether the output is to have a mark, whether remarks
-- are to be left out, and whether nothing is to be written if a line is refused
pub record AskedOptions : Type 0 where
  pub input : Option Text
  pub capture : Option Text
  pub script : Option Text
  pub output : Option Text
  pub verify : Option Text
  pub depth : ℕ
  pub is_marked : Bool
  pub is_quiet : Bool
  pub is_all_or_nothing : Bool
  pub keep : Option (List Text)
  pub remove : Option (List Text)
  pub from : Option Text
  pub to : Option Text

-- the same for the options that the code holds
abbrev pub options_in : Options → AskedOptions
options_in o = record {
  input = option_copied o.input;
  capture = option_copied o.capture;
  script = option_copied o.script;
  output = option_copied o.output;
  verify = option_copied o.verify;
  depth = o.depth;
  is_marked = o.is_marked;
  is_quiet = o.is_quiet;
  is_all_or_nothing = o.is_all_or_nothing;
  keep = texts o.keep;
  remove = texts o.remove;
  from = option_copied o.from;
  to = option_copied o.to;
}

-- whether a part of the capture is asked for
abbrev pub ask_for_part : AskedOptions → Bool
ask_for_part o = is_some o.keep || (is_some o.remove || (is_some o.from || is_some o.to))

-- whether something is asked for that the mark of a file says, or an output
abbrev pub ask_for_more_than_verify : AskedOptions → Bool
ask_for_more_than_verify o = is_some o.script || (is_some o.output || (o.is_marked
    || (o.is_all_or_nothing || ask_for_part o)))

-- what accepted words after the program's name ask for
abbrev pub asked_options : List Text → AskedOptions
asked_options words =
    let rows = matches_of option_app words in
    record {
      input = first_of (codes "input-file") rows;
      capture = first_of (codes "capture") rows;
      script = first_of (codes "script") rows;
      output = first_of (codes "output-file") rows;
      verify = first_of (codes "verify") rows;
      depth = depth_asked (one_of (codes "depth") rows);
      is_marked = is_given (first_of (codes "mark") rows);
      is_quiet = is_given (first_of (codes "quiet") rows);
      is_all_or_nothing = is_given (first_of (codes "all-or-nothing") rows);
      keep = all_of (codes "keep") rows;
      remove = all_of (codes "remove") rows;
      from = first_of (codes "from") rows;
      to = first_of (codes "to") rows;
    }
