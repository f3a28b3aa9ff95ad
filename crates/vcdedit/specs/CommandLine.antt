-- The options of the command line, and what its words ask for. They are the project's own.
use Rattle.std.specs.Prelude.{ℕ, List, [], ◌∷◌, codes, true, Option}
use Rattle.std.specs.Option.{option_copied}
use Rattle.clap.specs.Words.{App, Text, first_of, matches_of, new_app, one_of}
use Rattle.clap.specs.Simple.{new_shape}
use Rattle.vcd_shell.specs.Options.{input_option, output_option, value_option}
use Rattle.vcd_script_shell.specs.ScriptOptions.{depth_asked, depth_option}
use Rattle.vcdedit.specs.declared.command_line.Options.{Options}

-- the program with these options, help and a version; its words do not begin with its name
abbrev pub option_app : App
option_app = record (new_app (codes "vcdedit")) {
  top = record (new_shape (codes "vcdedit")) {
    rules = input_option ∷ value_option (codes "script") ∷ output_option ∷ depth_option ∷ [];
    no_binary_name = true;
    has_version = true;
  };
}

-- the path of each given option, and the depth
pub record AskedOptions : Type 0 where
  pub input : Option Text
  pub script : Option Text
  pub output : Option Text
  pub depth : ℕ

-- the same for the options that the code holds
abbrev pub options_in : Options → AskedOptions
options_in o = record {
  input = option_copied o.input;
  script = option_copied o.script;
  output = option_copied o.output;
  depth = o.depth;
}

-- what accepted words after the program's name ask for
abbrev pub asked_options : List Text → AskedOptions
asked_options words =
    let rows = matches_of option_app words in
    record {
      input = first_of (codes "input-file") rows;
      script = first_of (codes "script") rows;
      output = first_of (codes "output-file") rows;
      depth = depth_asked (one_of (codes "depth") rows);
    }
