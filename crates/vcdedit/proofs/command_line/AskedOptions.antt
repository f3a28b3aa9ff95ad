-- The getters read from the matches what the words ask for.
use Rattle.std.proofs.Common.{◌≡◌, ◌∙◌, ap, ℕ, List, Option, codes}
use Rattle.std.specs.Prelude.{option_map}
use Rattle.std.specs.Borrow.{Bor}
use Rattle.clap.specs.Words.{Text, first_of, first_value, found_of, matches_of, one_of, one_text}
use Rattle.clap.specs.Words.{rows_of}
use Rattle.clap.specs.declared.parser.matches.ArgMatches.{ArgMatches}
use Rattle.clap.proofs.WalkLemmas.{first_value-rows, one_text-rows}
use Rattle.vcd_script_shell.specs.ScriptOptions.{depth_asked}
use Rattle.vcdedit.specs.CommandLine.{asked_options, option_app, options_in}

-- the options that the getters read
pub read_options : (m : ArgMatches) (words : List Text) (input script output : Option (Bor Text)) (depth : ℕ)
    → rows_of (found_of m) ≡ matches_of option_app words
    → option_map (λ s. s.now) input ≡ first_value (found_of m) (codes "input-file")
    → option_map (λ s. s.now) script ≡ first_value (found_of m) (codes "script")
    → option_map (λ s. s.now) output ≡ first_value (found_of m) (codes "output-file")
    → depth ≡ depth_asked (one_text (found_of m) (codes "depth"))
    → options_in (record { input = input; script = script; output = output; depth = depth }) ≡ asked_options words
read_options m words input script output depth rows is_input is_script is_output is_depth =
    let of_rows : (id : Text) → first_value (found_of m) id ≡ first_of id (matches_of option_app words) =
    λ id. first_value-rows (found_of m) id ∙ ap (first_of id) rows in
    let text : one_text (found_of m) (codes "depth") ≡ one_of (codes "depth") (matches_of option_app words) =
    one_text-rows (found_of m) (codes "depth") ∙ ap (one_of (codes "depth")) rows in
    let input_is = is_input ∙ of_rows (codes "input-file") in
    let script_is = is_script ∙ of_rows (codes "script") in
    let output_is = is_output ∙ of_rows (codes "output-file") in
    let depth_is = is_depth ∙ ap depth_asked text in
    λ i. record { input = input_is i; script = script_is i; output = output_is i; depth = depth_is i }
