-- The getters read from the matches what the words ask for.
use Rattle.std.proofs.Common.{◌≡◌, ◌∙◌, ap, ℕ, Bool, List, Option, codes}
use Rattle.std.specs.Prelude.{option_map}
use Rattle.std.specs.Borrow.{Bor}
use Rattle.clap.specs.Words.{Text, Row, all_of, first_of, first_value, found_of, matches_of, one_of, one_text}
use Rattle.clap.specs.Words.{rows_of}
use Rattle.clap.specs.Matches.{matched_of, raw_values}
use Rattle.clap.specs.declared.parser.matches.ArgMatches.{ArgMatches}
use Rattle.clap.proofs.WalkLemmas.{first_value-rows, one_text-rows, raw_values-rows}
use Rattle.vcd_shell.specs.Options.{is_given}
use Rattle.vcd_script_shell.specs.ScriptOptions.{depth_asked}
use Rattle.vcd_part.specs.Requests.{texts}
use Rattle.vcd_amend_program.specs.CommandLine.{asked_options, option_app, options_in}

-- the options that the getters read
pub read_options : (m : ArgMatches) (words : List Text) (input capture script verify output : Option (Bor Text))
    (depth : ℕ) (marked quiet all : Bool) (keep remove : Option (Bor (List (Bor Text)))) (from to : Option (Bor Text))
    → rows_of (found_of m) ≡ matches_of option_app words
    → option_map (λ s. s.now) input ≡ first_value (found_of m) (codes "input-file")
    → option_map (λ s. s.now) capture ≡ first_value (found_of m) (codes "capture")
    → option_map (λ s. s.now) script ≡ first_value (found_of m) (codes "script")
    → option_map (λ s. s.now) verify ≡ first_value (found_of m) (codes "verify")
    → option_map (λ s. s.now) output ≡ first_value (found_of m) (codes "output-file")
    → depth ≡ depth_asked (one_text (found_of m) (codes "depth"))
    → marked ≡ is_given (first_value (found_of m) (codes "mark"))
    → quiet ≡ is_given (first_value (found_of m) (codes "quiet"))
    → all ≡ is_given (first_value (found_of m) (codes "all-or-nothing"))
    → texts keep ≡ option_map raw_values (matched_of (found_of m) (codes "keep"))
    → texts remove ≡ option_map raw_values (matched_of (found_of m) (codes "remove"))
    → option_map (λ s. s.now) from ≡ first_value (found_of m) (codes "from")
    → option_map (λ s. s.now) to ≡ first_value (found_of m) (codes "to")
    → options_in (record {
      input = input;
      capture = capture;
      script = script;
      output = output;
      verify = verify;
      depth = depth;
      is_marked = marked;
      is_quiet = quiet;
      is_all_or_nothing = all;
      keep = keep;
      remove = remove;
      from = from;
      to = to;
    }) ≡ asked_options words
read_options m words input capture script verify output depth marked quiet all keep remove from to rows is_input
    is_capture is_script is_verify is_output is_depth is_marked is_quiet is_all is_keep is_remove is_from is_to =
    let of_rows : (id : Text) → first_value (found_of m) id ≡ first_of id (matches_of option_app words) =
    λ id. first_value-rows (found_of m) id ∙ ap (first_of id) rows in
    let text : one_text (found_of m) (codes "depth") ≡ one_of (codes "depth") (matches_of option_app words) =
    one_text-rows (found_of m) (codes "depth") ∙ ap (one_of (codes "depth")) rows in
    let input_is = is_input ∙ of_rows (codes "input-file") in
    let capture_is = is_capture ∙ of_rows (codes "capture") in
    let script_is = is_script ∙ of_rows (codes "script") in
    let verify_is = is_verify ∙ of_rows (codes "verify") in
    let output_is = is_output ∙ of_rows (codes "output-file") in
    let marked_is = is_marked ∙ ap is_given (of_rows (codes "mark")) in
    let quiet_is = is_quiet ∙ ap is_given (of_rows (codes "quiet")) in
    let all_is = is_all ∙ ap is_given (of_rows (codes "all-or-nothing")) in
    let depth_is = is_depth ∙ ap depth_asked text in
    let all_of_rows : (id : Text) → option_map raw_values (matched_of (found_of m) id)
    ≡ all_of id (matches_of option_app words) =
    λ id. raw_values-rows (found_of m) id ∙ ap (λ (r : List Row). all_of id r) rows in
    let keep_is = is_keep ∙ all_of_rows (codes "keep") in
    let remove_is = is_remove ∙ all_of_rows (codes "remove") in
    let from_is = is_from ∙ of_rows (codes "from") in
    let to_is = is_to ∙ of_rows (codes "to") in
    λ i. record {
      input = input_is i;
      capture = capture_is i;
      script = script_is i;
      output = output_is i;
      verify = verify_is i;
      depth = depth_is i;
      is_marked = marked_is i;
      is_quiet = quiet_is i;
      is_all_or_nothing = all_is i;
      keep = keep_is i;
      remove = remove_is i;
      from = from_is i;
      to = to_is i;
    }
