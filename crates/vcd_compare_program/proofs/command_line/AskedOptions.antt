-- The getters read from the matches what the words ask for.
use Rattle.std.proofs.Common.{◌≡◌, ◌∙◌, ap, Bool, List, Option, codes}
use Rattle.std.specs.Prelude.{option_map}
use Rattle.std.specs.Borrow.{Bor}
use Rattle.clap.specs.Words.{Text, Row, all_of, first_of, first_value, found_of, matches_of, rows_of}
use Rattle.clap.specs.Matches.{matched_of, raw_values}
use Rattle.clap.specs.declared.parser.matches.ArgMatches.{ArgMatches}
use Rattle.clap.proofs.WalkLemmas.{first_value-rows, raw_values-rows}
use Rattle.vcd_shell.specs.Options.{is_given}
use Rattle.vcd_part.specs.Requests.{texts}
use Rattle.vcd_compare_program.specs.CommandLine.{asked_options, option_app, options_in}

-- the options that the getters read
pub read_options : (m : ArgMatches) (words : List Text) (first second : Option (Bor Text))
    (keep maps : Option (Bor (List (Bor Text)))) (from to within : Option (Bor Text)) (strict json : Bool)
    → rows_of (found_of m) ≡ matches_of option_app words
    → option_map (λ s. s.now) first ≡ first_value (found_of m) (codes "first")
    → option_map (λ s. s.now) second ≡ first_value (found_of m) (codes "second")
    → texts keep ≡ option_map raw_values (matched_of (found_of m) (codes "keep"))
    → texts maps ≡ option_map raw_values (matched_of (found_of m) (codes "map"))
    → option_map (λ s. s.now) from ≡ first_value (found_of m) (codes "from")
    → option_map (λ s. s.now) to ≡ first_value (found_of m) (codes "to")
    → option_map (λ s. s.now) within ≡ first_value (found_of m) (codes "within")
    → strict ≡ is_given (first_value (found_of m) (codes "strict"))
    → json ≡ is_given (first_value (found_of m) (codes "json"))
    → options_in (record {
      first = first;
      second = second;
      keep = keep;
      maps = maps;
      from = from;
      to = to;
      within = within;
      is_strict = strict;
      is_json = json;
    }) ≡ asked_options words
read_options m words first second keep maps from to within strict json rows is_first is_second is_keep is_maps is_from
    is_to is_within is_strict is_json =
    let of_rows : (id : Text) → first_value (found_of m) id ≡ first_of id (matches_of option_app words) =
    λ id. first_value-rows (found_of m) id ∙ ap (first_of id) rows in
    let all_of_rows : (id : Text) → option_map raw_values (matched_of (found_of m) id)
    ≡ all_of id (matches_of option_app words) =
    λ id. raw_values-rows (found_of m) id ∙ ap (λ (r : List Row). all_of id r) rows in
    let first_is = is_first ∙ of_rows (codes "first") in
    let second_is = is_second ∙ of_rows (codes "second") in
    let keep_is = is_keep ∙ all_of_rows (codes "keep") in
    let maps_is = is_maps ∙ all_of_rows (codes "map") in
    let from_is = is_from ∙ of_rows (codes "from") in
    let to_is = is_to ∙ of_rows (codes "to") in
    let within_is = is_within ∙ of_rows (codes "within") in
    let strict_is = is_strict ∙ ap is_given (of_rows (codes "strict")) in
    let json_is = is_json ∙ ap is_given (of_rows (codes "json")) in
    λ i. record {
      first = first_is i;
      second = second_is i;
      keep = keep_is i;
      maps = maps_is i;
      from = from_is i;
      to = to_is i;
      within = within_is i;
      is_strict = strict_is i;
      is_json = json_is i;
    }
