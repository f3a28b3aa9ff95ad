use Rattle.std.proofs.Common.{◌≡◌, rules, sym, ap, ◌∙◌, Err}
use Rattle.vcd_script.proofs.script.ParsedNumbers.{no_distance, parsed_distance}
use Rattle.vcd_script.proofs.script.numbers.distance_of_word.Goals as goal

pub returns-in_err-text_of : goal.returns-in_err-text_of
returns-in_err-text_of c =
    let same : c.from_residual.result ≡ Err c.in_err-text_of.field-0.0 = search rules in
    same ∙ ap Err c.in_err-text_of.ensures.fault.0 ∙ sym (no_distance c.args.word.now c.in_err-text_of.ensures.fault.1)

pub returns : goal.returns
returns c =
    let read = rw c.in_ok-text_of.ensures.text at c.parse.ensures.value in
    parsed_distance c.args.word.now c.parse.result c.map_err.result read.0 (search rules)
