use Rattle.std.proofs.Common.{◌≢◌, get_or, rules}
use Rattle.vcd_script.proofs.script.ParsedNumbers.{parsed_number}
use Rattle.vcd_script.proofs.script.numbers.number_of_word.Goals as goal
use Rattle.vcd_script.proofs.script.numbers.number_of_word.Goals.{in_default-via-then-word-lt1}
use Rattle.vcd_script.proofs.script.numbers.number_of_word.Goals.{in_default-via-else-word-lt1+in_default-1}

pub returns-in_ok-text_of-in_default : goal.returns-in_ok-text_of-in_default
returns-in_ok-text_of-in_default c =
    let plain : get_or c.args.word.now 0 0 ≢ 43 = elim c.in_default.branch [
      | in_default-via-then-word-lt1 w ↦ search rules
      | in_default-via-else-word-lt1+in_default-1 w ↦ search rules
    ] in
    let read = rw c.in_ok-text_of-in_default.ensures.text at c.parse.ensures.value in
    parsed_number c.args.word.now c.parse.result c.map_err.result read.0 plain (search rules)
