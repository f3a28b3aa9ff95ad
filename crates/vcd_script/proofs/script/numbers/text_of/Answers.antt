use Rattle.std.proofs.Common.{rules}
use Rattle.vcd_script.proofs.script.ParsedNumbers.{no_text}
use Rattle.vcd_script.proofs.script.numbers.text_of.Goals as goal

pub returns-clause-fault : goal.returns-clause-fault
returns-clause-fault c =
    no_text c.args.word.now c.from_utf8.result c.map_err.result c.from_utf8.ensures.cases (search rules)
