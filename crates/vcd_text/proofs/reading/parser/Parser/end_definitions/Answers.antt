use Rattle.vcd_text.proofs.reading.declarations.DeclarationWords.{begins_part}
use Rattle.vcd_text.proofs.reading.parser.Parser.end_definitions.Goals as goal

pub returns-clause-begins : goal.returns-clause-begins
returns-clause-begins c =
    let m = c.args.self.now in
    begins_part m c.args.part c.in_ok-silent.silent c.requires (rw c.as_slice.ensures.value at c.in_ok-silent.ensures)
