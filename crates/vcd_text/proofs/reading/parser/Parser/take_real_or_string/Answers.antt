use Rattle.vcd_text.proofs.reading.changes.ChangeWords.{begins_real_or_string}
use Rattle.vcd_text.proofs.reading.parser.Parser.take_real_or_string.Goals as goal

pub returns : goal.returns
returns c first text is =
    begins_real_or_string c.args.self.now first text c.args.line c.requires.between c.requires.in_body is
