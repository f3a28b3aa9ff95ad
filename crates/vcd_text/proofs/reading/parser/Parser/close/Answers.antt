use Rattle.vcd_text.proofs.reading.declarations.DeclarationWords.{ends_early}
use Rattle.vcd_text.proofs.reading.parser.Parser.close.Goals as goal

pub returns-in-Variable : goal.returns-in-Variable
returns-in-Variable c = λ line. ends_early c.args.self.now c.args.self.now c.in-Variable.is line
