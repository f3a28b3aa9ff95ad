use Rattle.vcd_text.proofs.reading.declarations.DeclarationWords.{closes_other}
use Rattle.vcd_text.proofs.reading.parser.Parser.close_other.Goals as goal

pub returns : goal.returns
returns c = closes_other c.args.self.now c.requires
