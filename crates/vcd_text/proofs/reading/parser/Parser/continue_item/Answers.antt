use Rattle.vcd_text.proofs.reading.declarations.DeclarationWords.{passes_over, shows_no_end}
use Rattle.vcd_text.proofs.reading.parser.Parser.continue_item.Goals as goal

pub returns-in-Upscope : goal.returns-in-Upscope
returns-in-Upscope c = shows_no_end c.args.self.now c.args.self.now c.args.text.now c.in-Upscope.is c.requires.word

pub returns-in-Other : goal.returns-in-Other
returns-in-Other c = passes_over c.args.self.now c.args.text.now c.in-Other.is c.requires.word
