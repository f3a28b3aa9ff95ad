use Rattle.vcd_text.proofs.reading.declarations.DeclarationWords.{closes_upscope}
use Rattle.vcd_text.proofs.reading.parser.Parser.close_upscope.Goals as goal

pub returns : goal.returns
returns c = closes_upscope c.args.self.now c.leave.new.self c.requires c.leave.ensures.opened c.leave.ensures.places
