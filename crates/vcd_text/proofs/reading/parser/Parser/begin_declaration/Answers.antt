use Rattle.std.proofs.Common.{arith}
use Rattle.vcd_text.proofs.reading.declarations.DeclarationWords.{shows_no_declaration, shows_upscope_at_top}
use Rattle.vcd_text.proofs.reading.parser.Parser.begin_declaration.Goals as goal

pub returns-in_default : goal.returns-in_default
returns-in_default c = shows_no_declaration c.args.self.now c.args.self.now c.args.text.now c.requires.between
    c.requires.in_declarations (search arith)

pub returns-then-self-eq0 : goal.returns-then-self-eq0
returns-then-self-eq0 c = shows_upscope_at_top c.args.self.now c.args.self.now c.args.text.now c.requires.between
    c.requires.in_declarations (search arith) (search arith)
