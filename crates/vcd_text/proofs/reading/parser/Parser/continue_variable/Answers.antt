use Rattle.vcd_text.proofs.reading.declarations.DeclarationWords.{continues_variable}
use Rattle.vcd_text.proofs.reading.parser.Parser.continue_variable.Goals as goal

pub returns : goal.returns
returns c line = continues_variable c.args.self.now c.push_copy.new.words c.args.text.now c.requires.item
    c.in_ok-push_copy.ensures c.requires.word line
