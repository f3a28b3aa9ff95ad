use Rattle.vcd_text.proofs.reading.parser.Parser.continue_entry.Goals as goal
use Rattle.vcd_text.proofs.reading.declarations.DeclarationWords.{continues_entry}

pub returns : goal.returns
returns c line = continues_entry c.args.self.now c.args.kind c.push.new.self c.args.text.now c.requires.item
    c.in_ok-push.ensures c.requires.word line
