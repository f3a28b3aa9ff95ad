use Rattle.std.proofs.Common.{sym, ◌∙◌}
use Rattle.vcd_text.proofs.reading.changes.ChangeWords.{takes_dump_word, declares_late}
use Rattle.vcd_text.proofs.reading.parser.Parser.take_command.Goals as goal

pub returns-then-is_dump_word : goal.returns-then-is_dump_word
returns-then-is_dump_word c line = takes_dump_word c.args.self.now c.args.text.now line c.requires.between
    c.requires.in_body (sym c.is_dump_word.ensures ∙ c.if-is_dump_word.true)

pub returns-then-is_declaration_word : goal.returns-then-is_declaration_word
returns-then-is_declaration_word c line = declares_late c.args.self.now c.args.self.now c.args.text.now line
    c.requires.between c.requires.in_body (sym c.is_declaration_word.ensures ∙ c.if-is_declaration_word.true)
