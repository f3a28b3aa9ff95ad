use Rattle.std.proofs.Common.{sym, ◌∙◌}
use Rattle.vcd_text.proofs.reading.changes.ChangeWords.{ends_real_or_string, unknown_real_or_string}
use Rattle.vcd_text.proofs.reading.parser.Parser.take_real_or_string_code.Goals as goal

pub returns-then-not-has_code : goal.returns-then-not-has_code
returns-then-not-has_code c line = unknown_real_or_string c.args.self.now c.args.self.now c.args.code.now line
    c.requires.item (λ d knows. sym (c.has_code.ensures d knows) ∙ c.if-not-has_code.true)

pub returns : goal.returns
returns c line = ends_real_or_string c.args.self.now c.args.code.now line c.requires.item
    (λ d knows. sym (c.has_code.ensures d knows) ∙ c.if-not-has_code.false)
