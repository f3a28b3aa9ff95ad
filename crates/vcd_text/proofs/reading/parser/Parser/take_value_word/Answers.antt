use Rattle.std.proofs.Common.{sym, ◌∙◌}
use Rattle.vcd_text.proofs.reading.changes.ChangeWords.{begins_nothing}
use Rattle.vcd_text.proofs.reading.parser.Parser.take_value_word.Goals as goal

pub returns-then-is_real_or_string_prefix : goal.returns-then-is_real_or_string_prefix
returns-then-is_real_or_string_prefix c = c.take_real_or_string.ensures c.args.first c.args.rest.now
    (sym c.is_real_or_string_prefix.ensures ∙ c.if-is_real_or_string_prefix.true)

pub returns-else-is_real_or_string_prefix : goal.returns-else-is_real_or_string_prefix
returns-else-is_real_or_string_prefix c = begins_nothing c.args.self.now c.args.self.now c.args.first c.args.rest.now
    c.args.line c.requires.between c.requires.in_body c.requires.value (sym c.is_binary_digit.ensures
    ∙ c.if-is_binary_digit.false) (sym c.is_vector_prefix.ensures ∙ c.if-is_vector_prefix.false)
    (sym c.is_real_or_string_prefix.ensures ∙ c.if-is_real_or_string_prefix.false)
