use Rattle.std.proofs.Common.{◌++◌, sym, ap, ◌∙◌, arith}
use Rattle.std.proofs.lemmas.Result.{on_ok_weaker}
use Rattle.vcd_text.proofs.reading.change_listener.HeardItems.{scalar_parts}
use Rattle.vcd_text.proofs.reading.change_listener.hear_scalar.Goals as goal

pub returns-else-not-is_binary_digit : goal.returns-else-not-is_binary_digit
returns-else-not-is_binary_digit c = on_ok_weaker c.hear_value.result (λ hears asked s first at knows.
    hears asked s at knows ∙ ap (λ hs. c.args.heard.now ++ hs) (scalar_parts s first c.args.text.now (omega arith)
    (sym c.is_binary_digit.ensures ∙ c.if-not-is_binary_digit.false))) c.hear_value.ensures
