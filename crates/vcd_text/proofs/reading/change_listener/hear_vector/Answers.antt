use Rattle.std.proofs.Common.{◌++◌, ap, ◌∙◌, arith}
use Rattle.std.proofs.lemmas.Result.{on_ok_weaker}
use Rattle.vcd_text.proofs.reading.change_listener.HeardItems.{vector_parts}
use Rattle.vcd_text.proofs.reading.change_listener.hear_vector.Goals as goal

pub returns-in-len1-up : goal.returns-in-len1-up
returns-in-len1-up c = on_ok_weaker c.hear_value.result (λ hears asked s at knows. hears asked s at knows
    ∙ ap (λ hs. c.args.heard.now ++ hs) (vector_parts s c.args.first_word.now c.args.code.now (omega arith)))
    c.hear_value.ensures
