use Rattle.std.proofs.Common.{◌++◌, ap, ◌∙◌}
use Rattle.std.proofs.lemmas.Result.{on_ok_weaker}
use Rattle.vcd_text.specs.inside.reading.ChangeListener.{heard_at_end}
use Rattle.vcd_text.specs.declared.reading.parser.OpenItem.TheVariants as items
use Rattle.vcd_text.proofs.reading.change_listener.ChangeListener.hear_item.Goals as goal

pub returns-in-Nothing-clause-heard : goal.returns-in-Nothing-clause-heard
returns-in-Nothing-clause-heard c = on_ok_weaker c.hear_scalar.result (λ hears asked s at knows.
    rw c.in-Nothing.is (hears asked s c.args.self.now.first_word.items at knows)) c.hear_scalar.ensures

pub returns-in-Vector-clause-heard : goal.returns-in-Vector-clause-heard
returns-in-Vector-clause-heard c = on_ok_weaker c.hear_vector.result (λ hears asked s at knows. rw c.in-Vector.is
    (hears asked s at knows ∙ ap (λ first. c.args.self.now.heard ++ heard_at_end items.Vector s first c.args.text.now)
    c.as_slice-first_word.ensures.value)) c.hear_vector.ensures

pub returns-in-RealOrString-clause-heard : goal.returns-in-RealOrString-clause-heard
returns-in-RealOrString-clause-heard c = on_ok_weaker c.hear_real_or_string.result (λ hears asked s at knows.
    rw c.in-RealOrString.is (hears asked s at knows
    ∙ ap (λ first. c.args.self.now.heard ++ heard_at_end items.RealOrString s first c.args.text.now)
    c.as_slice-first_word.ensures.value)) c.hear_real_or_string.ensures
