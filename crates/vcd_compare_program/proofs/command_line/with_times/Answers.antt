-- One option after another is added.
use Rattle.std.proofs.Common.{◌∙◌, ap₂, refl}
use Rattle.std.proofs.lemmas.Result.{IfOk-weaker}
use Rattle.clap.specs.Words.{with_rule}
use Rattle.vcd_compare_program.proofs.command_line.with_times.Goals as goal

pub returns : goal.returns
returns c =
    let one = c.in_ok-arg.ensures.shape c.value_option.ensures.local ∙ ap₂ with_rule refl c.value_option.ensures.rule in
    let two = c.in_ok-arg-2.ensures.shape c.value_option-2.ensures.local
    ∙ ap₂ with_rule one c.value_option-2.ensures.rule in
    let three = c.in_ok-arg-3.ensures.shape c.value_option-3.ensures.local
    ∙ ap₂ with_rule two c.value_option-3.ensures.rule in
    let four = c.in_ok-arg-4.ensures.shape c.flag.ensures.local ∙ ap₂ with_rule three c.flag.ensures.rule in
    IfOk-weaker c.arg-5.result _ _ (λ d added. added.shape c.flag-2.ensures.local
    ∙ ap₂ with_rule four c.flag-2.ensures.rule) c.arg-5.ensures
