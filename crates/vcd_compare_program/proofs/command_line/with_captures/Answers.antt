-- One argument after another is added.
use Rattle.std.proofs.Common.{◌∙◌, ap₂, refl}
use Rattle.std.proofs.lemmas.Result.{IfOk-weaker}
use Rattle.clap.specs.Words.{with_rule}
use Rattle.vcd_compare_program.proofs.command_line.with_captures.Goals as goal

pub returns : goal.returns
returns c =
    let one = c.in_ok-arg.ensures.shape c.capture_argument.ensures.local
    ∙ ap₂ with_rule refl c.capture_argument.ensures.rule in
    let two = c.in_ok-arg-2.ensures.shape c.capture_argument-2.ensures.local
    ∙ ap₂ with_rule one c.capture_argument-2.ensures.rule in
    let three = c.in_ok-arg-3.ensures.shape c.list_option.ensures.local
    ∙ ap₂ with_rule two c.list_option.ensures.rule in
    IfOk-weaker c.arg-4.result _ _ (λ d added. added.shape c.list_option-2.ensures.local
    ∙ ap₂ with_rule three c.list_option-2.ensures.rule) c.arg-4.ensures
