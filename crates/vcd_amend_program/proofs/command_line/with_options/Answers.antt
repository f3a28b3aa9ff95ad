-- One option after another is added.
use Rattle.std.proofs.Common.{◌∙◌, ap₂, refl}
use Rattle.std.proofs.lemmas.Result.{IfOk-weaker}
use Rattle.clap.specs.Words.{with_rule}
use Rattle.vcd_amend_program.proofs.command_line.with_options.Goals as goal

pub returns : goal.returns
returns c =
    let one = c.in_ok-arg.ensures.shape c.file_option.ensures.local ∙ ap₂ with_rule refl c.file_option.ensures.rule in
    let two = c.in_ok-arg-2.ensures.shape c.script_option.ensures.local
    ∙ ap₂ with_rule one c.script_option.ensures.rule in
    let three = c.in_ok-arg-3.ensures.shape c.output_option.ensures.local
    ∙ ap₂ with_rule two c.output_option.ensures.rule in
    let four = c.in_ok-arg-4.ensures.shape c.flag.ensures.local ∙ ap₂ with_rule three c.flag.ensures.rule in
    let five = c.in_ok-arg-5.ensures.shape c.flag-2.ensures.local ∙ ap₂ with_rule four c.flag-2.ensures.rule in
    let six = c.in_ok-arg-6.ensures.shape c.value_option.ensures.local
    ∙ ap₂ with_rule five c.value_option.ensures.rule in
    let seven = c.in_ok-arg-7.ensures.shape c.depth_option.ensures.local
    ∙ ap₂ with_rule six c.depth_option.ensures.rule in
    let eight = c.in_ok-arg-8.ensures.shape c.quiet_option.ensures.local
    ∙ ap₂ with_rule seven c.quiet_option.ensures.rule in
    IfOk-weaker c.arg-9.result _ _ (λ d added. added.shape c.capture_argument.ensures.local
    ∙ ap₂ with_rule eight c.capture_argument.ensures.rule) c.arg-9.ensures
