-- What `clap` reads of the program is that of its name and settings, with one option after another.
use Rattle.std.proofs.Common.{◌≡◌, ◌∙◌, ap₂, rules, codes, true}
use Rattle.std.proofs.lemmas.Result.{IfOk-weaker}
use Rattle.clap.specs.Words.{app_of, new_app, with_rule}
use Rattle.vcdedit.proofs.command_line.command_line.Goals as goal

pub returns : goal.returns
returns c =
    let bare : app_of c.after_help-program.result ≡ record (new_app (codes "vcdedit")) {
      top =
          record (new_app (codes "vcdedit")).top { no_binary_name = true; has_version = true };
    } = search rules in
    let one = c.in_ok-arg.ensures.shape c.input_option.ensures.local ∙ ap₂ with_rule bare c.input_option.ensures.rule in
    let two = c.in_ok-arg-2.ensures.shape c.script_option.ensures.local
    ∙ ap₂ with_rule one c.script_option.ensures.rule in
    let three = c.in_ok-arg-3.ensures.shape c.output_option.ensures.local
    ∙ ap₂ with_rule two c.output_option.ensures.rule in
    IfOk-weaker c.arg-4.result _ _ (λ d added. added.shape c.depth_option.ensures.local
    ∙ ap₂ with_rule three c.depth_option.ensures.rule) c.arg-4.ensures
