-- The program is that of its name and settings, with the options.
use Rattle.std.proofs.Common.{◌≡◌, ◌∙◌, ap, rules, codes, true}
use Rattle.std.proofs.lemmas.Result.{IfOk-weaker}
use Rattle.clap.specs.Words.{app_of, new_app}
use Rattle.vcd_amend_program.specs.CommandLine.{with_options, with_part}
use Rattle.vcd_amend_program.proofs.command_line.command_line.Goals as goal

pub returns : goal.returns
returns c =
    let bare : app_of c.after_help-program.result ≡ record (new_app (codes "vcdedit-amend")) {
      top =
          record (new_app (codes "vcdedit-amend")).top { no_binary_name = true; has_version = true };
    } = search rules in
    IfOk-weaker c.with_part.result _ _ (λ d is. is
    ∙ ap with_part (c.in_ok-with_options.ensures ∙ ap with_options bare)) c.with_part.ensures
