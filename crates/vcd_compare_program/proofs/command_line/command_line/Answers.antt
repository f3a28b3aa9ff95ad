-- The program is that of its name and settings, with the options.
use Rattle.std.proofs.Common.{◌≡◌, ◌∙◌, ap, rules, codes, true}
use Rattle.std.proofs.lemmas.Result.{IfOk-weaker}
use Rattle.clap.specs.Words.{app_of, new_app}
use Rattle.vcd_compare_program.specs.CommandLine.{with_captures, with_times}
use Rattle.vcd_compare_program.proofs.command_line.command_line.Goals as goal

pub returns : goal.returns
returns c =
    let bare : app_of c.after_help-program.result ≡ record (new_app (codes "vcdedit-compare")) {
      top =
          record (new_app (codes "vcdedit-compare")).top { no_binary_name = true; has_version = true };
    } = search rules in
    IfOk-weaker c.with_times.result _ _ (λ d is. is
    ∙ ap with_times (c.in_ok-with_captures.ensures ∙ ap with_captures bare)) c.with_times.ensures
