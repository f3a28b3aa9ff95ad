use Rattle.std.proofs.Common.{sym, ap, subst, ◌∙◌}
use Rattle.vcd_core.specs.CaptureContents.{contents}
use Rattle.vcd_core.specs.Outline.{outline}
use Rattle.vcd_core.specs.Sound.{IsSound}
use Rattle.vcd_core.proofs.shared.Outlines.{outline_is_sound}
use Rattle.vcd_amend_run.proofs.running.try_lines.Goals as goal

pub dry_run-requires-clause-sound : goal.dry_run-requires-clause-sound
dry_run-requires-clause-sound c =
    subst IsSound (sym (c.in_ok-outline.ensures ∙ ap outline c.in_ok-kept.ensures.1))
    (outline_is_sound (contents c.args.hollow.capture) c.requires.sound)
