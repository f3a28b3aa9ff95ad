use Rattle.std.proofs.Common.{sym, ap, subst, ◌∙◌}
use Rattle.vcd_core.specs.CaptureContents.{contents}
use Rattle.vcd_core.specs.Outline.{outline}
use Rattle.vcd_core.specs.Sound.{IsSound}
use Rattle.vcd_core.proofs.shared.Outlines.{outline_is_sound, outline_of_outline}
use Rattle.vcd_amend_run.proofs.hearing.hear_all.Goals as goal

pub returns-clause-outline : goal.returns-clause-outline
returns-clause-outline g c =
    c.in_ok-capture.ensures.outline ∙ ap outline c.in_ok-outline.ensures ∙ outline_of_outline (contents c.args.hollow)

pub returns-clause-sound : goal.returns-clause-sound
returns-clause-sound g c = λ sound.
    c.in_ok-capture.ensures.sound
    (subst IsSound (sym c.in_ok-outline.ensures) (outline_is_sound (contents c.args.hollow) sound))
