use Rattle.std.proofs.Common.{sym, ap, subst, ◌∙◌}
use Rattle.vcd_core.specs.Value.{all_x}
use Rattle.vcd_edit.specs.inside.plans.RemainingChanges.{without_repeats}
use Rattle.vcd_stream.specs.Stages.{given}
use Rattle.vcd_stream.specs.WaveEdits.{IsAllowed}
use Rattle.vcd_stream.specs.inside.WaveEdits.{made_by}
use Rattle.vcd_stream.proofs.shared.EditedWaves.{made_by_is}
use Rattle.vcd_stream.proofs.wave_edit.WaveEdit.stage.Goals as goal

pub returns : goal.returns
unfolding given
returns g c = λ s wide is upto.
    let x = c.x_value-x.ensures ∙ ap all_x (sym wide) in
    ap (without_repeats _) (c.work.ensures s.changes)
    ∙ ap (λ v. without_repeats v (made_by c.args.self.now c.args.end v s.changes)) x
    ∙ made_by_is c.args.self.now c.args.end s
    (subst (λ w. IsAllowed c.args.end w c.args.self.now) (sym wide) c.requires.allowed) is upto
