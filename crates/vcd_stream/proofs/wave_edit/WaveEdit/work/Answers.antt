use Rattle.std.proofs.Common.{sym, ap, subst, ◌∙◌}
use Rattle.vcd_stream.specs.declared.wave_edit.WaveEdit.{WaveEdit}
use Rattle.vcd_stream.specs.Stages.{made_changes, replaced_changes}
use Rattle.vcd_stream.specs.WaveEdits.{IsAllowed}
use Rattle.vcd_stream.specs.inside.WaveEdits.{made_by, forced_ticks}
use Rattle.vcd_stream.proofs.wave_edit.WaveEdit.work.Goals as goal

pub returns-in-Invert : goal.returns-in-Invert
unfolding made_changes
returns-in-Invert g c = λ cs.
    ap (λ (e : WaveEdit). made_by e c.args.end (g.V.Letters.letters c.args.width c.args.x) cs) (sym c.in-Invert.is)

pub returns-in-Deglitch : goal.returns-in-Deglitch
unfolding made_changes
returns-in-Deglitch g c = λ cs.
    ap (λ (e : WaveEdit). made_by e c.args.end (g.V.Letters.letters c.args.width c.args.x) cs) (sym c.in-Deglitch.is)

pub returns-in-Force : goal.returns-in-Force
unfolding made_changes
returns-in-Force g c = λ cs.
    let x = g.V.Letters.letters c.args.width c.args.x in
    let wide = (subst (λ (e : WaveEdit). IsAllowed c.args.end c.args.width e) c.in-Force.is c.requires.allowed).2 in
    ap (λ v. replaced_changes (forced_ticks c.in-Force.from c.in-Force.to c.args.end) v x cs)
    (ap (λ w. g.V.Letters.letters w c.of_value.result) (sym wide) ∙ c.of_value.ensures)
    ∙ ap (λ (e : WaveEdit). made_by e c.args.end x cs) (sym c.in-Force.is)
