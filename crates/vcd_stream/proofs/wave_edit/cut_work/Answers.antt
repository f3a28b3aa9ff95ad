use Rattle.std.proofs.Common.{ap}
use Rattle.vcd_stream.specs.Stages.{made_changes, replaced_changes}
use Rattle.vcd_stream.proofs.wave_edit.cut_work.Goals as goal

pub returns : goal.returns
unfolding made_changes
returns g c = λ width cs.
    let x = g.V.Letters.letters width c.args.x in
    ap (λ n. replaced_changes (record { from = c.args.from; until = c.args.from; by = n; end = c.args.end }) x x cs)
    c.saturating_sub.ensures
