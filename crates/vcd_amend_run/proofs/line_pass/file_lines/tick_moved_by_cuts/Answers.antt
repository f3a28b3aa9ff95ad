use Rattle.std.proofs.Common.{◌∙◌, ◌+◌, sym, ap, drop, arith, List}
use Rattle.std.proofs.lemmas.List.{drop_all, drop_more}
use Rattle.vcd_amend.specs.declared.cut_ticks.CutTicks.{CutTicks}
use Rattle.vcd_amend_run.specs.inside.FileLines.{tick_moved_by_cuts}
use Rattle.vcd_amend_run.proofs.line_pass.file_lines.tick_moved_by_cuts.Goals as goal

pub loop-cut-preserved : goal.loop-cut-preserved
unfolding tick_moved_by_cuts
loop-cut-preserved c =
    let cuts : List CutTicks = c.args.cuts.now in
    let k = c.loop-cut.cut-index in
    ap (tick_moved_by_cuts (drop (k + 1) cuts)) c.tick_moved_by_cut-moved.ensures
    ∙ ap (λ (l : List CutTicks). tick_moved_by_cuts l c.loop-cut.moved)
    (sym (drop_more cuts k (record { from = 0; to = 0 }) (omega arith)))
    ∙ c.loop-cut.invariant

pub returns : goal.returns
unfolding tick_moved_by_cuts
returns c =
    ap (λ (l : List CutTicks). tick_moved_by_cuts l c.loop-cut.moved)
    (sym (drop_all c.loop-cut.cut-index c.args.cuts.now (omega arith)))
    ∙ c.loop-cut.invariant
