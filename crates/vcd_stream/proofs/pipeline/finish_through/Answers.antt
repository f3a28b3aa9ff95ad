use Rattle.std.proofs.Common.{◌++◌, ap, ◌∙◌}
use Rattle.vcd_stream.specs.Stages.{all_seen, given}
use Rattle.vcd_stream.proofs.shared.Pipelines.{finish_one, finished_all}
use Rattle.vcd_stream.proofs.pipeline.finish_through.Goals as goal

pub loop-i-preserved : goal.loop-i-preserved
loop-i-preserved g c =
    let l = c.loop-i in
    let letters = g.V.Letters.letters c.args.width in
    finish_one letters c.args.stages.now l.i c.index-stages-i.result c.in_ok-stage.stage
    (all_seen letters l.batch.items) (all_seen letters c.take_all.new.out.items)
    (all_seen letters c.swap.new.x.items) c.loop-i-test.true
    c.index-stages-i.is
    (λ rest. c.in_ok-stage.ensures rest
    ∙ (λ i. all_seen letters (c.clear.ensures.items i)
    ++ given letters c.index-stages-i.result (all_seen letters (c.as_slice.ensures.value i) ++ rest)))
    (ap (λ out. all_seen letters out.items) c.swap.ensures.x_after ∙ c.in_ok-finish.ensures) ∙ l.invariant

pub returns : goal.returns
returns g c =
    let l = c.loop-i in
    let letters = g.V.Letters.letters c.args.width in
    finished_all letters c.args.stages.now l.i (all_seen letters l.batch.items)
    (all_seen letters c.args.batch.now.items) c.loop-i-test.false l.invariant
