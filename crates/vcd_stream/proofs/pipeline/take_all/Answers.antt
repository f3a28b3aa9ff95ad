use Rattle.vcd_stream.proofs.shared.Pipelines.{took_one, took_all}
use Rattle.vcd_stream.proofs.pipeline.take_all.Goals as goal

pub loop-change-preserved : goal.loop-change-preserved
loop-change-preserved g c =
    let l = c.loop-change in
    took_one (g.V.Letters.letters c.args.width) l.out.items c.args.out.now.items c.take.new.out.items l.now
    c.in_ok-now.now c.args.stage c.args.changes.now l.change-index c.change-item.result c.loop-change-test.true
    c.change-item.is c.in_ok-now.ensures l.invariant

pub returns : goal.returns
returns g c =
    let l = c.loop-change in
    took_all (g.V.Letters.letters c.args.width) l.out.items c.args.out.now.items l.now c.args.stage c.args.changes.now
    l.change-index c.loop-change-test.false l.invariant
