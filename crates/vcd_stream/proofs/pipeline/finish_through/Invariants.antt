use Rattle.std.proofs.Common.{◌≡◌, drop}
use Rattle.vcd_stream.specs.Stages.{all_seen, given_by_all}
use Rattle.vcd_stream.proofs.pipeline.finish_through.Given as goal

-- the stages that are left go on with what the others gave
abbrev pub invariant-loop-i : goal.invariant-loop-i
invariant-loop-i g l =
    let letters = g.V.Letters.letters l.fn.width in
    given_by_all letters (drop l.i l.stages) (all_seen letters l.batch.items)
    ≡ given_by_all letters l.stages (all_seen letters l.fn.batch.items)
