use Rattle.std.proofs.Common.{◌≡◌, ◌++◌, List, drop, take}
use Rattle.vcd_core.specs.declared.wave.Change.{Change}
use Rattle.vcd_stream.specs.Stages.{all_seen, given_by_all}
use Rattle.vcd_stream.proofs.pipeline.take_through.Given as goal

-- the stages that took nothing yet go on with what the others give
abbrev pub invariant-loop-i : goal.invariant-loop-i
invariant-loop-i g l =
    let letters = g.V.Letters.letters l.fn.width in
    record {
      left : drop l.i l.stages ≡ drop l.i l.initial.stages;
      same : (more : List Change) → given_by_all letters (drop l.i l.initial.stages)
          (all_seen letters l.batch.items ++ given_by_all letters (take l.i l.stages) more)
          ≡ given_by_all letters l.initial.stages (all_seen letters l.fn.batch.items ++ more);
    }
