use Rattle.std.proofs.Common.{◌≡◌, ◌++◌, List, drop}
use Rattle.vcd_core.specs.declared.wave.Change.{Change}
use Rattle.vcd_stream.specs.Stages.{all_seen, given}
use Rattle.vcd_stream.proofs.pipeline.take_all.Given as goal

-- what was given, and what is to be given for the changes that are left
abbrev pub invariant-loop-change : goal.invariant-loop-change
invariant-loop-change g l =
    let letters = g.V.Letters.letters l.fn.width in
    (more : List Change)
    → all_seen letters l.out.items ++ given letters l.now (all_seen letters (drop l.change-index l.changes) ++ more)
    ≡ all_seen letters l.fn.out.items ++ given letters l.fn.stage (all_seen letters l.changes ++ more)
