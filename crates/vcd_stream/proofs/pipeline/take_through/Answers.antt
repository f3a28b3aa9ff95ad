use Rattle.std.proofs.Common.{◌++◌, ◌<◌, ◌≤◌, length, refl, sym, ◌∙◌, arith}
use Rattle.vcd_stream.specs.Stages.{all_seen, given, given_by_all}
use Rattle.vcd_stream.proofs.shared.Pipelines.{left_more, through_one, through_all}
use Rattle.vcd_stream.proofs.pipeline.take_through.Goals as goal

pub loop-i-init : goal.loop-i-init
unfolding given_by_all
loop-i-init g c = record { left = refl; same = λ more. refl }

pub loop-i-preserved : goal.loop-i-preserved
loop-i-preserved g c =
    let l = c.loop-i in
    let letters = g.V.Letters.letters c.args.width in
    let within : l.i < length l.stages = omega arith in
    record {
      left = left_more letters c.args.stages.now l.stages l.i within l.invariant.left c.index-stages-i.result
          c.in_ok-stages.field-0 c.index-stages-i.is;
      same = λ more. through_one letters c.args.stages.now l.stages l.i within l.invariant.left c.index-stages-i.result
          c.in_ok-stages.field-0 c.index-stages-i.is (all_seen letters l.batch.items)
          (all_seen letters c.swap.new.x.items)
          (λ rest. (λ i. all_seen letters (c.swap.ensures.x_after i).items ++ given letters c.in_ok-stages.field-0 rest)
          ∙ c.in_ok-stages.ensures rest
          ∙ (λ i. all_seen letters (c.clear.ensures.items i)
          ++ given letters c.index-stages-i.result (all_seen letters (c.as_slice.ensures.value i) ++ rest))) more
          ∙ l.invariant.same more;
    }

pub returns : goal.returns
returns g c = λ more.
    let l = c.loop-i in
    let letters = g.V.Letters.letters c.args.width in
    let past : length l.stages ≤ l.i = omega arith in
    sym (through_all letters c.args.stages.now l.stages l.i (all_seen letters l.batch.items) more past l.invariant.left)
    ∙ l.invariant.same more
