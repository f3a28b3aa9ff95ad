use Rattle.std.proofs.Common.{ap, ◌∙◌}
use Rattle.vcd_compare.specs.declared.side.Side.{Side}
use Rattle.vcd_compare.proofs.walk.Taken.{last_stays}
use Rattle.vcd_compare.proofs.walk.Walk.take_changes.Goals as goal

pub loop-which-smaller : goal.loop-which-smaller
loop-which-smaller c =
    c.in_ok-take.ensures.fewer c.args.most (c.in-Some.ensures.next c.args.most c.loop-which.invariant.last)

pub loop-which-preserved : goal.loop-which-preserved
loop-which-preserved c =
    let old = c.loop-which.self in
    let new = c.take.new.self in
    let so_far = c.loop-which.invariant in
    let taken = c.in_ok-take.ensures in
    record {
      at = λ coming other left other_left s t start at. taken.at coming other left other_left s t start c.args.most
          (so_far.at coming other left other_left s t start at) (c.in-Some.ensures.next c.args.most so_far.last);
      first = taken.first ∙ ap (λ (side : Side). record side { taken = new.first.taken }) so_far.first;
      second = taken.second ∙ ap (λ (side : Side). record side { taken = new.second.taken }) so_far.second;
      last = last_stays c.args.most c.last-last.result new.first.taken new.second.taken old new taken.first
          taken.second so_far.last;
    }
