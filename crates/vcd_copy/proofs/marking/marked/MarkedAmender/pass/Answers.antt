use Rattle.std.proofs.Common.{sym, subst}
use Rattle.vcd_copy.specs.Marks.{with_mark}
use Rattle.vcd_copy.specs.MarkText.{comment_of_mark}
use Rattle.vcd_copy.proofs.marks.MarkedItems.{comment_is_mark, none_before_other, one_more_plain, next_marked}
use Rattle.vcd_copy.proofs.marking.marked.MarkedAmender.pass.Goals as goal

pub returns-clause-seen : goal.returns-clause-seen
returns-clause-seen g c = λ limit before p seen next stands free.
    let mark = comment_of_mark c.args.self.now.mark in
    let none = none_before_other mark p.item stands in
    subst (g.A.Amender.has_seen c.pass.new.self) (sym (one_more_plain mark limit before p none))
    (c.pass.ensures.seen limit (with_mark mark before) p seen
    (next_marked mark limit before p none (comment_is_mark c.args.self.now.mark) p.space p.body next) stands free)
