use Rattle.std.proofs.Common.{◌∙◌, sym, subst}
use Rattle.vcd_copy.specs.Marks.{with_mark}
use Rattle.vcd_copy.specs.MarkText.{comment_of_mark}
use Rattle.vcd_copy.proofs.marks.MarkedItems.{plain_next}
use Rattle.vcd_copy.proofs.marking.marked.MarkedAmender.settle.Goals as goal

pub settle-requires : goal.settle-requires
settle-requires g c =
    let (limit, before, p, seen, shown) = c.requires in
    let plain = plain_next c.args.self.now.mark _ limit before p c.args.item c.args.code.now p.space p.body
    c.mark_before.ensures c.in-None.is shown in (
      limit,
      with_mark (comment_of_mark c.args.self.now.mark) before,
      p,
      seen,
      plain.shown c.args.item c.args.code.now p.space p.body shown,
    )

pub returns-in-None-clause-stands : goal.returns-in-None-clause-stands
returns-in-None-clause-stands g c = λ itself limit before p seen shown.
    let plain = plain_next c.args.self.now.mark _ limit before p c.args.item c.args.code.now p.space p.body
    c.mark_before.ensures c.in-None.is shown in
    let (text, later) = c.settle.ensures.stands itself limit
    (with_mark (comment_of_mark c.args.self.now.mark) before) p seen
    (plain.shown c.args.item c.args.code.now p.space p.body shown) in (
      plain.in_place (g.A.Amender.rules (g.A.Amender.given c.args.self.now.amender)) ∙ text,
      subst (g.A.Amender.has_seen c.settle.new.self) (sym plain.more) later,
    )

pub returns-in-None-clause-goes : goal.returns-in-None-clause-goes
returns-in-None-clause-goes g c = λ nothing limit before p seen shown.
    let plain = plain_next c.args.self.now.mark _ limit before p c.args.item c.args.code.now p.space p.body
    c.mark_before.ensures c.in-None.is shown in
    let (text, later) = c.settle.ensures.goes nothing limit
    (with_mark (comment_of_mark c.args.self.now.mark) before) p seen
    (plain.shown c.args.item c.args.code.now p.space p.body shown) in (
      plain.in_place (g.A.Amender.rules (g.A.Amender.given c.args.self.now.amender)) ∙ text,
      subst (g.A.Amender.has_seen c.settle.new.self) (sym plain.more) later,
    )
