use Rattle.std.proofs.Common.{sym, ap, subst}
use Rattle.std.proofs.lemmas.Result.{on_ok_weaker, on_err_weaker}
use Rattle.vcd_copy.specs.Marks.{with_mark}
use Rattle.vcd_copy.specs.MarkText.{comment_of_mark}
use Rattle.vcd_text.proofs.shared.EmittedParts.{writes_as, writes_both, writes_more, more_both}
use Rattle.vcd_copy.proofs.marks.MarkedItems.{plain_next, end_next}
use Rattle.vcd_copy.proofs.marking.marked.MarkedAmender.take.Goals as goal

pub take-requires : goal.take-requires
take-requires g c =
    let (limit, before, p, seen, taken) = c.requires in
    let e = c.args.ended.now in
    let plain = plain_next c.args.self.now.mark _ limit before p e.item e.code.now e.space.now
    e.body.now c.mark_before.ensures c.in-None.is taken.shown in (
      limit,
      with_mark (comment_of_mark c.args.self.now.mark) before,
      p,
      seen,
      plain.taken e.item e.code.now e.scopes.now e.space.now e.body.now taken,
    )

pub put_mark-requires : goal.put_mark-requires
put_mark-requires g c =
    let (limit, before, p, seen, taken) = c.requires in
    (with_mark (comment_of_mark c.args.self.now.mark) before, seen)

pub take_settled-requires : goal.take_settled-requires
take_settled-requires g c =
    let (limit, before, p, seen, taken) = c.requires in
    let e = c.args.ended.now in
    let end = end_next c.args.self.now.mark _ limit before p c.in-Some.mark e.item e.code.now
    e.scopes.now e.space.now e.body.now c.mark_before.ensures c.in-Some.is taken in (
      limit,
      end.marked,
      end.after,
      subst (g.A.Amender.has_seen c.put_mark.new.amender) (sym end.marked_is)
          (c.put_mark.ensures.seen limit _ seen end.next),
      end.taken,
    )

pub returns-in-Some-clause-more : goal.returns-in-Some-clause-more
returns-in-Some-clause-more g c =
    let (limit, before, p, seen, taken) = c.requires in
    on_err_weaker c.take_settled.result (λ more. more_both (writes_more (c.put_mark.ensures.written _ seen)) more)
    c.take_settled.ensures.more

pub returns-in-Some-clause-written : goal.returns-in-Some-clause-written
returns-in-Some-clause-written g c = on_ok_weaker c.take_settled.result (λ written limit before p seen taken.
    let e = c.args.ended.now in
    let end = end_next c.args.self.now.mark _ limit before p c.in-Some.mark e.item e.code.now
    e.scopes.now e.space.now e.body.now c.mark_before.ensures c.in-Some.is taken in
    writes_as (sym (end.in_place (g.A.Amender.rules (g.A.Amender.given c.args.self.now.amender))))
    (writes_both (c.put_mark.ensures.written (with_mark (comment_of_mark c.args.self.now.mark) before) seen)
    (writes_as (ap (λ given. (g.A.Amender.rules given).in_place end.marked end.after) c.put_mark.ensures.same)
    (written limit end.marked end.after
    (subst (g.A.Amender.has_seen c.put_mark.new.amender) (sym end.marked_is)
    (c.put_mark.ensures.seen limit _ seen end.next)) end.taken)))) c.take_settled.ensures.written

pub returns-in-Some-clause-seen : goal.returns-in-Some-clause-seen
returns-in-Some-clause-seen g c = on_ok_weaker c.take_settled.result (λ later limit before p seen taken.
    let e = c.args.ended.now in
    let end = end_next c.args.self.now.mark _ limit before p c.in-Some.mark e.item e.code.now
    e.scopes.now e.space.now e.body.now c.mark_before.ensures c.in-Some.is taken in
    subst (g.A.Amender.has_seen c.take_settled.new.amender) (sym end.more)
    (later limit end.marked end.after
    (subst (g.A.Amender.has_seen c.put_mark.new.amender) (sym end.marked_is)
    (c.put_mark.ensures.seen limit _ seen end.next)) end.taken)) c.take_settled.ensures.seen

pub returns-in-None-clause-written : goal.returns-in-None-clause-written
returns-in-None-clause-written g c = on_ok_weaker c.take.result (λ written limit before p seen taken.
    let e = c.args.ended.now in
    let plain = plain_next c.args.self.now.mark _ limit before p e.item e.code.now e.space.now
    e.body.now c.mark_before.ensures c.in-None.is taken.shown in
    writes_as (sym (plain.in_place (g.A.Amender.rules (g.A.Amender.given c.args.self.now.amender))))
    (written limit _ p seen
    (plain.taken e.item e.code.now e.scopes.now e.space.now e.body.now taken)))
    c.take.ensures.written

pub returns-in-None-clause-seen : goal.returns-in-None-clause-seen
returns-in-None-clause-seen g c = on_ok_weaker c.take.result (λ later limit before p seen taken.
    let e = c.args.ended.now in
    let plain = plain_next c.args.self.now.mark _ limit before p e.item e.code.now e.space.now
    e.body.now c.mark_before.ensures c.in-None.is taken.shown in
    subst (g.A.Amender.has_seen c.take.new.self) (sym plain.more) (later limit _ p seen
    (plain.taken e.item e.code.now e.scopes.now e.space.now e.body.now taken)))
    c.take.ensures.seen
