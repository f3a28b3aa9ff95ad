use Rattle.std.proofs.Common.{◌∙◌, ◌≤◌, ◌<◌, ◌^◌, ◌++◌, ◌∷◌, [], ℕ, Bool, sym, ap, subst, arith}
use Rattle.std.proofs.Common.{if◌then◌else◌}
use Rattle.std.proofs.lemmas.List.{append-nil}
use Rattle.vcd_core.specs.Decimal.{number_of}
use Rattle.vcd_copy.specs.Copied.{copied_pieces}
use Rattle.vcd_copy.specs.Pieces.{state_of_pieces}
use Rattle.vcd_text.proofs.shared.EmittedParts.{writes_as, writes_both, writes_more, more_both}
use Rattle.vcd_amend.specs.AmendmentContents.{amendment_contents}
use Rattle.vcd_amend.specs.AmendedCopy.{amendment_rules}
use Rattle.vcd_amend.specs.Retimed.{new_tick}
use Rattle.vcd_amend.specs.declared.amendment.Amendment.{Amendment}
use Rattle.vcd_amend.specs.inside.amending.FileAmender.{HasSeen}
use Rattle.vcd_amend.specs.inside.amending.HeldChanges.{retimed_stamp_piece, IsRetimedStamp}
use Rattle.vcd_amend.specs.inside.amending.CutAmender.{rules_of, sent_for, held_for, cut_of, released_before}
use Rattle.vcd_copy.proofs.shared.CopiedPieces.{copied_more}
use Rattle.vcd_amend.proofs.retimed.Ticks.{is_earlier}
use Rattle.vcd_amend.proofs.amending.CutPieces.{on_error}
use Rattle.vcd_amend.proofs.amending.CutSteps.{stamped_step, stamped_seen, before_new}
use Rattle.vcd_amend.proofs.amending.cut_amender.CutAmender.take_retimed.Goals as goal

pub returns-then-retimed-clause-written : goal.returns-then-retimed-clause-written
returns-then-retimed-clause-written g c = λ before p digits at is number sp bo later.
    let m = c.args.self.now in
    let n = c.release_before.new.self in
    let found = c.requires in
    let new = c.args.retimed.tick in
    let sent = sent_for (cut_of m) before in
    let first = released_before m new (held_for (cut_of m) before) in
    let small : new < 2 ^ 64 = omega (arith, found.tick, is_earlier (cut_of m) c.args.stamp.tick, c.requires.fits) in
    let step = stamped_step m n before p digits c.args.retimed.is_cut new at is
    c.in_ok-release_before.ensures.cuts
    (found.cut ∙ ap (cut_of m) (sym number)) (found.tick ∙ ap (new_tick (cut_of m)) (sym number)) small
    ∙ ap (λ (b : Bool). first ++ (if b then [] else retimed_stamp_piece new (number_of digits) p ∷ []))
    c.if-retimed.true
    ∙ append-nil first in
    writes_as (ap (copied_pieces (rules_of m.inner) sent) (sym step)) (c.in_ok-release_before.ensures.written before at)

pub returns-then-retimed-clause-at : goal.returns-then-retimed-clause-at
returns-then-retimed-clause-at g c = λ before p digits at is number sp bo later.
    let m = c.args.self.now in
    let n = c.release_before.new.self in
    let found = c.requires in
    let new = c.args.retimed.tick in
    let has = c.in_ok-release_before.ensures.at before at in
    let all = sent_for (cut_of m) before ++ released_before m new (held_for (cut_of m) before) in
    let small : new < 2 ^ 64 = omega (arith, found.tick, is_earlier (cut_of m) c.args.stamp.tick, c.requires.fits) in
    stamped_seen m n before p digits c.args.retimed.is_cut new at is c.in_ok-release_before.ensures.cuts
    (found.cut ∙ ap (cut_of m) (sym number)) (found.tick ∙ ap (new_tick (cut_of m)) (sym number)) small has
    (subst (λ (t : ℕ). (state_of_pieces 0 before).tick ≤ t) (sym number) later) n.inner n.stamp
    (subst (λ (b : Bool). HasSeen n.inner (all ++ (if b then [] else retimed_stamp_piece new
    (number_of digits) p ∷ [])))
    (sym c.if-retimed.true) (subst (HasSeen n.inner) (sym (append-nil all)) has.seen))

pub returns-in_err-put_stamp-clause-more : goal.returns-in_err-put_stamp-clause-more
returns-in_err-put_stamp-clause-more g c =
    let (before, at) = c.requires.seen in
    on_error c.from_residual-in_err-put_stamp.result (more_both (writes_more (c.in_ok-release_before.ensures.written
    before at))
    c.in_err-put_stamp.ensures.more)

pub returns-clause-written : goal.returns-clause-written
returns-clause-written g c = λ before p digits at is number sp bo later.
    let m = c.args.self.now in
    let n = c.release_before.new.self in
    let found = c.requires in
    let new = c.args.retimed.tick in
    let sent = sent_for (cut_of m) before in
    let first = released_before m new (held_for (cut_of m) before) in
    let q = retimed_stamp_piece new (number_of digits) p in
    let has = c.in_ok-release_before.ensures.at before at in
    let cuts = c.in_ok-release_before.ensures.cuts in
    let b_is = found.cut ∙ ap (cut_of m) (sym number) in
    let new_is = found.tick ∙ ap (new_tick (cut_of m)) (sym number) in
    let small : new < 2 ^ 64 = omega (arith, found.tick, is_earlier (cut_of m) c.args.stamp.tick, c.requires.fits) in
    let step = stamped_step m n before p digits c.args.retimed.is_cut new at is cuts b_is new_is small
    ∙ ap (λ (b : Bool). first ++ (if b then [] else q ∷ [])) c.if-retimed.false in
    let upto = before_new m n before p digits c.args.retimed.is_cut new at is cuts b_is new_is small has
    (subst (λ (t : ℕ). (state_of_pieces 0 before).tick ≤ t) (sym number) later) in
    let here : IsRetimedStamp q new c.args.stamp.tick c.args.stamp.space.now c.args.stamp.body.now = record {
      p = p;
      digits = digits;
      is = is;
      number = number;
      space_is = sp;
      body_is = bo;
      new = ap (λ (t : ℕ). retimed_stamp_piece new t p) number;
    } in
    writes_as (ap (λ (x : Amendment). copied_pieces (rules_of m.inner) sent first
    ++ copied_pieces (amendment_rules (amendment_contents x) 0) (sent ++ first) (q ∷ []))
    c.in_ok-release_before.ensures.amendment
    ∙ sym (copied_more (rules_of m.inner) sent first (q ∷ [])) ∙ ap (copied_pieces (rules_of m.inner) sent) (sym step))
    (writes_both (c.in_ok-release_before.ensures.written before at)
    (c.in_ok-put_stamp.ensures.written (sent ++ first) q has.seen here upto))

pub returns-clause-at : goal.returns-clause-at
returns-clause-at g c = λ before p digits at is number sp bo later.
    let m = c.args.self.now in
    let n = c.release_before.new.self in
    let found = c.requires in
    let new = c.args.retimed.tick in
    let q = retimed_stamp_piece new (number_of digits) p in
    let has = c.in_ok-release_before.ensures.at before at in
    let cuts = c.in_ok-release_before.ensures.cuts in
    let b_is = found.cut ∙ ap (cut_of m) (sym number) in
    let new_is = found.tick ∙ ap (new_tick (cut_of m)) (sym number) in
    let small : new < 2 ^ 64 = omega (arith, found.tick, is_earlier (cut_of m) c.args.stamp.tick, c.requires.fits) in
    let late = subst (λ (t : ℕ). (state_of_pieces 0 before).tick ≤ t) (sym number) later in
    let upto = before_new m n before p digits c.args.retimed.is_cut new at is cuts b_is new_is small has
    late in
    let all = sent_for (cut_of m) before ++ released_before m new (held_for (cut_of m) before) in
    let here : IsRetimedStamp q new c.args.stamp.tick c.args.stamp.space.now c.args.stamp.body.now = record {
      p = p;
      digits = digits;
      is = is;
      number = number;
      space_is = sp;
      body_is = bo;
      new = ap (λ (t : ℕ). retimed_stamp_piece new t p) number;
    } in
    stamped_seen m n before p digits c.args.retimed.is_cut new at is cuts b_is new_is small has late
    c.put_stamp.new.inner c.put_stamp.new.text
    (subst (λ (b : Bool). HasSeen c.put_stamp.new.inner (all ++ (if b then [] else q ∷ []))) (sym c.if-retimed.false)
    (c.in_ok-put_stamp.ensures.seen all q has.seen here upto))
