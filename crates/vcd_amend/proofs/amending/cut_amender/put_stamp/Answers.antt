use Rattle.std.proofs.Common.{◌∙◌, ◌≤◌, ℕ, sym, ap, subst, decimal, arith}
use Rattle.vcd_copy.specs.Pieces.{Piece}
use Rattle.vcd_text.proofs.read_back.Decimals.{number_of-decimal}
use Rattle.vcd_text.proofs.shared.EmittedParts.{writes_as, more_none}
use Rattle.vcd_amend.specs.AmendmentContents.{amendment_contents}
use Rattle.vcd_amend.proofs.amending.SeenItems.{before_state, before_none}
use Rattle.vcd_amend.proofs.amending.CutPieces.{on_error, stamp_copied, stamp_seen, own_stamp, other_stamp}
use Rattle.vcd_amend.proofs.amending.cut_amender.put_stamp.Goals as goal

pub take_stamp-requires : goal.take_stamp-requires
take_stamp-requires g c = let (r, seen) = c.requires in
    (before_state r, before_none (amendment_contents c.args.inner.now.amendment.now) r, seen)

pub returns-then-retimed-stamp-clause-written : goal.returns-then-retimed-stamp-clause-written
returns-then-retimed-stamp-clause-written g c = λ r q seen is later.
    let a = amendment_contents c.args.inner.now.amendment.now in
    let same = c.if-retimed-stamp.true in
    let own = is.new ∙ own_stamp c.args.retimed c.args.stamp.tick is.p same in
    writes_as (stamp_copied a r q is.digits _ _ c.args.stamp.tick (ap (λ (x : Piece). x.item) own ∙ is.is) is.number
    (ap (λ (x : Piece). x.space) own ∙ is.space_is) (ap (λ (x : Piece). x.body) own ∙ is.body_is))
    (c.take_stamp.ensures.written (before_state r) (before_none a r) seen
    (subst (λ (t : ℕ). (before_state r).tick ≤ t) same later))

pub returns-then-retimed-stamp-clause-seen : goal.returns-then-retimed-stamp-clause-seen
returns-then-retimed-stamp-clause-seen g c = λ r q seen is later.
    let a = amendment_contents c.args.inner.now.amendment.now in
    let same = c.if-retimed-stamp.true in
    let own = is.new ∙ own_stamp c.args.retimed c.args.stamp.tick is.p same in
    stamp_seen c.take_stamp.new.self a r q is.digits c.args.stamp.tick (ap amendment_contents c.take_stamp.ensures.same)
    (ap (λ (x : Piece). x.item) own ∙ is.is) is.number
    (c.take_stamp.ensures.at (before_state r) (before_none a r) seen
    (subst (λ (t : ℕ). (before_state r).tick ≤ t) same later))

pub returns-in_err-spell_stamp-clause-more : goal.returns-in_err-spell_stamp-clause-more
returns-in_err-spell_stamp-clause-more g c = on_error c.from_residual.result more_none

pub returns-clause-written : goal.returns-clause-written
returns-clause-written g c = λ r q seen is later.
    let a = amendment_contents c.args.inner.now.amendment.now in
    let other = is.new ∙ other_stamp c.args.retimed c.args.stamp.tick is.p c.if-retimed-stamp.false in
    writes_as (stamp_copied a r q (decimal c.args.retimed) _ _ c.args.retimed (ap (λ (x : Piece). x.item) other)
    (number_of-decimal c.args.retimed (omega (arith, c.ranges.retimed.fits)))
    (ap (λ (x : Piece). x.space) other ∙ is.space_is)
    (ap (λ (x : Piece). x.body) other ∙ sym (c.as_slice.ensures.value ∙ c.in_ok-spell_stamp.ensures)))
    (c.take_stamp-2.ensures.written (before_state r) (before_none a r) seen later)

pub returns-clause-seen : goal.returns-clause-seen
returns-clause-seen g c = λ r q seen is later.
    let a = amendment_contents c.args.inner.now.amendment.now in
    let other = is.new ∙ other_stamp c.args.retimed c.args.stamp.tick is.p c.if-retimed-stamp.false in
    stamp_seen c.take_stamp-2.new.self a r q (decimal c.args.retimed) c.args.retimed
    (ap amendment_contents c.take_stamp-2.ensures.same) (ap (λ (x : Piece). x.item) other)
    (number_of-decimal c.args.retimed (omega (arith, c.ranges.retimed.fits)))
    (c.take_stamp-2.ensures.at (before_state r) (before_none a r) seen later)
