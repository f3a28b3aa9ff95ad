use Rattle.std.proofs.Common.{◌∙◌, ◌++◌, ◌∷◌, [], Bool, refl, sym, ap, subst, decimal, arith, if◌then◌else◌}
use Rattle.std.proofs.lemmas.List.{append-nil}
use Rattle.vcd_copy.specs.Copied.{copied_pieces}
use Rattle.vcd_text.proofs.read_back.Decimals.{number_of-decimal}
use Rattle.vcd_text.proofs.shared.EmittedParts.{writes_as, writes_none, more_none}
use Rattle.vcd_amend.specs.AmendmentContents.{amendment_contents}
use Rattle.vcd_copy.specs.Pieces.{stamp_line}
use Rattle.vcd_amend.specs.inside.amending.FileAmender.{HasSeen}
use Rattle.vcd_amend.specs.inside.amending.CutAmender.{rules_of}
use Rattle.vcd_amend.proofs.amending.SeenItems.{before_state, before_none}
use Rattle.vcd_amend.proofs.amending.CutPieces.{on_error, stamp_copied, stamp_seen}
use Rattle.vcd_amend.proofs.amending.cut_amender.put_held_stamp.Goals as goal

pub take_stamp-requires : goal.take_stamp-requires
take_stamp-requires g c = let (r, seen) = c.requires in
    (before_state r, before_none (amendment_contents c.args.inner.now.amendment.now) r, seen)

pub returns-then-not-is_cut-clause-written : goal.returns-then-not-is_cut-clause-written
unfolding copied_pieces
returns-then-not-is_cut-clause-written g c = λ r seen later.
    writes_as (sym (ap (λ (b : Bool). copied_pieces (rules_of c.args.inner.now) r (if b then stamp_line c.args.tick ∷ []
    else [])) c.if-not-is_cut.true)) writes_none

pub returns-then-not-is_cut-clause-seen : goal.returns-then-not-is_cut-clause-seen
returns-then-not-is_cut-clause-seen g c = λ r seen later.
    subst (λ (b : Bool). HasSeen c.args.inner.now (r ++ (if b then stamp_line c.args.tick ∷ [] else [])))
    (sym c.if-not-is_cut.true) (subst (HasSeen c.args.inner.now) (sym (append-nil r)) seen)

pub returns-in_err-spell_stamp-clause-more : goal.returns-in_err-spell_stamp-clause-more
returns-in_err-spell_stamp-clause-more g c = on_error c.from_residual.result more_none

pub returns-clause-written : goal.returns-clause-written
returns-clause-written g c = λ r seen later.
    let a = amendment_contents c.args.inner.now.amendment.now in
    let t = c.args.tick in
    writes_as (stamp_copied a r (stamp_line t) (decimal t) _ _ t refl
    (number_of-decimal t (omega (arith, c.ranges.tick.fits))) refl
    (sym (c.as_slice.ensures.value ∙ c.in_ok-spell_stamp.ensures))
    ∙ sym (ap (λ (b : Bool). copied_pieces (rules_of c.args.inner.now) r (if b then stamp_line t ∷ [] else []))
    c.if-not-is_cut.false)) (c.take_stamp.ensures.written (before_state r) (before_none a r) seen later)

pub returns-clause-seen : goal.returns-clause-seen
returns-clause-seen g c = λ r seen later.
    let a = amendment_contents c.args.inner.now.amendment.now in
    let t = c.args.tick in
    subst (λ (b : Bool). HasSeen c.take_stamp.new.self (r ++ (if b then stamp_line t ∷ [] else [])))
    (sym c.if-not-is_cut.false)
    (stamp_seen c.take_stamp.new.self a r (stamp_line t) (decimal t) t (ap amendment_contents c.take_stamp.ensures.same)
    refl (number_of-decimal t (omega (arith, c.ranges.tick.fits)))
    (c.take_stamp.ensures.at (before_state r) (before_none a r) seen later))
