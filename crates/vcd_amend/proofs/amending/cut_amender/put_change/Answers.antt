use Rattle.std.proofs.Common.{◌≡◌, ◌∙◌, ◌&&◌, ◌++◌, [], Bool, true, false, refl, sym, ap, ap₂, if◌then◌else◌, not}
use Rattle.std.specs.List.{flat_map}
use Rattle.vcd_copy.specs.Pieces.{Piece}
use Rattle.vcd_text.specs.Text.{item_line}
use Rattle.vcd_text.proofs.shared.EmittedParts.{writes_as}
use Rattle.vcd_amend.specs.Amendment.{is_used}
use Rattle.vcd_amend.specs.AmendmentContents.{amendment_contents}
use Rattle.vcd_amend.specs.AmendedItems.{stands, is_left_out, leaves_out, item_fate}
use Rattle.vcd_amend.specs.AmendedText.{bytes_in_place}
use Rattle.vcd_amend.proofs.amending.SeenItems.{before_state, before_none, seen_more, value_is, real_is}
use Rattle.vcd_amend.proofs.amending.CutPieces.{one_copied, value_of_key, text_of_key, change_after}
use Rattle.vcd_amend.proofs.amending.cut_amender.put_change.Goals as goal

-- the text in the place of an item that stands if its code is used
real_text : (p : Piece) (b : Bool) → (if b then p.space ++ p.body else [])
    ≡ bytes_in_place (if b then stands else is_left_out) [] p
real_text p true = refl
real_text p false = refl

real_leaves : (n b : Bool) → (n && leaves_out (if b then stands else is_left_out)) ≡ (n && not b)
real_leaves n true = refl
real_leaves n false = refl

pub take_value-requires : goal.take_value-requires
take_value-requires g c = let (r, seen) = c.requires in
    (before_state r, before_none (amendment_contents c.args.inner.now.amendment.now) r, seen)

pub returns-then-change-clause-written : goal.returns-then-change-clause-written
returns-then-change-clause-written g c = λ r p seen here.
    let a = amendment_contents c.args.inner.now.amendment.now in
    let s = before_state r in
    let none = before_none a r in
    let code = c.args.change.code.now in
    let key = rw c.if-change.true at here.key in
    let it = real_is a s none code p.item (text_of_key p.item code key) in
    let used = c.let_real_stand-is_used.ensures.stands s none seen in
    let sp = sym here.space_is in
    let bo = sym here.body_is in
    writes_as ((λ i. if used i then sp i ++ bo i else []) ∙ real_text p (is_used a s code)
    ∙ sym (ap₂ (λ f l. bytes_in_place f (flat_map item_line l) p) it.fate it.inserted)
    ∙ sym (one_copied a r p (change_after (λ t. false) s [] p _ key).may)) c.write_if.ensures

pub returns-then-change-clause-seen : goal.returns-then-change-clause-seen
returns-then-change-clause-seen g c = λ r p seen here.
    let a = amendment_contents c.args.inner.now.amendment.now in
    let s = before_state r in
    let none = before_none a r in
    let code = c.args.change.code.now in
    let key = rw c.if-change.true at here.key in
    let it = real_is a s none code p.item (text_of_key p.item code key) in
    let used = c.let_real_stand-is_used.ensures.stands s none seen in
    seen_more c.let_real_stand-is_used.new.self a r p s _
    (ap amendment_contents c.let_real_stand-is_used.ensures.same)
    it.state (it.still (item_fate a s p.item) ∙ ap (λ f. none && leaves_out f) it.fate ∙ real_leaves none
    (is_used a s code)
    ∙ ap (λ b. none && not b) (sym used)) (c.let_real_stand-is_used.ensures.at s none seen)

pub returns-clause-written : goal.returns-clause-written
returns-clause-written g c = λ r p seen here.
    let a = amendment_contents c.args.inner.now.amendment.now in
    let s = before_state r in
    let none = before_none a r in
    let code = c.args.change.code.now in
    let key = rw c.if-change.false at here.key in
    let v = value_is a s none code p.item (value_of_key p.item code key) in
    writes_as (sym (ap₂ (λ f l. bytes_in_place f (flat_map item_line l) p) v.fate v.inserted)
    ∙ sym (one_copied a r p (change_after (λ t. false) s [] p _ key).may))
    (c.take_value.ensures.written s none p seen here.space_is here.body_is)

pub returns-clause-seen : goal.returns-clause-seen
returns-clause-seen g c = λ r p seen here.
    let a = amendment_contents c.args.inner.now.amendment.now in
    let s = before_state r in
    let none = before_none a r in
    let code = c.args.change.code.now in
    let key = rw c.if-change.false at here.key in
    let v = value_is a s none code p.item (value_of_key p.item code key) in
    seen_more c.take_value.new.self a r p _ _ (ap amendment_contents c.take_value.ensures.same) v.state
    (v.still (item_fate a s p.item) ∙ ap (λ f. none && leaves_out f) v.fate)
    (c.take_value.ensures.at s none v.letters seen)
