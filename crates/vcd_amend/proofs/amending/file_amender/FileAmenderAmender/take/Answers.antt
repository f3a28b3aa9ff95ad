use Rattle.std.proofs.Common.{◌≡◌, ◌∙◌, ◌≤◌, ◌&&◌, ◌++◌, ◌∷◌, [], ℕ, true, false, refl, sym, ap, ap₂, subst, Bool}
use Rattle.std.proofs.Common.{if◌then◌else◌, not, length}
use Rattle.std.specs.List.{flat_map}
use Rattle.vcd_text.specs.Items.{Item, end_definitions}
use Rattle.vcd_text.specs.Grammar.{ParseState, state_after_item}
use Rattle.vcd_copy.specs.Pieces.{Piece}
use Rattle.vcd_text.specs.Text.{item_line}
use Rattle.vcd_text.proofs.shared.EmittedParts.{writes_as}
use Rattle.vcd_amend.specs.Amendment.{is_used}
use Rattle.vcd_amend.specs.AmendmentContents.{amendment_contents}
use Rattle.vcd_amend.specs.AmendedItems.{stands, is_left_out, item_fate, inserted_items, items_due_until}
use Rattle.vcd_amend.specs.AmendedItems.{still_none_yet}
use Rattle.vcd_amend.specs.AmendedItems.{leaves_out, added_declarations, variable_item_fate}
use Rattle.vcd_amend.specs.AmendedText.{bytes_in_place}
use Rattle.vcd_amend.specs.inside.amending.FileAmender.{declared_in, with_declared, piece_of_variable}
use Rattle.vcd_amend.proofs.amending.SeenItems.{before_state, before_none, seen_more, stamp_is_later, value_is, real_is}
use Rattle.vcd_amend.proofs.amending.SeenItems.{end_passes}
use Rattle.std.proofs.lemmas.Result.{on_ok_weaker}
use Rattle.vcd_amend.specs.Amendment.{fate_of}
use Rattle.vcd_amend.specs.AmendedItems.{declaration_fate}
use Rattle.vcd_copy.proofs.shared.StatesOfPieces.{at_any_limit}
use Rattle.vcd_amend.proofs.declarations.collector.Collected.{next_variable}
use Rattle.vcd_amend.proofs.amending.file_amender.FileAmenderAmender.take.Goals as goal

-- the text in the place of an item that stands if its code is used
real_text : (p : Piece) (b : Bool) → (if b then p.space ++ p.body else [])
    ≡ bytes_in_place (if b then stands else is_left_out) [] p
real_text p true = refl
real_text p false = refl

real_leaves : (n b : Bool) → (n && leaves_out (if b then stands else is_left_out)) ≡ (n && not b)
real_leaves n true = refl
real_leaves n false = refl

pub take_variable-requires : goal.take_variable-requires
take_variable-requires g c =
    let (limit, before, p, seen, taken) = c.requires in
    let v = next_variable limit before p _ _ _ _ _ taken c.in-Variable.is in (
      before_state before,
      before_none (amendment_contents c.args.self.now.amendment.now) before,
      v.kind,
      v.size,
      v.code,
      v.names,
      seen,
      v.is_variable,
      v.number,
    )

pub take_stamp-requires : goal.take_stamp-requires
take_stamp-requires g c = let (limit, before, p, seen, taken) = c.requires in
    (before_state before, before_none (amendment_contents c.args.self.now.amendment.now) before, seen)

pub take_value-requires : goal.take_value-requires
take_value-requires g c = let (limit, before, p, seen, taken) = c.requires in
    (before_state before, before_none (amendment_contents c.args.self.now.amendment.now) before, seen)

pub returns-in-Variable-clause-written : goal.returns-in-Variable-clause-written
returns-in-Variable-clause-written g c = on_ok_weaker c.take_variable.result (λ written limit before p seen taken.
    let m = c.args.self.now in
    let a = amendment_contents m.amendment.now in
    let s = before_state before in
    let none = before_none a before in
    let v = next_variable limit before p _ _ _ _ _ taken c.in-Variable.is in
    let ws = v.kind ∷ v.size ∷ v.code ∷ v.names in
    let d = declared_in s v.kind v.size v.code v.names in
    let piece : p ≡ piece_of_variable c.args.ended.now.space.now c.args.ended.now.body.now v.kind v.size v.code v.names
    =
    λ i. record { item = v.item_is i; space = taken.shown.next.space_is i; body = taken.shown.next.body_is i } in
    let fate : item_fate a s p.item ≡ declaration_fate (fate_of a s.declared d) ws =
    ap (item_fate a s) v.item_is ∙ ap (λ o. variable_item_fate a s.declared o ws) (v.finds s) in
    let inserted : inserted_items a none s p.item ≡ [] = ap (inserted_items a none s) v.item_is in
    writes_as (sym (ap₂ (λ f l. bytes_in_place f (flat_map item_line l) p) fate inserted))
    (written s none v.kind v.size v.code v.names p seen v.is_variable v.number piece)) c.take_variable.ensures.written

pub returns-in-Variable-clause-seen : goal.returns-in-Variable-clause-seen
returns-in-Variable-clause-seen g c = on_ok_weaker c.take_variable.result (λ moved limit before p seen taken.
    let m = c.args.self.now in
    let a = amendment_contents m.amendment.now in
    let s = before_state before in
    let none = before_none a before in
    let v = next_variable limit before p _ _ _ _ _ taken c.in-Variable.is in
    seen_more c.take_variable.new.self a before p (with_declared s (declared_in s v.kind v.size v.code v.names)) none
    (ap amendment_contents c.take_variable.ensures.same) (ap (state_after_item s) v.item_is ∙ v.declares s)
    (ap (still_none_yet none (item_fate a s p.item)) v.item_is)
    (moved s none v.kind v.size v.code v.names seen v.is_variable v.number)) c.take_variable.ensures.at

pub returns-in-EndDefinitions-clause-written : goal.returns-in-EndDefinitions-clause-written
returns-in-EndDefinitions-clause-written g c = λ limit before p seen taken.
    let m = c.args.self.now in
    let a = amendment_contents m.amendment.now in
    let s = before_state before in
    let none = before_none a before in
    let (is, open_is, same_timescale) = rw c.in-EndDefinitions.is at taken.shown.shows in
    let sp = sym taken.shown.next.space_is in
    let bo = sym taken.shown.next.body_is in
    writes_as ((λ i. sp i ++ (flat_map item_line (added_declarations s.scopes a.added) ++ bo i))
    ∙ sym (ap (λ (x : Item). bytes_in_place (item_fate a s x) (flat_map item_line (inserted_items a none s x)) p) is))
    (c.write_ended.ensures s.scopes
    (open_is ∙ ap (λ (x : ParseState). length x.scopes) (at_any_limit limit before)))

pub returns-in-EndDefinitions-clause-seen : goal.returns-in-EndDefinitions-clause-seen
returns-in-EndDefinitions-clause-seen g c = λ limit before p seen taken.
    let m = c.args.self.now in
    let a = amendment_contents m.amendment.now in
    let s = before_state before in
    let none = before_none a before in
    let (is, open_is, same_timescale) = rw c.in-EndDefinitions.is at taken.shown.shows in
    seen_more m a before p (state_after_item s end_definitions) none refl (ap (state_after_item s) is)
    (ap (still_none_yet none (item_fate a s p.item)) is) (end_passes m s none seen)

pub returns-in-Stamp-clause-written : goal.returns-in-Stamp-clause-written
returns-in-Stamp-clause-written g c = λ limit before p seen taken.
    let m = c.args.self.now in
    let a = amendment_contents m.amendment.now in
    let s = before_state before in
    let none = before_none a before in
    let tick = c.in-Stamp.tick in
    let (digits, is, number) = rw c.in-Stamp.is at taken.shown.shows in
    let later : s.tick ≤ tick = subst (λ (t : ℕ). s.tick ≤ t) (sym number)
    (stamp_is_later limit before p _ _ digits taken.shown.next is) in
    let sp = sym taken.shown.next.space_is in
    let bo = sym taken.shown.next.body_is in
    writes_as ((λ i. sp i ++ (flat_map item_line (items_due_until a none s (number i)) ++ bo i))
    ∙ sym (ap (λ (x : Item). bytes_in_place (item_fate a s x) (flat_map item_line (inserted_items a none s x)) p) is))
    (c.take_stamp.ensures.written s none seen later)

pub returns-in-Stamp-clause-seen : goal.returns-in-Stamp-clause-seen
returns-in-Stamp-clause-seen g c = λ limit before p seen taken.
    let m = c.args.self.now in
    let a = amendment_contents m.amendment.now in
    let s = before_state before in
    let none = before_none a before in
    let tick = c.in-Stamp.tick in
    let (digits, is, number) = rw c.in-Stamp.is at taken.shown.shows in
    let later : s.tick ≤ tick = subst (λ (t : ℕ). s.tick ≤ t) (sym number)
    (stamp_is_later limit before p _ _ digits taken.shown.next is) in
    seen_more c.take_stamp.new.self a before p (record s { tick = tick }) false
    (ap amendment_contents c.take_stamp.ensures.same)
    (ap (state_after_item s) is ∙ ap (λ (t : ℕ). record s { tick = t }) (sym number))
    (ap (still_none_yet none (item_fate a s p.item)) is) (c.take_stamp.ensures.at s none seen later)

pub returns-in-Value-clause-written : goal.returns-in-Value-clause-written
returns-in-Value-clause-written g c = λ limit before p seen taken.
    let m = c.args.self.now in
    let a = amendment_contents m.amendment.now in
    let s = before_state before in
    let none = before_none a before in
    let v = value_is a s none c.args.ended.now.code.now p.item (rw c.in-Value.is at taken.shown.shows) in
    writes_as (sym (ap₂ (λ f l. bytes_in_place f (flat_map item_line l) p) v.fate v.inserted))
    (c.take_value.ensures.written s none p seen taken.shown.next.space_is taken.shown.next.body_is)

pub returns-in-Value-clause-seen : goal.returns-in-Value-clause-seen
returns-in-Value-clause-seen g c = λ limit before p seen taken.
    let m = c.args.self.now in
    let a = amendment_contents m.amendment.now in
    let s = before_state before in
    let none = before_none a before in
    let v = value_is a s none c.args.ended.now.code.now p.item (rw c.in-Value.is at taken.shown.shows) in
    seen_more c.take_value.new.self a before p _ _ (ap amendment_contents c.take_value.ensures.same) v.state
    (v.still (item_fate a s p.item) ∙ ap (λ f. none && leaves_out f) v.fate)
    (c.take_value.ensures.at s none v.letters seen)

pub returns-in-RealOrString-clause-written : goal.returns-in-RealOrString-clause-written
returns-in-RealOrString-clause-written g c = λ limit before p seen taken.
    let m = c.args.self.now in
    let a = amendment_contents m.amendment.now in
    let s = before_state before in
    let none = before_none a before in
    let code = c.args.ended.now.code.now in
    let r = real_is a s none code p.item (rw c.in-RealOrString.is at taken.shown.shows) in
    let used = c.let_real_stand-is_used.ensures.stands s none seen in
    let sp = sym taken.shown.next.space_is in
    let bo = sym taken.shown.next.body_is in
    writes_as ((λ i. if used i then sp i ++ bo i else []) ∙ real_text p (is_used a s code)
    ∙ sym (ap₂ (λ f l. bytes_in_place f (flat_map item_line l) p) r.fate r.inserted)) c.write_if.ensures

pub returns-in-RealOrString-clause-seen : goal.returns-in-RealOrString-clause-seen
returns-in-RealOrString-clause-seen g c = λ limit before p seen taken.
    let m = c.args.self.now in
    let a = amendment_contents m.amendment.now in
    let s = before_state before in
    let none = before_none a before in
    let code = c.args.ended.now.code.now in
    let r = real_is a s none code p.item (rw c.in-RealOrString.is at taken.shown.shows) in
    let used = c.let_real_stand-is_used.ensures.stands s none seen in
    seen_more c.let_real_stand-is_used.new.self a before p s _
    (ap amendment_contents c.let_real_stand-is_used.ensures.same)
    r.state (r.still (item_fate a s p.item) ∙ ap (λ f. none && leaves_out f) r.fate ∙ real_leaves none
    (is_used a s code)
    ∙ ap (λ b. none && not b) (sym used)) (c.let_real_stand-is_used.ensures.at s none seen)
