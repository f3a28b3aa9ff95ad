use Rattle.std.proofs.Common.{◌≡◌, ◌∙◌, ◌≤◌, ◌||◌, ◌&&◌, ◌++◌, ◌∷◌, [], ℕ, Bool, List, refl, sym, ap, ap₂, subst}
use Rattle.std.proofs.Common.{not, length}
use Rattle.std.specs.List.{flat_map}
use Rattle.std.specs.Prelude.{bytes_eq, codes}
use Rattle.std.proofs.lemmas.Result.{on_ok_weaker}
use Rattle.vcd_core.specs.declared.capture.ScopeName.{ScopeName}
use Rattle.vcd_text.specs.Items.{Item, end_definitions}
use Rattle.vcd_text.specs.Grammar.{ParseState, state_after_item, is_skipped}
use Rattle.vcd_text.specs.Text.{item_line}
use Rattle.vcd_copy.specs.Pieces.{state_of_pieces}
use Rattle.vcd_copy.specs.Copied.{copied_pieces, may_be_amended}
use Rattle.vcd_text.proofs.shared.EmittedParts.{writes_as, more_none}
use Rattle.vcd_amend.specs.Amendment.{fate_of}
use Rattle.vcd_amend.specs.AmendmentContents.{amendment_contents}
use Rattle.vcd_amend.specs.AmendedItems.{item_fate, inserted_items, still_none_yet, added_declarations}
use Rattle.vcd_amend.specs.AmendedItems.{variable_item_fate, declaration_fate}
use Rattle.vcd_amend.specs.AmendedText.{bytes_in_place}
use Rattle.vcd_amend.specs.Retimed.{lasts, has_kept_variable}
use Rattle.vcd_amend.specs.RetimedLaws.{is_neither}
use Rattle.vcd_amend.specs.inside.amending.FileAmender.{declared_in, with_declared, piece_of_variable}
use Rattle.vcd_amend.specs.inside.amending.CutAmender.{rules_of, sent_for, held_for, cut_of}
use Rattle.vcd_copy.proofs.shared.StatesOfPieces.{at_any_limit}
use Rattle.vcd_amend.proofs.declarations.collector.Collected.{next_variable}
use Rattle.vcd_amend.proofs.amending.SeenItems.{before_state, before_none, seen_more, stamp_is_later, end_passes}
use Rattle.vcd_amend.proofs.amending.CutPieces.{one_copied, plain_is, key_of_value, key_of_text, on_error}
use Rattle.vcd_amend.proofs.amending.CutSteps.{plain_seen, lasts_as, lasts_more, kept_as, kept_more}
use Rattle.vcd_amend.proofs.amending.cut_amender.CutAmenderAmender.take.Goals as goal

pub take_variable-requires : goal.take_variable-requires
take_variable-requires g c =
    let (limit, before, p, at, taken) = c.requires in
    let m = c.args.self.now in
    let sent = sent_for (cut_of m) before in
    let v = next_variable limit before p _ _ _ _ _ taken c.in-Variable.is in (
      before_state sent,
      before_none (amendment_contents m.inner.amendment.now) sent,
      v.kind,
      v.size,
      v.code,
      v.names,
      at.seen,
      v.is_variable,
      v.number,
    )

pub returns-in_err-note_at_code-in-Variable-clause-more : goal.returns-in_err-note_at_code-in-Variable-clause-more
returns-in_err-note_at_code-in-Variable-clause-more g c = on_error _ more_none

pub returns-in_ok-note_at_code-in-Variable-clause-written : goal.returns-in_ok-note_at_code-in-Variable-clause-written
returns-in_ok-note_at_code-in-Variable-clause-written g c = on_ok_weaker c.take_variable.result
    (λ written limit before p at taken.
    let m = c.args.self.now in
    let a = amendment_contents m.inner.amendment.now in
    let cut = cut_of m in
    let sent = sent_for cut before in
    let s = before_state sent in
    let none = before_none a sent in
    let v = next_variable limit before p _ _ _ _ _ taken c.in-Variable.is in
    let ws = v.kind ∷ v.size ∷ v.code ∷ v.names in
    let d = declared_in s v.kind v.size v.code v.names in
    let piece : p ≡ piece_of_variable c.args.ended.now.space.now c.args.ended.now.body.now v.kind v.size v.code v.names
    =
    λ i. record { item = v.item_is i; space = taken.shown.next.space_is i; body = taken.shown.next.body_is i } in
    let fate : item_fate a s p.item ≡ declaration_fate (fate_of a s.declared d) ws =
    ap (item_fate a s) v.item_is ∙ ap (λ o. variable_item_fate a s.declared o ws) (v.finds s) in
    let inserted : inserted_items a none s p.item ≡ [] = ap (inserted_items a none s) v.item_is in
    let step = (plain_is cut (state_of_pieces 0 before) (held_for cut before) p (ap is_neither v.item_is)).step in
    writes_as (sym (ap₂ (λ f l. bytes_in_place f (flat_map item_line l) p) fate inserted)
    ∙ sym (one_copied a sent p (ap may_be_amended v.item_is))
    ∙ ap (copied_pieces (rules_of m.inner) sent) (sym step))
    (written s none v.kind v.size v.code v.names p at.seen v.is_variable v.number piece))
    c.take_variable.ensures.written

pub returns-in_ok-note_at_code-in-Variable-clause-seen : goal.returns-in_ok-note_at_code-in-Variable-clause-seen
returns-in_ok-note_at_code-in-Variable-clause-seen g c = on_ok_weaker c.take_variable.result
    (λ moved limit before p at taken.
    let m = c.args.self.now in
    let a = amendment_contents m.inner.amendment.now in
    let sent = sent_for (cut_of m) before in
    let s = before_state sent in
    let first = state_of_pieces 0 before in
    let none = before_none a sent in
    let v = next_variable limit before p _ _ _ _ _ taken c.in-Variable.is in
    let d = declared_in s v.kind v.size v.code v.names in
    let own = declared_in first v.kind v.size v.code v.names in
    let state : state_after_item first p.item ≡ with_declared first own =
    ap (state_after_item first) v.item_is ∙ v.declares first in
    plain_seen m before at p (ap is_neither v.item_is) c.take_variable.new.self c.note_at_code.new.variables
    (seen_more c.take_variable.new.self a sent p (with_declared s d) none
    (ap amendment_contents c.take_variable.ensures.same) (ap (state_after_item s) v.item_is ∙ v.declares s)
    (ap (still_none_yet none (item_fate a s p.item)) v.item_is)
    (moved s none v.kind v.size v.code v.names at.seen v.is_variable v.number))
    (λ key. c.in_ok-note_at_code-in-Variable.ensures.lasts v.kind v.size v.code v.names v.is_variable key
    ∙ ap (λ (b : Bool). b || (bytes_eq key v.code && not (bytes_eq v.kind (codes "event")))) (at.lasting key)
    ∙ lasts_more first own key ∙ ap (λ (t : ParseState). lasts t key) (sym state))
    (λ key. c.in_ok-note_at_code-in-Variable.ensures.kept v.kind v.size v.code v.names v.is_variable v.number key
    ∙ ap (λ (b : Bool). b || (bytes_eq key v.code && not (is_skipped own))) (at.kept key)
    ∙ kept_more first own key ∙ ap (λ (t : ParseState). has_kept_variable t key) (sym state)))
    c.take_variable.ensures.at

pub returns-in-EndDefinitions-clause-written : goal.returns-in-EndDefinitions-clause-written
returns-in-EndDefinitions-clause-written g c = λ limit before p at taken.
    let m = c.args.self.now in
    let a = amendment_contents m.inner.amendment.now in
    let cut = cut_of m in
    let sent = sent_for cut before in
    let s = before_state sent in
    let none = before_none a sent in
    let (is, open_is, same_timescale) = rw c.in-EndDefinitions.is at taken.shown.shows in
    let sp = sym taken.shown.next.space_is in
    let bo = sym taken.shown.next.body_is in
    let step = (plain_is cut (state_of_pieces 0 before) (held_for cut before) p (ap is_neither is)).step in
    writes_as ((λ i. sp i ++ (flat_map item_line (added_declarations s.scopes a.added) ++ bo i))
    ∙ sym (ap (λ (x : Item). bytes_in_place (item_fate a s x) (flat_map item_line (inserted_items a none s x)) p) is)
    ∙ sym (one_copied a sent p (ap may_be_amended is)) ∙ ap (copied_pieces (rules_of m.inner) sent) (sym step))
    (c.write_ended.ensures s.scopes
    (open_is ∙ ap (λ (x : ParseState). length x.scopes) (at_any_limit limit before)
    ∙ ap (λ (l : List ScopeName). length l) (sym at.scopes)))

pub returns-in-EndDefinitions-clause-seen : goal.returns-in-EndDefinitions-clause-seen
returns-in-EndDefinitions-clause-seen g c = λ limit before p at taken.
    let m = c.args.self.now in
    let a = amendment_contents m.inner.amendment.now in
    let sent = sent_for (cut_of m) before in
    let s = before_state sent in
    let first = state_of_pieces 0 before in
    let none = before_none a sent in
    let (is, open_is, same_timescale) = rw c.in-EndDefinitions.is at taken.shown.shows in
    plain_seen m before at p (ap is_neither is) m.inner m.variables
    (seen_more m.inner a sent p (state_after_item s end_definitions) none refl (ap (state_after_item s) is)
    (ap (still_none_yet none (item_fate a s p.item)) is) (end_passes m.inner s none at.seen))
    (λ code. at.lasting code ∙ sym (lasts_as (state_after_item first p.item) first code
    (ap (λ (i : Item). (state_after_item first i).declared) is)))
    (λ code. at.kept code ∙ sym (kept_as (state_after_item first p.item) first code
    (ap (λ (i : Item). (state_after_item first i).declared) is)))

pub returns-in-Stamp-clause-written : goal.returns-in-Stamp-clause-written
returns-in-Stamp-clause-written g c = on_ok_weaker c.take_stamp.result (λ holds limit before p at taken.
    let (digits, is, number) = rw c.in-Stamp.is at taken.shown.shows in
    holds before p digits at is (sym number) taken.shown.next.space_is taken.shown.next.body_is
    (subst (λ (t : ℕ). (state_of_pieces 0 before).tick ≤ t) (sym number)
    (stamp_is_later limit before p _ _ digits taken.shown.next is))) c.take_stamp.ensures.written

pub returns-in-Stamp-clause-seen : goal.returns-in-Stamp-clause-seen
returns-in-Stamp-clause-seen g c = on_ok_weaker c.take_stamp.result (λ holds limit before p at taken.
    let (digits, is, number) = rw c.in-Stamp.is at taken.shown.shows in
    holds before p digits at is (sym number) taken.shown.next.space_is taken.shown.next.body_is
    (subst (λ (t : ℕ). (state_of_pieces 0 before).tick ≤ t) (sym number)
    (stamp_is_later limit before p _ _ digits taken.shown.next is))) c.take_stamp.ensures.at

pub returns-in-Value-clause-written : goal.returns-in-Value-clause-written
returns-in-Value-clause-written g c = on_ok_weaker c.take_change.result (λ holds limit before p at taken.
    holds before p at (record {
      key = key_of_value p.item c.args.ended.now.code.now (rw c.in-Value.is at taken.shown.shows);
      space_is = taken.shown.next.space_is;
      body_is = taken.shown.next.body_is;
    })) c.take_change.ensures.written

pub returns-in-Value-clause-seen : goal.returns-in-Value-clause-seen
returns-in-Value-clause-seen g c = on_ok_weaker c.take_change.result (λ holds limit before p at taken.
    holds before p at (record {
      key = key_of_value p.item c.args.ended.now.code.now (rw c.in-Value.is at taken.shown.shows);
      space_is = taken.shown.next.space_is;
      body_is = taken.shown.next.body_is;
    })) c.take_change.ensures.at

pub returns-in-RealOrString-clause-written : goal.returns-in-RealOrString-clause-written
returns-in-RealOrString-clause-written g c = on_ok_weaker c.take_change-in-RealOrString.result
    (λ holds limit before p at taken.
    holds before p at (record {
      key = key_of_text p.item c.args.ended.now.code.now (rw c.in-RealOrString.is at taken.shown.shows);
      space_is = taken.shown.next.space_is;
      body_is = taken.shown.next.body_is;
    })) c.take_change-in-RealOrString.ensures.written

pub returns-in-RealOrString-clause-seen : goal.returns-in-RealOrString-clause-seen
returns-in-RealOrString-clause-seen g c = on_ok_weaker c.take_change-in-RealOrString.result
    (λ holds limit before p at taken.
    holds before p at (record {
      key = key_of_text p.item c.args.ended.now.code.now (rw c.in-RealOrString.is at taken.shown.shows);
      space_is = taken.shown.next.space_is;
      body_is = taken.shown.next.body_is;
    })) c.take_change-in-RealOrString.ensures.at
