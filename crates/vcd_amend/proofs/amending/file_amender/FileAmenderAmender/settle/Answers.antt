use Rattle.std.proofs.Common.{◌∙◌, ◌≤◌, ◌&&◌, ◌++◌, ℕ, false, sym, ap, ap₂, subst, List, Bool}
use Rattle.std.proofs.Common.{if◌then◌else◌}
use Rattle.std.specs.List.{flat_map}
use Rattle.std.proofs.Math.Bool.{and-false, and-true}
use Rattle.vcd_text.specs.Items.{Item}
use Rattle.vcd_text.specs.Grammar.{state_after_item}
use Rattle.vcd_text.specs.Text.{item_line}
use Rattle.vcd_amend.specs.AmendmentContents.{amendment_contents}
use Rattle.vcd_amend.specs.AmendedItems.{stands, is_left_out, item_fate, inserted_items, items_due_until}
use Rattle.vcd_amend.specs.AmendedItems.{still_none_yet}
use Rattle.vcd_amend.specs.AmendedItems.{leaves_out}
use Rattle.vcd_amend.specs.AmendedText.{bytes_in_place}
use Rattle.vcd_amend.proofs.amending.SeenItems.{before_state, before_none, seen_more, stamp_is_later, value_is, real_is}
use Rattle.vcd_amend.proofs.amending.file_amender.FileAmenderAmender.settle.Goals as goal

pub let_stamp_stand-requires : goal.let_stamp_stand-requires
let_stamp_stand-requires g c = let (limit, before, p, seen, shows) = c.requires in
    (before_state before, before_none (amendment_contents c.args.self.now.amendment.now) before, seen)

pub settle_value-requires : goal.settle_value-requires
settle_value-requires g c = let (limit, before, p, seen, shows) = c.requires in
    (before_state before, before_none (amendment_contents c.args.self.now.amendment.now) before, seen)

pub returns-then-let_stamp_stand-clause-stands : goal.returns-then-let_stamp_stand-clause-stands
returns-then-let_stamp_stand-clause-stands g c = λ itself limit before p seen next.
    let m = c.args.self.now in
    let a = amendment_contents m.amendment.now in
    let s = before_state before in
    let none = before_none a before in
    let tick = c.in-Stamp.tick in
    let (digits, is, number) = rw c.in-Stamp.is at next.shows in
    let later : s.tick ≤ tick = subst (λ (t : ℕ). s.tick ≤ t) (sym number)
    (stamp_is_later limit before p p.space p.body digits next.next is) in
    let (empty, at) = c.let_stamp_stand.ensures.stands c.if-let_stamp_stand.true s none seen later in (
      ap (λ (i : Item). bytes_in_place (item_fate a s i) (flat_map item_line (inserted_items a none s i)) p) is
          ∙ ap (λ (l : List Item). p.space ++ (flat_map item_line l ++ p.body))
          (ap (items_due_until a none s) (sym number) ∙ empty),
      seen_more c.let_stamp_stand.new.self a before p (record s { tick = tick }) false
          (ap amendment_contents c.let_stamp_stand.ensures.same)
          (ap (state_after_item s) is ∙ ap (λ (t : ℕ). record s { tick = t }) (sym number))
          (ap (λ (i : Item). still_none_yet none (item_fate a s i) i) is) at,
    )

pub returns-in-Value-clause-stands : goal.returns-in-Value-clause-stands
returns-in-Value-clause-stands g c = λ itself limit before p seen next.
    let m = c.args.self.now in
    let a = amendment_contents m.amendment.now in
    let s = before_state before in
    let none = before_none a before in
    let v = value_is a s none c.args.code.now p.item (rw c.in-Value.is at next.shows) in
    let (fate, at) = c.settle_value.ensures.stands itself s none v.letters seen in
    let stays_there = v.fate ∙ fate in (
      ap₂ (λ f l. bytes_in_place f (flat_map item_line l) p) stays_there v.inserted,
      seen_more c.settle_value.new.self a before p _ false (ap amendment_contents c.settle_value.ensures.same)
          v.state (v.still (item_fate a s p.item) ∙ ap (λ f. none && leaves_out f) stays_there ∙ and-false none) at,
    )

pub returns-in-Value-clause-goes : goal.returns-in-Value-clause-goes
returns-in-Value-clause-goes g c = λ nothing limit before p seen next.
    let m = c.args.self.now in
    let a = amendment_contents m.amendment.now in
    let s = before_state before in
    let none = before_none a before in
    let v = value_is a s none c.args.code.now p.item (rw c.in-Value.is at next.shows) in
    let (fate, at) = c.settle_value.ensures.goes nothing s none v.letters seen in
    let left_out = v.fate ∙ fate in (
      ap₂ (λ f l. bytes_in_place f (flat_map item_line l) p) left_out v.inserted,
      seen_more c.settle_value.new.self a before p _ none (ap amendment_contents c.settle_value.ensures.same)
          v.state (v.still (item_fate a s p.item) ∙ ap (λ f. none && leaves_out f) left_out ∙ and-true none) at,
    )

pub returns-in-RealOrString-clause-stands : goal.returns-in-RealOrString-clause-stands
returns-in-RealOrString-clause-stands g c = λ itself limit before p seen next.
    let m = c.args.self.now in
    let a = amendment_contents m.amendment.now in
    let s = before_state before in
    let none = before_none a before in
    let r = real_is a s none c.args.code.now p.item (rw c.in-RealOrString.is at next.shows) in
    let (used, at) = c.settle_real.ensures.stands itself s none seen in
    let stays_there = r.fate ∙ ap (λ (b : Bool). if b then stands else is_left_out) used in (
      ap₂ (λ f l. bytes_in_place f (flat_map item_line l) p) stays_there r.inserted,
      seen_more c.settle_real.new.self a before p s false (ap amendment_contents c.settle_real.ensures.same)
          r.state (r.still (item_fate a s p.item) ∙ ap (λ f. none && leaves_out f) stays_there ∙ and-false none) at,
    )

pub returns-in-RealOrString-clause-goes : goal.returns-in-RealOrString-clause-goes
returns-in-RealOrString-clause-goes g c = λ nothing limit before p seen next.
    let m = c.args.self.now in
    let a = amendment_contents m.amendment.now in
    let s = before_state before in
    let none = before_none a before in
    let r = real_is a s none c.args.code.now p.item (rw c.in-RealOrString.is at next.shows) in
    let (unused, at) = c.settle_real.ensures.goes nothing s none seen in
    let left_out = r.fate ∙ ap (λ (b : Bool). if b then stands else is_left_out) unused in (
      ap₂ (λ f l. bytes_in_place f (flat_map item_line l) p) left_out r.inserted,
      seen_more c.settle_real.new.self a before p s none (ap amendment_contents c.settle_real.ensures.same)
          r.state (r.still (item_fate a s p.item) ∙ ap (λ f. none && leaves_out f) left_out ∙ and-true none) at,
    )
