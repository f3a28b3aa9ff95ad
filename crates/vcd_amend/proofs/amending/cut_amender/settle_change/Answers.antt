use Rattle.std.proofs.Common.{◌∙◌, ◌&&◌, [], Bool, false, ap, ap₂, if◌then◌else◌}
use Rattle.std.specs.List.{flat_map}
use Rattle.std.proofs.Math.Bool.{and-false, and-true}
use Rattle.vcd_text.specs.Text.{item_line}
use Rattle.vcd_amend.specs.AmendmentContents.{amendment_contents}
use Rattle.vcd_amend.specs.AmendedItems.{stands, is_left_out, leaves_out, item_fate}
use Rattle.vcd_amend.specs.AmendedText.{bytes_in_place}
use Rattle.vcd_amend.proofs.amending.SeenItems.{before_state, before_none, seen_more, value_is, real_is}
use Rattle.vcd_amend.proofs.amending.CutPieces.{one_copied, value_of_key, text_of_key, change_after}
use Rattle.vcd_amend.proofs.amending.cut_amender.settle_change.Goals as goal

pub settle_value-requires : goal.settle_value-requires
settle_value-requires c = let (r, seen) = c.requires in
    (before_state r, before_none (amendment_contents c.args.inner.now.amendment.now) r, seen)

pub returns-then-is_text-clause-stands : goal.returns-then-is_text-clause-stands
returns-then-is_text-clause-stands c = λ itself r p seen here.
    let a = amendment_contents c.args.inner.now.amendment.now in
    let s = before_state r in
    let none = before_none a r in
    let code = c.args.code.now in
    let key = rw c.if-is_text.true at here.key in
    let it = real_is a s none code p.item (text_of_key p.item code key) in
    let (used, at) = c.settle_real.ensures.stands itself s none seen in
    let stays_there = it.fate ∙ ap (λ (b : Bool). if b then stands else is_left_out) used in (
      one_copied a r p (change_after (λ t. false) s [] p _ key).may
          ∙ ap₂ (λ f l. bytes_in_place f (flat_map item_line l) p) stays_there it.inserted,
      seen_more c.settle_real.new.self a r p s false (ap amendment_contents c.settle_real.ensures.same)
          it.state (it.still (item_fate a s p.item) ∙ ap (λ f. none && leaves_out f) stays_there ∙ and-false none) at,
    )

pub returns-then-is_text-clause-goes : goal.returns-then-is_text-clause-goes
returns-then-is_text-clause-goes c = λ nothing r p seen here.
    let a = amendment_contents c.args.inner.now.amendment.now in
    let s = before_state r in
    let none = before_none a r in
    let code = c.args.code.now in
    let key = rw c.if-is_text.true at here.key in
    let it = real_is a s none code p.item (text_of_key p.item code key) in
    let (unused, at) = c.settle_real.ensures.goes nothing s none seen in
    let left_out = it.fate ∙ ap (λ (b : Bool). if b then stands else is_left_out) unused in (
      one_copied a r p (change_after (λ t. false) s [] p _ key).may
          ∙ ap₂ (λ f l. bytes_in_place f (flat_map item_line l) p) left_out it.inserted,
      seen_more c.settle_real.new.self a r p s none (ap amendment_contents c.settle_real.ensures.same)
          it.state (it.still (item_fate a s p.item) ∙ ap (λ f. none && leaves_out f) left_out ∙ and-true none) at,
    )

pub returns-clause-stands : goal.returns-clause-stands
returns-clause-stands c = λ itself r p seen here.
    let a = amendment_contents c.args.inner.now.amendment.now in
    let s = before_state r in
    let none = before_none a r in
    let code = c.args.code.now in
    let key = rw c.if-is_text.false at here.key in
    let v = value_is a s none code p.item (value_of_key p.item code key) in
    let (fate, at) = c.settle_value.ensures.stands itself s none v.letters seen in
    let stays_there = v.fate ∙ fate in (
      one_copied a r p (change_after (λ t. false) s [] p _ key).may
          ∙ ap₂ (λ f l. bytes_in_place f (flat_map item_line l) p) stays_there v.inserted,
      seen_more c.settle_value.new.self a r p _ false (ap amendment_contents c.settle_value.ensures.same)
          v.state (v.still (item_fate a s p.item) ∙ ap (λ f. none && leaves_out f) stays_there ∙ and-false none) at,
    )

pub returns-clause-goes : goal.returns-clause-goes
returns-clause-goes c = λ nothing r p seen here.
    let a = amendment_contents c.args.inner.now.amendment.now in
    let s = before_state r in
    let none = before_none a r in
    let code = c.args.code.now in
    let key = rw c.if-is_text.false at here.key in
    let v = value_is a s none code p.item (value_of_key p.item code key) in
    let (fate, at) = c.settle_value.ensures.goes nothing s none v.letters seen in
    let left_out = v.fate ∙ fate in (
      one_copied a r p (change_after (λ t. false) s [] p _ key).may
          ∙ ap₂ (λ f l. bytes_in_place f (flat_map item_line l) p) left_out v.inserted,
      seen_more c.settle_value.new.self a r p _ none (ap amendment_contents c.settle_value.ensures.same)
          v.state (v.still (item_fate a s p.item) ∙ ap (λ f. none && leaves_out f) left_out ∙ and-true none) at,
    )
