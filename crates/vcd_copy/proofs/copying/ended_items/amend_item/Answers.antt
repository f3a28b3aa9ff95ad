use Rattle.std.proofs.Common.{◌≡◌, ◌∙◌, ◌-◌, ◌++◌, ℕ, List, [], length, take, drop, refl, sym, ap, arith}
use Rattle.std.proofs.lemmas.Bool.{eqb-true}
use Rattle.std.proofs.lemmas.List.{nil_from_length}
use Rattle.vcd_core.specs.declared.capture.ScopeName.{ScopeName}
use Rattle.vcd_copy.specs.Copied.{IsTakenNext}
use Rattle.vcd_copy.specs.Pieces.{Piece}
use Rattle.vcd_copy.specs.declared.copying.amender.AmendableItem.{AmendableItem}
use Rattle.vcd_copy.proofs.copying.ended_items.Shown.{both_ok, in_two, taken_parts}
use Rattle.vcd_copy.proofs.copying.pieces.StandingBytes.{begun_is}
use Rattle.vcd_text.proofs.shared.EmittedParts.{writes_both, writes_more, more_both, more_ended}
use Rattle.vcd_copy.proofs.copying.ended_items.amend_item.Goals as goal

-- where nothing is held, the item is shown from the chunk
shown_here : {limit : ℕ} {before : List Piece} {p : Piece} {x : AmendableItem} {code space body : List ℕ}
    {scopes : List ScopeName} (item begun rest held : List ℕ) {n : ℕ} → IsTakenNext limit before p x code scopes p.space
    p.body
    → held ++ begun ≡ p.space ++ p.body → n ≡ length p.space → held ≡ [] → item ≡ begun ++ rest
    → space ≡ take n (take (length item - length rest) item) → body ≡ drop n (take (length item - length rest) item)
    → IsTakenNext limit before p x code scopes space body
shown_here {p = p} {code = code} item begun rest held {n = n} shown bytes len none is front
    back =
    let here : take (length item - length rest) item ≡ p.space ++ p.body = begun_is item begun rest is
    ∙ ap (λ l. l ++ begun) (sym none) ∙ bytes in
    taken_parts code _ _ shown refl (in_two _ _ _ p.space p.body n front back here len)

pub returns-then-is_empty-clause-written : goal.returns-then-is_empty-clause-written
returns-then-is_empty-clause-written g c = both_ok c.take.result c.take.ensures.written c.take.ensures.seen (λ writes
    seen limit before p known begun has shown unwritten bytes len.
    let item = c.args.unwritten.now.item.now in
    let held = c.args.copier.now.held.bytes in
    let empty = nil_from_length held.items (omega (
      arith,
      eqb-true held.len 0 (sym c.is_empty.ensures ∙ c.if-is_empty.true),
      held.ok.0,
    )) in
    let next = shown_here item begun c.args.unwritten.now.rest.now held.items shown bytes len empty unwritten.item_is
    c.split_at.ensures.front c.split_at.ensures.back in (
      writes_both (c.write_standing.ensures known unwritten.all_is) (writes limit before p has next),
      seen limit before p has next,
    ))

pub returns-then-is_empty-clause-more : goal.returns-then-is_empty-clause-more
returns-then-is_empty-clause-more g c =
    let (limit, before, p, known, begun, has, shown, unwritten, bytes, len) = c.requires in
    let item = c.args.unwritten.now.item.now in
    let held = c.args.copier.now.held.bytes in
    let empty = nil_from_length held.items (omega (
      arith,
      eqb-true held.len 0 (sym c.is_empty.ensures ∙ c.if-is_empty.true),
      held.ok.0,
    )) in
    let next = shown_here item begun c.args.unwritten.now.rest.now held.items shown bytes len empty unwritten.item_is
    c.split_at.ensures.front c.split_at.ensures.back in
    more_both (writes_more (c.write_standing.ensures known unwritten.all_is)) (more_ended c.take.result
    c.take.ensures.written c.take.ensures.more (λ writes. writes_more (writes limit before p has next)))

pub returns-clause-more : goal.returns-clause-more
returns-clause-more g c =
    let (limit, before, p, known, begun, has, shown, unwritten, bytes, len) = c.requires in
    let held = c.args.copier.now.held.bytes.items in
    let all : c.as_slice.result.now ≡ p.space ++ p.body = c.as_slice.ensures.value ∙ c.in_ok-hold.ensures
    ∙ ap (λ l. held ++ l) (begun_is c.args.unwritten.now.item.now begun c.args.unwritten.now.rest.now unwritten.item_is)
    ∙ bytes in
    let next = taken_parts c.args.code.now _ _ shown refl (in_two _ _ _ p.space p.body c.args.copier.now.held.space_len
    c.split_at-2.ensures.front c.split_at-2.ensures.back all len) in
    writes_more (c.in_ok-take.ensures.written limit before p has next)
