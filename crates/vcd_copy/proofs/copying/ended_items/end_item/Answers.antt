use Rattle.vcd_copy.specs.Pieces.{state_of_pieces}
use Rattle.std.proofs.Common.{◌≡◌, ◌∙◌, ◌++◌, ℕ, List, false, refl, sym, subst}
use Rattle.vcd_copy.specs.Copied.{may_be_amended}
use Rattle.vcd_copy.specs.inside.Copying.{HasPassed, stands_open}
use Rattle.vcd_copy.proofs.copying.ended_items.Shown.{shown_is_held, shown_is_amended, piece_is_shown, shown_parts}
use Rattle.vcd_copy.proofs.copying.ended_items.Shown.{taken_next, last_part}
use Rattle.vcd_copy.proofs.copying.ended_items.end_item.Goals as goal

pub settle_item-requires : goal.settle_item-requires
settle_item-requires g c =
    let (limit, before, p, known, begun, seen, ends, unwritten, held) = c.requires in
    let is = sym c.amendable_item.ensures ∙ c.in-Some.is in
    let m = c.args.parser.now in
    let bytes = held (shown_is_held c.args.earlier c.args.text.now m.tick m.variables.scopes.depth m.timescale
    c.in-Some.item is) in
    let shown = piece_is_shown limit before p c.args.earlier c.args.text.now m c.in-Some.item ends is in (
      limit,
      before,
      p,
      known,
      begun,
      seen,
      taken_next ends (shown_parts c.code_of.result.now p.space p.body shown c.code_of.ensures (refl, refl))
          refl,
      unwritten,
      bytes.0,
      bytes.1,
    )

pub returns-in_ok-settle_item-in-Some-clause-ended : goal.returns-in_ok-settle_item-in-Some-clause-ended
returns-in_ok-settle_item-in-Some-clause-ended g c = λ limit before p known begun seen ends unwritten held.
    let m = c.args.parser.now in
    let item = c.in-Some.item in
    let is = sym c.amendable_item.ensures ∙ c.in-Some.is in
    let still = shown_is_held c.args.earlier c.args.text.now m.tick m.variables.scopes.depth m.timescale item is in
    let bytes = held still in
    let shown = shown_parts c.code_of.result.now p.space p.body (piece_is_shown limit before p c.args.earlier
    c.args.text.now m item ends is) c.code_of.ensures (refl, refl) in
    let amended = shown_is_amended (state_of_pieces limit before) item c.code_of.result.now p.item shown.shows
    in
    rw (still, amended) (c.in_ok-settle_item-in-Some.ensures.settled limit before p known begun seen
    (taken_next ends shown refl) unwritten bytes.0 bytes.1)

pub returns-in-None-clause-ended : goal.returns-in-None-clause-ended
returns-in-None-clause-ended g c = λ limit before p known begun seen ends unwritten held.
    let is = sym c.amendable_item.ensures ∙ c.in-None.is in
    let stands : may_be_amended p.item ≡ false = rw is at ends.shown in
    let first : List ℕ = (g.A.Amender.rules (g.A.Amender.given c.args.copier.now.amender.now)).before_others before in
    rw stands (
      subst (HasPassed g.W.Sink c.args.copier.now.output c.let_stand.new.output c.let_stand.new.held.bytes.items
          c.let_stand.new.unwritten.all.now c.let_stand.new.unwritten.item.now c.args.unwritten.now.rest.now known)
          (last_part (stands_open c.args.earlier) first (c.args.copier.now.held.bytes.items ++ begun) (p.space ++
          p.body)
          (λ still. (held still).0))
          (c.let_stand.ensures.stands before known begun seen unwritten),
      c.pass.ensures.seen limit before p seen ends.next stands (c.is_comment_or_other.ensures ∙ ends.free),
    )
