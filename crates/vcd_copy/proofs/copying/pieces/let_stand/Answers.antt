use Rattle.std.proofs.Common.{◌≡◌, ◌∙◌, inr, true, false, List, ℕ, [], refl, sym, ap, subst}
use Rattle.vcd_text.specs.EmittedText.{Emits}
use Rattle.vcd_copy.specs.inside.Copying.{stands_open}
use Rattle.vcd_copy.proofs.copying.pieces.StandingBytes.{stands_up_to, part_written, nothing_added}
use Rattle.vcd_text.proofs.shared.EmittedParts.{writes_both, writes_none, writes_more}
use Rattle.vcd_copy.proofs.copying.pieces.let_stand.Goals as goal
use Rattle.vcd_copy.proofs.copying.pieces.let_stand.Goals.{then-not-stands, else-not-stands}

pub returns-clause-stands : goal.returns-clause-stands
returns-clause-stands g c = λ before known begun seen unwritten.
    let first : List ℕ = (g.A.Amender.rules (g.A.Amender.given c.args.amender.now)).before_others before in
    let held : List ℕ = c.args.held.now.bytes.items in
    elim c.if-not-stands.branch [
      | then-not-stands w ↦
          let is : stands_open c.args.earlier ≡ false = sym c.stands.ensures ∙ w.if-not-stands.true in
          rw is (stands_up_to _ known [] begun first unwritten
          (ap (λ (u : _). u.all.now) w.unwritten-is ∙ w.write_before_item.ensures.all) (inr refl)
          (part_written known first (w.write_before_item.ensures.written before known seen unwritten.all_is))
          (subst (λ o. Emits g.W.Sink o c.write_held.new.output held) w.output-is c.write_held.ensures.written)
          c.write_held.ensures.none)
      | else-not-stands w ↦
          let is : stands_open c.args.earlier ≡ true = sym c.stands.ensures ∙ w.if-not-stands.false in
          rw is (stands_up_to _ known known begun [] unwritten
          (ap (λ (u : _). u.all.now) w.unwritten-is ∙ unwritten.all_is) unwritten.one
          (nothing_added known writes_none)
          (subst (λ o. Emits g.W.Sink o c.write_held.new.output held) w.output-is c.write_held.ensures.written)
          c.write_held.ensures.none)
    ]

pub returns-clause-more : goal.returns-clause-more
returns-clause-more g c =
    let (before, known, begun, seen, unwritten) = c.requires in
    let held : List ℕ = c.args.held.now.bytes.items in
    elim c.if-not-stands.branch [
      | then-not-stands w ↦ writes_more (writes_both (w.write_before_item.ensures.written before known seen
          unwritten.all_is) (subst (λ o. Emits g.W.Sink o c.write_held.new.output held) w.output-is
          c.write_held.ensures.written))
      | else-not-stands w ↦ writes_more (subst (λ o. Emits g.W.Sink o c.write_held.new.output held) w.output-is
          c.write_held.ensures.written)
    ]
