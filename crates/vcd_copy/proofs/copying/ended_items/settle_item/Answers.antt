use Rattle.std.proofs.Common.{◌∙◌, ◌++◌, [], refl, sym, ap, subst, append-nil}
use Rattle.vcd_copy.specs.Copied.{CopyRules, IsTakenNext}
use Rattle.vcd_text.specs.EmittedText.{Emits}
use Rattle.vcd_copy.specs.inside.Copying.{HasPassed}
use Rattle.vcd_copy.proofs.copying.pieces.StandingBytes.{stands_up_to, part_written, nothing_added}
use Rattle.vcd_text.proofs.shared.EmittedParts.{writes_as, writes_none, writes_more}
use Rattle.vcd_copy.proofs.copying.ended_items.settle_item.Goals as goal

pub returns-in-Itself-clause-settled : goal.returns-in-Itself-clause-settled
returns-in-Itself-clause-settled g c = λ limit before p known begun seen taken unwritten bytes len.
    let (same, later) = c.in-Itself.ensures.stands refl limit before p seen taken.shown in (
      subst (HasPassed g.W.Sink c.args.copier.now.output c.write_held.new.output c.write_held.new.held.bytes.items
          c.args.unwritten.now.all.now c.args.unwritten.now.rest.now c.args.unwritten.now.rest.now known) (bytes ∙ sym
          same)
          (stands_up_to _ known known begun [] unwritten unwritten.all_is unwritten.one
          (nothing_added known writes_none) c.write_held.ensures.written c.write_held.ensures.none),
      later,
    )

pub returns-in-Itself-clause-more : goal.returns-in-Itself-clause-more
returns-in-Itself-clause-more g c = writes_more c.write_held.ensures.written

pub returns-in-Nothing-clause-settled : goal.returns-in-Nothing-clause-settled
returns-in-Nothing-clause-settled g c = λ limit before p known begun seen taken unwritten bytes len.
    let (none, later) = c.in-Nothing.ensures.goes refl limit before p seen taken.shown in (
      record {
        later = [];
        all_is = c.leave_out.ensures.all;
        item_is = c.leave_out.ensures.item;
        none = c.leave_out.ensures.none;
        adds = part_written known _ (writes_as (sym (ap (λ l. known ++ l) none ∙ append-nil known))
            (c.leave_out.ensures.written known unwritten.all_is));
      },
      later,
    )

pub returns-in_ok-amend_item-in-Other-clause-settled : goal.returns-in_ok-amend_item-in-Other-clause-settled
returns-in_ok-amend_item-in-Other-clause-settled g c = λ limit before p known begun seen taken unwritten bytes len.
    let same = c.in-Other.ensures.unchanged refl in
    let now = subst (λ s. IsTakenNext limit before p c.args.item c.args.code.now s p.space p.body)
    (sym c.opened-scopes.ensures) taken in
    let (writes, later) = c.in_ok-amend_item-in-Other.ensures.written limit before p known begun
    (subst (λ a. g.A.Amender.has_seen a before) (sym same) seen) now unwritten bytes len in (
      record {
        later = [];
        all_is = refl;
        item_is = refl;
        none = c.in_ok-amend_item-in-Other.ensures.none;
        adds = part_written known _ (subst (λ (r : CopyRules). Emits g.W.Sink c.args.copier.now.output
            c.amend_item.new.copier.output
            (known ++ r.in_place before p)) (ap g.A.Amender.rules c.settle.ensures.same) writes);
      },
      later,
    )
