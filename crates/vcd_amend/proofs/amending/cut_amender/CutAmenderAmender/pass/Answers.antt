use Rattle.std.proofs.Common.{◌∙◌, refl, sym}
use Rattle.vcd_text.specs.Grammar.{state_after_item}
use Rattle.vcd_copy.specs.Pieces.{state_of_pieces}
use Rattle.vcd_amend.specs.AmendmentContents.{amendment_contents}
use Rattle.vcd_amend.specs.inside.amending.CutAmender.{sent_for, cut_of}
use Rattle.vcd_amend.proofs.amending.SeenItems.{seen_more, other_passes, before_state, before_none}
use Rattle.vcd_amend.proofs.amending.CutPieces.{passed_is}
use Rattle.vcd_amend.proofs.amending.CutSteps.{plain_seen, lasts_as, kept_as}
use Rattle.vcd_amend.proofs.amending.cut_amender.CutAmenderAmender.pass.Goals as goal

pub returns-clause-seen : goal.returns-clause-seen
returns-clause-seen g c = λ limit before p at next not_it free.
    let m = c.args.self.now in
    let a = amendment_contents m.inner.amendment.now in
    let sent = sent_for (cut_of m) before in
    let (plain, declared) = passed_is p.item not_it in
    plain_seen m before at p plain m.inner m.variables
    (seen_more m.inner a sent p _ _ refl refl refl (other_passes m.inner a (before_state sent)
    (before_none a sent) p.item
    not_it at.seen))
    (λ code. at.lasting code ∙ sym (lasts_as (state_after_item (state_of_pieces 0 before) p.item)
    (state_of_pieces 0 before) code (declared (state_of_pieces 0 before))))
    (λ code. at.kept code ∙ sym (kept_as (state_after_item (state_of_pieces 0 before) p.item)
    (state_of_pieces 0 before) code (declared (state_of_pieces 0 before))))
