use Rattle.std.proofs.Common.{refl}
use Rattle.vcd_amend.specs.AmendmentContents.{amendment_contents}
use Rattle.vcd_amend.proofs.amending.SeenItems.{seen_more, other_passes, before_state, before_none}
use Rattle.vcd_amend.proofs.amending.file_amender.FileAmenderAmender.pass.Goals as goal

pub returns-clause-seen : goal.returns-clause-seen
returns-clause-seen g c = λ limit before p seen next not_it free.
    let m = c.args.self.now in
    let a = amendment_contents m.amendment.now in
    seen_more m a before p _ _ refl refl refl (other_passes m a (before_state before) (before_none a before) p.item
    not_it seen)
