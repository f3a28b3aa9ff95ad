use Rattle.std.proofs.Common.{◌∙◌, refl, sym, ap}
use Rattle.vcd_copy.specs.Pieces.{piece_bytes, state_of_pieces}
use Rattle.vcd_part.specs.inside.PartCopy.{waiting_stamp}
use Rattle.vcd_part.proofs.amender.Comments.{counted_passed}
use Rattle.vcd_part.proofs.amender.States.{next_allowed, next_some}
use Rattle.vcd_part.proofs.amender.Steps.{seen_more, other_passes}
use Rattle.vcd_part.proofs.amender.Waiting.{seen_with, known_counted}
use Rattle.vcd_part.proofs.shared.StampItems.{other_no_stamp}
use Rattle.vcd_part.proofs.shared.SettledPieces.{none_waits, other_stands}
use Rattle.vcd_part.proofs.amender.PartAmenderAmender.pass.Goals as goal

pub returns-clause-seen : goal.returns-clause-seen
returns-clause-seen g c = λ limit before p seen next not_it is.
    let m = c.args.self.now in
    let n = c.count-self.result in
    seen_with (record m { comments = n }) c.clear.new.self before p _ (other_stands m.request before p not_it)
    (known_counted m n _ _ (seen_more m before p _ refl (other_passes limit m before p (state_of_pieces 0 before) not_it
    (next_allowed limit before p p.space p.body next) (next_some limit before p p.space p.body next) seen.known)))
    (c.clear.ensures.items
    ∙ ap piece_bytes (sym (none_waits (waiting_stamp m.request before) p (other_no_stamp p.item not_it))))
    (c.count-self.ensures ∙ counted_passed m.comments c.args.is_comment_or_other before p is seen.comments)
