use Rattle.std.proofs.Common.{◌≡◌, ◌∙◌, ◌++◌, List, sym, ap}
use Rattle.std.proofs.lemmas.List.{append-nil}
use Rattle.vcd_copy.specs.Pieces.{Piece, piece_bytes, state_of_pieces}
use Rattle.vcd_text.proofs.shared.EmittedParts.{writes_as}
use Rattle.vcd_part.specs.PartPieces.{first_pieces}
use Rattle.vcd_part.specs.inside.PartCopy.{waiting_stamp, last_settled}
use Rattle.vcd_part.proofs.amender.Ended.{due_at_end, none_at_end, end_pieces}
use Rattle.vcd_part.proofs.amender.Waiting.{first_pieces_settle}
use Rattle.vcd_part.proofs.shared.SettledPieces.{none_settle}
use Rattle.vcd_part.proofs.amender.PartAmender.write_end.Goals as goal

pub returns-then-is_first_due : goal.returns-then-is_first_due
returns-then-is_first_due g c = λ pieces seen.
    let m = c.args.self.now in
    let ds = (state_of_pieces 0 pieces).declared in
    let first : List Piece = first_pieces m.request ds pieces in
    let w : List Piece = waiting_stamp m.request pieces in
    let (are, held) = due_at_end m pieces seen.known (sym c.is_first_due.ensures ∙ c.if-is_first_due.true) in
    let settled = first_pieces_settle m.request ds pieces w in
    let whole : last_settled w (end_pieces m.request pieces) ≡ first = ap (last_settled w) are
    ∙ (λ i. settled.0 i ++ settled.1 i) ∙ append-nil first in
    writes_as (sym (append-nil (piece_bytes (last_settled w (end_pieces m.request pieces))) ∙ ap piece_bytes whole))
    (c.write_first.ensures.written m.request ds pieces held)

pub returns : goal.returns
returns g c = λ pieces seen.
    let m = c.args.self.now in
    let w : List Piece = waiting_stamp m.request pieces in
    let none = none_at_end m pieces seen.known (sym c.is_first_due.ensures ∙ c.if-is_first_due.false) in
    let settled = none_settle w in
    let whole : last_settled w (end_pieces m.request pieces) ≡ w = ap (last_settled w) none
    ∙ (λ i. settled.0 i ++ settled.1 i) in
    writes_as (c.as_slice.ensures.value ∙ seen.waiting
    ∙ sym (append-nil (piece_bytes (last_settled w (end_pieces m.request pieces))) ∙ ap piece_bytes whole))
    c.write_bytes.ensures.written
