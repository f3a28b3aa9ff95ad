use Rattle.std.proofs.Common.{◌∙◌, [], Bool, sym, ap, if◌then◌else◌}
use Rattle.vcd_copy.specs.Pieces.{piece_bytes}
use Rattle.vcd_text.proofs.shared.EmittedParts.{writes_as}
use Rattle.vcd_part.specs.PartPieces.{first_pieces}
use Rattle.vcd_part.proofs.amender.Waiting.{first_pieces_settle}
use Rattle.vcd_part.proofs.shared.PutPieces.{none_put, put_as}
use Rattle.vcd_part.proofs.amender.stamps.write_first_if.Goals as goal

pub returns-then-is_due-clause-put : goal.returns-then-is_due-clause-put
returns-then-is_due-clause-put g c = λ r declared before holds.
    let first = first_pieces r declared before in
    put_as g.W.Sink _ _ _ _ first _ (ap (λ (b : Bool). if b then first else []) (sym c.if-is_due.true)) (λ w held.
    let settled = first_pieces_settle r declared before w in (
      writes_as (ap piece_bytes (sym settled.0))
          (c.write_first.ensures.written r declared before (holds c.if-is_due.true)),
      c.clear.ensures.items ∙ ap piece_bytes (sym settled.1),
    ))

pub returns-else-is_due-clause-put : goal.returns-else-is_due-clause-put
returns-else-is_due-clause-put g c = λ r declared before holds.
    let first = first_pieces r declared before in
    put_as g.W.Sink _ _ _ _ [] _ (ap (λ (b : Bool). if b then first else []) (sym c.if-is_due.false))
    (none_put g.W.Sink _ _)
