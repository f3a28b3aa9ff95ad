use Rattle.std.proofs.Common.{◌∙◌, ◌∷◌, [], ◌<◌, ◌++◌, sym, ap, arith}
use Rattle.std.proofs.lemmas.Result.{on_ok_weaker}
use Rattle.vcd_copy.specs.Pieces.{Piece, piece_bytes}
use Rattle.vcd_text.proofs.shared.EmittedParts.{writes_as, writes_both, writes_none}
use Rattle.vcd_part.specs.PartPieces.{stamp_in_part}
use Rattle.vcd_part.specs.inside.PartCopy.{settled_after, waiting_after}
use Rattle.vcd_part.proofs.amender.Decided.{one_stands}
use Rattle.vcd_part.proofs.shared.PutPieces.{later_in_part, first_in_part}
use Rattle.vcd_part.proofs.shared.SettledPieces.{stamp_waits, first_stamp_settles}
use Rattle.vcd_part.proofs.amender.stamps.put_within.Goals as goal

pub returns-then-stamp-eq0-clause-put : goal.returns-then-stamp-eq0-clause-put
returns-then-stamp-eq0-clause-put g c = λ p digits is number space body w held.
    let window = c.args.window in
    let tick = c.args.stamp.tick in
    let stands = first_in_part window p digits tick is number c.requires.within c.if-stamp-eq0.true in
    let settled = first_stamp_settles w p stands.1 stands.2 in (
      writes_as ((λ i. sym space i ++ sym body i) ∙ sym (one_stands p)
          ∙ ap piece_bytes (sym settled.0 ∙ ap (λ (q : Piece). settled_after w (q ∷ [])) (sym stands.0)))
          (writes_both c.write_bytes.ensures.written c.write_bytes-then-stamp-eq0.ensures.written),
      c.clear.ensures.items
          ∙ ap piece_bytes (sym settled.1 ∙ ap (λ (q : Piece). waiting_after w (q ∷ [])) (sym stands.0)),
    )

pub returns-clause-put : goal.returns-clause-put
returns-clause-put g c = on_ok_weaker c.spell_stamp_in_part.result (λ spelled p digits is number space body w held.
    let window = c.args.window in
    let tick = c.args.stamp.tick in
    let some : 0 < tick = omega arith in
    let waits = stamp_waits w (stamp_in_part window p tick)
    (later_in_part window p digits tick is number c.requires.within c.requires.fits some) in (
      writes_as (ap piece_bytes (sym waits.0)) writes_none,
      spelled p space body ∙ ap piece_bytes (sym waits.1),
    )) c.spell_stamp_in_part.ensures
