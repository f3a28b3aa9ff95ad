use Rattle.std.proofs.Common.{◌∙◌, ◌∷◌, [], ◌++◌, Bool, List, sym, ap, if◌then◌else◌, ℕ}
use Rattle.vcd_copy.specs.Pieces.{piece_bytes}
use Rattle.vcd_text.proofs.shared.EmittedParts.{writes_as, writes_both}
use Rattle.vcd_part.proofs.amender.Decided.{one_stands}
use Rattle.vcd_part.proofs.shared.PutPieces.{none_put, put_as, bytes_of_both}
use Rattle.vcd_part.proofs.shared.SettledPieces.{one_settled, none_waits}
use Rattle.vcd_part.proofs.amender.changes.write_change_if.Goals as goal

pub returns-then-stands : goal.returns-then-stands
returns-then-stands g c = λ p isnt space body.
    put_as g.W.Sink _ _ _ _ (p ∷ []) _ (ap (λ (b : Bool). if b then p ∷ [] else []) (sym c.if-stands.true))
    (λ w held. (
      writes_as ((λ i. (c.as_slice.ensures.value ∙ held) i ++ (sym space i ++ sym body i))
          ∙ ap (λ (l : List ℕ). piece_bytes w ++ l) (sym (one_stands p))
          ∙ sym (ap piece_bytes (one_settled w p isnt) ∙ bytes_of_both w (p ∷ [])))
          (writes_both c.write_bytes.ensures.written
          (writes_both c.write_bytes-then-stands.ensures.written c.write_bytes-then-stands-2.ensures.written)),
      c.clear.ensures.items ∙ ap piece_bytes (sym (none_waits w p isnt)),
    ))

pub returns-else-stands : goal.returns-else-stands
returns-else-stands g c = λ p isnt space body.
    put_as g.W.Sink _ _ _ _ [] _ (ap (λ (b : Bool). if b then p ∷ [] else []) (sym c.if-stands.false))
    (none_put g.W.Sink _ _)
