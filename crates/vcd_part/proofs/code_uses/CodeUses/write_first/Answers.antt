use Rattle.std.proofs.Common.{ap, sym, ◌∙◌, ◌++◌, ◌∷◌, arith}
use Rattle.std.specs.List.{flat_map}
use Rattle.std.proofs.lemmas.Fmt.{decimal_digit}
use Rattle.vcd_text.proofs.shared.EmittedParts.{writes_as, writes_both, writes_more}
use Rattle.vcd_part.specs.PartPieces.{lasting_codes}
use Rattle.vcd_copy.specs.Pieces.{piece_bytes}
use Rattle.vcd_part.specs.inside.FirstValues.{lines_of}
use Rattle.vcd_part.proofs.code_uses.FirstPieces.{lines_are, pieces_of}
use Rattle.vcd_part.proofs.code_uses.CodeUses.write_first.Goals as goal

pub returns-clause-written : goal.returns-clause-written
returns-clause-written g c = λ r declared before held.
    let all = lasting_codes r declared in
    writes_as (ap (λ l. 10 ∷ 35 ∷ 48 ∷ l) (ap lines_of held.are ∙ lines_are declared before held.some all)
    ∙ ap (λ digits. 10 ∷ 35 ∷ (digits ++ piece_bytes (flat_map (pieces_of declared before) all)))
    (sym (decimal_digit 0 (omega arith))))
    (writes_both c.write_bytes.ensures.written c.write.ensures)

pub returns-clause-more : goal.returns-clause-more
returns-clause-more g c = writes_more (writes_both c.write_bytes.ensures.written c.write.ensures)
