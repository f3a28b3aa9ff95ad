use Rattle.std.proofs.Common.{ap, sym, ◌∷◌, []}
use Rattle.vcd_text.proofs.shared.EmittedParts.{writes_as, writes_both}
use Rattle.vcd_amend.specs.AmendedItems.{declaration_fate}
use Rattle.vcd_amend.specs.AmendedText.{bytes_in_place}
use Rattle.vcd_amend.specs.inside.amending.FileAmender.{piece_of_variable}
use Rattle.vcd_amend.specs.inside.amending.VariableLeft.{fate_of_left}
use Rattle.vcd_amend.specs.declared.amending.file_amender.VariableLeft.{VariableLeft}
use Rattle.vcd_amend.proofs.amending.file_amender.write_left.Goals as goal

pub returns-in-Changed : goal.returns-in-Changed
returns-in-Changed g c = λ old own is.
    let kind = c.args.declared.kind.now in
    let size = c.args.declared.size.now in
    writes_as (ap (λ (l : VariableLeft). bytes_in_place (declaration_fate (fate_of_left l) (kind ∷ size ∷ old ∷ own)) []
    (piece_of_variable c.args.space.now c.args.body.now kind size old own)) (sym c.in-Changed.is))
    (writes_both c.write_bytes.ensures.written (c.write_changed.ensures old own is))
