use Rattle.std.proofs.Common.{map, ap, List}
use Rattle.std.specs.List.{flat_map}
use Rattle.vcd_text.specs.Text.{item_line}
use Rattle.vcd_text.proofs.shared.EmittedParts.{writes_as, writes_both}
use Rattle.vcd_amend.specs.AmendedItems.{added_declarations}
use Rattle.vcd_amend.specs.AmendmentContents.{added_contents}
use Rattle.vcd_amend.specs.declared.amendment.AddedVariable.{AddedVariable}
use Rattle.vcd_amend.proofs.amending.file_amender.write_ended.Goals as goal

pub returns : goal.returns
returns g c scopes count =
    writes_both c.write_bytes.ensures.written (writes_both (writes_as (ap (λ (l : List AddedVariable).
    flat_map item_line (added_declarations scopes (map added_contents l))) c.as_slice.ensures.value)
    (c.write_declarations.ensures scopes count)) c.write_bytes-2.ensures.written)
