use Rattle.std.proofs.Common.{List, map, not, ap, ◌∙◌}
use Rattle.vcd_core.specs.declared.bit.Bit.{Bit}
use Rattle.vcd_core.specs.Value.{same_letters}
use Rattle.vcd_edit.specs.Operators.{not_bit}
use Rattle.vcd_remarks.proofs.change_finders.InvertedTwice.{z_differs}
use Rattle.vcd_remarks.proofs.change_finders.has_z.Goals as goal

pub returns : goal.returns
returns c =
    let v : List Bit = c.args.value.now in
    c.ne.ensures
    ∙ ap (λ (w : List Bit). not (same_letters w v)) (c.inverse_of-2.ensures ∙ ap (map not_bit) c.inverse_of.ensures)
    ∙ z_differs v
