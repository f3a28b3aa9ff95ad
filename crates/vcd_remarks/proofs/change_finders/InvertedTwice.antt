-- A value that is inverted twice differs from itself where a letter is z.
use Rattle.std.proofs.Common.{◌≡◌, not, List, [], ◌∷◌, map, refl}
use Rattle.std.specs.List.{list_any}
use Rattle.vcd_core.specs.declared.bit.Bit.{Bit}
use Rattle.vcd_core.specs.declared.bit.Bit.TheVariants.{Zero, One, X, Z}
use Rattle.vcd_core.specs.Value.{same_letters}
use Rattle.vcd_edit.specs.Operators.{not_bit}
use Rattle.vcd_remarks.specs.EditFindings.{is_z}

pub z_differs : (v : List Bit) → not (same_letters (map not_bit (map not_bit v)) v) ≡ list_any is_z v
z_differs [] = refl
z_differs (Zero ∷ v) = z_differs v
z_differs (One ∷ v) = z_differs v
z_differs (X ∷ v) = z_differs v
z_differs (Z ∷ v) = refl
