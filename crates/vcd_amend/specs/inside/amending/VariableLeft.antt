-- What is left of a variable.
use Rattle.std.specs.Prelude.{ℕ, Bool, false, List, bytes_eq}
use Rattle.vcd_amend.specs.Amendment as spec
use Rattle.vcd_amend.specs.declared.amending.file_amender.VariableLeft.{VariableLeft}
use Rattle.vcd_amend.specs.declared.amending.file_amender.VariableLeft.TheVariants as lefts

-- the fate that leaves it
abbrev pub fate_of_left : VariableLeft → spec.Fate
fate_of_left lefts.All = spec.stays
fate_of_left lefts.Nothing = spec.is_removed
fate_of_left (lefts.Changed words code) = spec.is_changed words.now code.now

-- whether what a fate leaves of a variable of this code has another code
abbrev pub has_left : (key : List ℕ) → spec.Fate → (own : List ℕ) → Bool
has_left key spec.stays own = bytes_eq key own
has_left key spec.is_removed own = false
has_left key (spec.is_changed words code) own = bytes_eq key code
