-- The names so far, mapped.
use Rattle.std.proofs.Common.{◌≡◌, map, take}
use Rattle.vcd_compare.specs.Captures as spec
use Rattle.vcd_compare.specs.inside.Pairing.{texts}
use Rattle.vcd_compare.proofs.names.mapped_names.Given as goal

abbrev pub invariant-loop-name : goal.invariant-loop-name
invariant-loop-name l = texts l.mapped.items ≡ map (spec.mapped_name l.maps) (texts (take l.name-index l.names))
