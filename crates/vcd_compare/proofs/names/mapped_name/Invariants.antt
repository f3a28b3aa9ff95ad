-- No map so far fits.
use Rattle.std.proofs.Common.{◌≡◌, drop}
use Rattle.vcd_compare.specs.Captures as spec
use Rattle.vcd_compare.proofs.names.mapped_name.Given as goal

abbrev pub invariant-loop-map : goal.invariant-loop-map
invariant-loop-map l = spec.mapped_name l.maps l.name ≡ spec.mapped_name (drop l.map-index l.maps) l.name
