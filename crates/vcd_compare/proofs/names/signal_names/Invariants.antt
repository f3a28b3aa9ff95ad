-- The names so far.
use Rattle.std.proofs.Common.{◌≡◌, take}
use Rattle.vcd_core.specs.Names.{full_names}
use Rattle.vcd_text.specs.inside.reading.DeclaredSignals.{declared_contents}
use Rattle.vcd_compare.specs.inside.Pairing.{texts}
use Rattle.vcd_compare.proofs.names.signal_names.Given as goal

abbrev pub invariant-loop-position : goal.invariant-loop-position
invariant-loop-position l = texts l.names.items ≡ full_names (take l.position (declared_contents l.signals))
