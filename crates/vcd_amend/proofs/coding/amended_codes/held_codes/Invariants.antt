use Rattle.std.proofs.Common.{map, take}
use Rattle.vcd_amend.specs.inside.coding.Codes.{HasCodes}
use Rattle.vcd_amend.specs.inside.coding.ChangedWaves.{kept_contents}
use Rattle.vcd_amend.specs.inside.coding.KeptSignals.{held_codes}
use Rattle.vcd_amend.proofs.coding.amended_codes.held_codes.Given as goal

abbrev pub invariant-loop-signal : goal.invariant-loop-signal
invariant-loop-signal l = HasCodes l.held (held_codes (map kept_contents (take l.signal-index l.kept)))
