use Rattle.std.proofs.Common.{◌≡◌, map, take}
use Rattle.vcd_amend.specs.inside.coding.KeptSignals.{changed_waves}
use Rattle.vcd_amend.specs.inside.coding.ChangedWaves.{kept_contents, new_waves_of, LeadsToWaves, AreIndices}
use Rattle.vcd_amend.proofs.coding.changed_waves.changed_waves.Given as goal

abbrev pub invariant-loop-signal : goal.invariant-loop-signal
invariant-loop-signal l = record {
  waves : new_waves_of l.changed.waves.items ≡ changed_waves (map kept_contents (take l.signal-index l.kept));
  leads : LeadsToWaves l.changed;
  indices : AreIndices (new_waves_of l.changed.waves.items) (map kept_contents (take l.signal-index l.kept))
      l.indices.items;
}
