use Rattle.std.proofs.Common.{◌≡◌, ◌<◌, ℕ, true, false, length, map}
use Rattle.std.specs.Prelude.{nat_eq, slice_index_or}
use Rattle.std.specs.HashSet.{contains}
use Rattle.vcd_core.specs.CaptureContents.{signal_contents}
use Rattle.vcd_core.specs.Contents.{no_signal}
use Rattle.vcd_core.specs.Names.{full_name}
use Rattle.vcd_amend_run.specs.inside.NameHash.{name_hash}
use Rattle.vcd_amend_run.proofs.heard_names.HeardNames.take_all.Given as goal

abbrev pub invariant-loop-signal : goal.invariant-loop-signal
invariant-loop-signal l = (k : ℕ) → k < length l.yielded → slice_index_or l.heard k false ≡ true
    → contains nat_eq l.self.hashes (name_hash (full_name (slice_index_or (map signal_contents l.signals) k no_signal)))
    ≡ true
