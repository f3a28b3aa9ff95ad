-- The signals of the name so far.
use Rattle.std.proofs.Common.{◌≡◌, take}
use Rattle.std.specs.List.{count_by}
use Rattle.std.specs.Str.{bytes_eq}
use Rattle.vcd_core.specs.CaptureContents.{signal_contents}
use Rattle.vcd_core.specs.FullName.{name_bytes}
use Rattle.vcd_core.specs.Names.{full_name}
use Rattle.vcd_remarks.proofs.remarks.names.count_of_name.Given as goal

abbrev pub invariant-loop-signal : goal.invariant-loop-signal
invariant-loop-signal l =
    l.count ≡ count_by (λ s. bytes_eq (name_bytes l.name) (full_name (signal_contents s)))
    (take l.signal-index l.capture.signals)
