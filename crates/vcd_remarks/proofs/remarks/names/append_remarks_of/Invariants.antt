-- The text so far and the remarks on the names of the signals left make the whole text.
use Rattle.std.proofs.Common.{◌≡◌, ◌++◌, drop}
use Rattle.std.specs.List.{filter_map, flat_map}
use Rattle.vcd_core.specs.CaptureContents.{contents}
use Rattle.vcd_core.specs.Names.{full_names}
use Rattle.vcd_remarks.specs.NameRemarks.{name_remark}
use Rattle.vcd_remarks.specs.Remarks.{remarks_text}
use Rattle.vcd_remarks.proofs.remarks.names.append_remarks_of.Given as goal

abbrev pub invariant-loop-signal : goal.invariant-loop-signal
invariant-loop-signal l =
    l.text.items ++ remarks_text l.number (flat_map (name_remark (full_names (contents l.capture).signals) l.line)
    (filter_map (λ signal. signal) (drop l.signal-index l.signals)))
    ≡ l.initial.text.items ++ remarks_text l.number
    (flat_map (name_remark (full_names (contents l.capture).signals) l.line)
    (filter_map (λ signal. signal) l.signals))
