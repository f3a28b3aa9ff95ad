-- Heard changes whose texts are borrowed.
use Rattle.vcd_text.specs.HeardChanges.{HeardChange}
use Rattle.vcd_text.specs.declared.reading.heard_changes.HeardChange.{HeardChange as LentChange}

-- the contents of a borrowed change
abbrev pub heard_contents : LentChange → HeardChange
heard_contents h = record { tick = h.tick; target = h.target; text = h.text.now }
