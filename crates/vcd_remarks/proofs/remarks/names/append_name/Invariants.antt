use Rattle.std.proofs.Common.{◌≡◌, ◌++◌, map, take}
use Rattle.vcd_remarks.specs.NameRemarks.{shown_byte}
use Rattle.vcd_remarks.proofs.remarks.names.append_name.Given as goal

abbrev pub invariant-loop-byte : goal.invariant-loop-byte
invariant-loop-byte l = l.text.items ≡ l.initial.text.items ++ map shown_byte (take l.byte-index l.name)
