use Rattle.std.proofs.Common.{◌≡◌, ◌++◌, take}
use Rattle.std.specs.List.{flat_map}
use Rattle.vcd_compare_program.specs.JsonText.{escaped}
use Rattle.vcd_compare_program.proofs.json_text.append_string.Given as goal

abbrev pub invariant-loop-byte : goal.invariant-loop-byte
invariant-loop-byte l =
    l.text.items ≡ l.initial.text.items ++ flat_map escaped (take l.byte-index l.bytes)
