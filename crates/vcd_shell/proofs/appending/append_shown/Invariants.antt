use Rattle.std.proofs.Common.{◌≡◌, ◌++◌, take}
use Rattle.vcd_shell.specs.Shown.{shown}
use Rattle.vcd_shell.proofs.appending.append_shown.Given as goal

abbrev pub invariant-loop-byte : goal.invariant-loop-byte
invariant-loop-byte l = l.text.items ≡ l.initial.text.items ++ shown (take l.byte-index l.bytes)
