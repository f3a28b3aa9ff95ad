-- The letters passed come after the earlier text.
use Rattle.std.proofs.Common.{◌≡◌, ◌++◌, take}
use Rattle.vcd_text.specs.Letters.{printed_letters}
use Rattle.vcd_compare_program.proofs.text_parts.append_letters.Given as goal

abbrev pub invariant-loop-k : goal.invariant-loop-k
invariant-loop-k l = l.text.items ≡ l.initial.text.items ++ printed_letters (take l.k l.value)
