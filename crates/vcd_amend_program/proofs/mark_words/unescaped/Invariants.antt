-- The bytes so far are written as the front of the word.
use Rattle.std.proofs.Common.{◌≡◌, ◌++◌, length}
use Rattle.std.specs.List.{flat_map}
use Rattle.vcd_copy.specs.MarkText.{escaped_byte}
use Rattle.vcd_amend_program.proofs.mark_words.unescaped.Given as goal

abbrev pub invariant-loop-rest : goal.invariant-loop-rest
invariant-loop-rest l = l.word ≡ flat_map escaped_byte l.bytes.items ++ l.rest

abbrev pub decreases-loop-rest : goal.decreases-loop-rest
decreases-loop-rest l = length l.rest
