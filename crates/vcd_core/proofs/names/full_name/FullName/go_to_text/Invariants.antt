use Rattle.std.proofs.Common.{◌≡◌, length}
use Rattle.vcd_core.specs.FullName.{name_bytes}
use Rattle.vcd_core.proofs.names.full_name.FullName.go_to_text.Given as goal

abbrev pub invariant-loop-word : goal.invariant-loop-word
invariant-loop-word l = name_bytes l.self ≡ name_bytes l.fn.self

abbrev pub decreases-loop-word : goal.decreases-loop-word
decreases-loop-word l = length l.self.words.now
