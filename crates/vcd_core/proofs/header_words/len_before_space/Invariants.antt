use Rattle.std.proofs.Common.{◌≡◌, true, not, take}
use Rattle.std.specs.List.{list_all}
use Rattle.vcd_core.specs.inside.HeaderWords.{is_space}
use Rattle.vcd_core.proofs.header_words.len_before_space.Given as goal

abbrev pub invariant-loop-i : goal.invariant-loop-i
invariant-loop-i l = list_all (λ b. not (is_space b)) (take l.i l.text) ≡ true
