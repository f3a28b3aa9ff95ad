use Rattle.std.proofs.Common.{◌≡◌, ℕ, length}
use Rattle.vcd_compare.specs.Variables as spec
use Rattle.vcd_compare.proofs.shortest_word.shortest_word.Given as goal

-- the word that is left has the same shortest word
abbrev pub invariant-loop-rest : goal.invariant-loop-rest
invariant-loop-rest l = spec.shortest_word l.rest ≡ spec.shortest_word l.text

abbrev pub decreases-loop-rest : goal.decreases-loop-rest
decreases-loop-rest l = length l.rest
