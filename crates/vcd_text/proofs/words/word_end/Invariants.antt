use Rattle.std.proofs.Common.{◌≡◌, ◌+◌, ◌-◌, ◌≤◌, not, length, drop}
use Rattle.std.specs.List.{prefix_len}
use Rattle.vcd_core.specs.Word.{is_white_space}
use Rattle.vcd_text.proofs.words.word_end.Given as goal

abbrev pub invariant-loop-end : goal.invariant-loop-end
invariant-loop-end l =
    (l.from + prefix_len (λ b. not (is_white_space b)) (drop l.from l.text)
    ≡ l.end + prefix_len (λ b. not (is_white_space b)) (drop l.end l.text)) × (l.end ≤ length l.text)

abbrev pub decreases-loop-end : goal.decreases-loop-end
decreases-loop-end l = length l.text - l.end
