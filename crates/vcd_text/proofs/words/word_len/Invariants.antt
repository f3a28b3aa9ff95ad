use Rattle.std.proofs.Common.{◌≡◌, ◌+◌, ◌-◌, ◌≤◌, not, length, drop}
use Rattle.std.specs.List.{prefix_len}
use Rattle.vcd_core.specs.Word.{is_white_space}
use Rattle.vcd_text.proofs.words.word_len.Given as goal

abbrev pub invariant-loop-len : goal.invariant-loop-len
invariant-loop-len l =
    (prefix_len (λ b. not (is_white_space b)) l.text
    ≡ l.len + prefix_len (λ b. not (is_white_space b)) (drop l.len l.text)) × (l.len ≤ length l.text)

abbrev pub decreases-loop-len : goal.decreases-loop-len
decreases-loop-len l = length l.text - l.len
