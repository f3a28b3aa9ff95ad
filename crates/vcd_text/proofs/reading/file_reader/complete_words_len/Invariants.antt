use Rattle.std.proofs.Common.{◌≡◌, ◌≤◌, true, not, drop, length}
use Rattle.std.specs.List.{list_all}
use Rattle.vcd_core.specs.Word.{is_white_space}
use Rattle.vcd_text.proofs.reading.file_reader.complete_words_len.Given as goal

abbrev pub invariant-loop-len : goal.invariant-loop-len
invariant-loop-len l = (l.unfinished_len ≤ l.len) × (l.len ≤ length l.bytes)
    × (list_all (λ b. not (is_white_space b)) (drop l.len l.bytes) ≡ true)

abbrev pub decreases-loop-len : goal.decreases-loop-len
decreases-loop-len l = l.len
