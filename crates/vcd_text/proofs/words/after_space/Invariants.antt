use Rattle.std.proofs.Common.{◌≡◌, ◌+◌, ◌++◌, ℕ, List, true, ◌≤◌, Bool, [], length}
use Rattle.std.specs.List.{list_all}
use Rattle.vcd_core.specs.Word.{is_white_space}
use Rattle.vcd_text.specs.inside.Words.{words_from}
use Rattle.vcd_text.specs.LineFeeds.{line_feeds_in}
use Rattle.vcd_text.proofs.words.after_space.Given as goal

abbrev pub invariant-loop-byte : goal.invariant-loop-byte
invariant-loop-byte l =
    ((end_counts : Bool) → words_from end_counts [] (l.lines + 1) l.rest ≡ words_from end_counts [] (l.line_feeds + 1)
    l.text)
    × (l.lines + length l.rest ≤ l.line_feeds + length l.text)
    × (l.lines + line_feeds_in l.rest ≡ l.line_feeds + line_feeds_in l.text)
    × ((space : List ℕ) × (l.text ≡ space ++ l.rest) × (list_all is_white_space space ≡ true))

abbrev pub decreases-loop-byte : goal.decreases-loop-byte
decreases-loop-byte l = length l.rest
