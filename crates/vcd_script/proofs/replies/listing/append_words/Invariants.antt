-- The text so far and the words left make the whole text.
use Rattle.std.proofs.Common.{◌≡◌, ◌++◌, drop}
use Rattle.std.specs.List.{concat}
use Rattle.vcd_script.proofs.replies.listing.append_words.Given as goal

abbrev pub invariant-loop-word : goal.invariant-loop-word
invariant-loop-word l = l.text.items ++ concat (drop l.word-index l.words) ≡ l.initial.text.items ++ concat l.words
