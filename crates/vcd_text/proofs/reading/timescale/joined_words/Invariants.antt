use Rattle.std.proofs.Common.{◌≡◌, take}
use Rattle.std.specs.List.{concat}
use Rattle.vcd_text.proofs.reading.timescale.joined_words.Given as goal

abbrev pub invariant-loop-word : goal.invariant-loop-word
invariant-loop-word l = l.text.items ≡ concat (take l.word-index l.words)
