-- The words so far are appended.
use Rattle.std.proofs.Common.{◌≡◌, ◌++◌, take}
use Rattle.std.specs.List.{concat}
use Rattle.vcd_part.proofs.scope_paths.append_words.Given as goal

abbrev pub invariant-loop-word : goal.invariant-loop-word
invariant-loop-word l = l.path.items ≡ l.initial.path.items ++ concat (take l.word-index l.words)
