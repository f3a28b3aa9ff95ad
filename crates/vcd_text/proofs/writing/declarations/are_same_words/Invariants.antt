-- The words passed are the same.
use Rattle.std.proofs.Common.{◌≡◌, drop}
use Rattle.std.specs.Cmp.Lexicographic.{pointwise}
use Rattle.std.specs.Str.{bytes_eq}
use Rattle.vcd_text.proofs.writing.declarations.are_same_words.Given as goal

abbrev pub invariant-loop-k : goal.invariant-loop-k
invariant-loop-k l = pointwise bytes_eq (drop l.k l.a) (drop l.k l.b) ≡ pointwise bytes_eq l.a l.b
