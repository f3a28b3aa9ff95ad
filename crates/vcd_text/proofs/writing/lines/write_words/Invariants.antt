-- The words passed are written.
use Rattle.std.proofs.Common.{drop}
use Rattle.vcd_text.specs.inside.writing.Lines.{spaced_words}
use Rattle.vcd_text.proofs.shared.EmittedParts.{WritesPrefix}
use Rattle.vcd_text.proofs.writing.lines.write_words.Given as goal

abbrev pub invariant-loop-word : goal.invariant-loop-word
invariant-loop-word g l =
    WritesPrefix g.W.Sink l.initial.output l.output (spaced_words (drop l.word-index l.words)) (spaced_words l.words)
