-- The changes passed are written.
use Rattle.std.proofs.Common.{take}
use Rattle.vcd_text.specs.EmittedText.{Emits}
use Rattle.vcd_part.specs.inside.FirstValues.{bodies, lines_of}
use Rattle.vcd_part.proofs.first_values.FirstValues.write.Given as goal

abbrev pub invariant-loop-value : goal.invariant-loop-value
invariant-loop-value g l =
    Emits g.W.Sink l.initial.output l.output (lines_of (take l.value-index (bodies l.self)))
