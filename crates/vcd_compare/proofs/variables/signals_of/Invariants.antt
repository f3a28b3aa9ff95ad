-- What is known of the signals so far.
use Rattle.std.proofs.Common.{◌≡◌, map, take}
use Rattle.vcd_text.specs.Grammar.{ParseState, kept_variables}
use Rattle.vcd_text.specs.inside.reading.ChangeStream.{IsStreamAt}
use Rattle.vcd_compare.specs.inside.Planning.{planned_signal}
use Rattle.vcd_compare.proofs.variables.signals_of.Given as goal

abbrev pub invariant-loop-position : goal.invariant-loop-position
invariant-loop-position l = (s : ParseState) → IsStreamAt l.stream s
    → l.variables.items ≡ map (planned_signal s.declared) (take l.position (kept_variables s.declared))
