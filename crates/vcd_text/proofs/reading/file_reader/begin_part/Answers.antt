use Rattle.std.proofs.Common.{◌≡◌, List, subst, sym}
use Rattle.vcd_core.specs.Contents.{SignalContents}
use Rattle.vcd_text.specs.inside.reading.Part.{Asked, IsAskedPart, asked_by}
use Rattle.vcd_text.specs.declared.reading.part.Part.{Part}
use Rattle.vcd_text.proofs.reading.file_reader.begin_part.Goals as goal

-- a part of signals is one of the same signals
of_same_signals : (asked : Asked) (ss signals : List SignalContents) (part new : Part) → ss ≡ signals → new ≡ part
    → IsAskedPart asked ss part → IsAskedPart asked signals new
of_same_signals asked ss signals part new same is asks =
    subst (λ p. IsAskedPart asked signals p) (sym is) (subst (λ l. IsAskedPart asked l part) same asks)

pub returns-clause-begins : goal.returns-clause-begins
returns-clause-begins g c = c.in_ok-end_definitions.ensures.begins

pub returns-clause-asked : goal.returns-clause-asked
returns-clause-asked g c = λ d k. of_same_signals
    (asked_by g.C.Choice.takes g.C.Choice.ticks c.args.choice.now) _ _ c.in_ok-part.part
    c.end_definitions.new.self.part (c.declared_signals-signals.ensures d k) c.in_ok-end_definitions.ensures.part
    c.in_ok-part.ensures
