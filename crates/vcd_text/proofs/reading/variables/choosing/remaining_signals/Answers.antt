use Rattle.std.proofs.Common.{◌++◌, map, sym, ap, ◌∙◌, arith}
use Rattle.std.proofs.lemmas.List.{append-nil, nil_from_length}
use Rattle.vcd_core.specs.CaptureContents.{signal_contents}
use Rattle.vcd_text.specs.inside.reading.Part.{remaining}
use Rattle.vcd_text.proofs.part.PartMeanings.{none_remains}
use Rattle.vcd_text.proofs.reading.variables.choosing.remaining_signals.Goals as goal

pub returns : goal.returns
returns c =
    let done = map signal_contents c.loop-signal.remaining.items in
    let rest = c.loop-signal.signal-iterator.rest in
    let none = nil_from_length rest.items (omega (arith, c.in-None.ensures.steps.0, rest.ok.0)) in
    sym (c.loop-signal.invariant
    ∙ ap (λ signals. done ++ remaining c.loop-signal.tests.now (map signal_contents signals)) none
    ∙ ap (λ signals. done ++ signals) (none_remains c.loop-signal.tests.now) ∙ append-nil done)
