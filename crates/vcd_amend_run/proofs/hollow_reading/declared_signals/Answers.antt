use Rattle.std.proofs.Common.{◌++◌, map, sym, ap, ◌∙◌, arith}
use Rattle.std.proofs.lemmas.List.{append-nil, nil_from_length}
use Rattle.vcd_core.specs.CaptureContents.{signal_contents}
use Rattle.vcd_core.specs.Outline.{without_changes}
use Rattle.vcd_amend_run.proofs.hollow_reading.declared_signals.Goals as goal

pub returns : goal.returns
returns c =
    let done = map signal_contents c.loop-signal.declared.items in
    let rest = c.loop-signal.signal-iterator.rest in
    let none = nil_from_length rest.items (omega (arith, c.in-None.ensures.steps.0, rest.ok.0)) in
    sym (c.loop-signal.invariant
    ∙ ap (λ signals. done ++ map without_changes (map signal_contents signals)) none ∙ append-nil done)
