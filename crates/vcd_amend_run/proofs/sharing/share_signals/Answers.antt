use Rattle.std.proofs.Common.{◌++◌, map, sym, ap, ◌∙◌, arith}
use Rattle.std.proofs.lemmas.List.{append-nil, nil_from_length}
use Rattle.vcd_core.specs.CaptureContents.{signal_contents}
use Rattle.vcd_amend_run.proofs.sharing.share_signals.Goals as goal

pub returns-clause-first : goal.returns-clause-first
returns-clause-first c =
    let done = map signal_contents c.loop-signal.first.items in
    let rest = c.loop-signal.signal-iterator.rest in
    let none = nil_from_length rest.items (omega (arith, c.in-None.ensures.steps.0, rest.ok.0)) in
    sym (c.loop-signal.invariant.0 ∙ ap (λ signals. done ++ map signal_contents signals) none ∙ append-nil done)

pub returns-clause-second : goal.returns-clause-second
returns-clause-second c =
    let done = map signal_contents c.loop-signal.first.items in
    let rest = c.loop-signal.signal-iterator.rest in
    let none = nil_from_length rest.items (omega (arith, c.in-None.ensures.steps.0, rest.ok.0)) in
    c.loop-signal.invariant.1
    ∙ sym (c.loop-signal.invariant.0 ∙ ap (λ signals. done ++ map signal_contents signals) none ∙ append-nil done)
