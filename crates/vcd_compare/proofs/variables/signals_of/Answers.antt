use Rattle.std.proofs.Common.{◌∙◌, ap, arith, refl, length, List, map}
use Rattle.std.proofs.lemmas.List.{take_all, length-map}
use Rattle.vcd_core.specs.Contents.{SignalContents}
use Rattle.vcd_text.specs.Grammar.{kept_variables}
use Rattle.vcd_text.specs.inside.reading.DeclaredSignals.{declared_contents}
use Rattle.vcd_text.specs.inside.reading.Part.{undriven}
use Rattle.vcd_compare.specs.inside.Planning.{planned_signal}
use Rattle.vcd_compare.proofs.variables.Listed.{more_signals}
use Rattle.vcd_compare.proofs.variables.signals_of.Goals as goal

pub loop-position-preserved : goal.loop-position-preserved
loop-position-preserved c s at =
    more_signals s.declared (declared_contents c.signals-signals.result) c.loop-position.position _
    c.loop-position.variables.items c.push.new.self.items _ (c.signals-signals.ensures s at) c.get.ensures refl refl
    (λ d is. c.first_of.ensures s d at is) (c.loop-position.invariant s at) c.in_ok-push.ensures.items

pub returns : goal.returns
returns c s at =
    let kept = kept_variables s.declared in
    c.loop-position.invariant s at
    ∙ ap (map (planned_signal s.declared)) (take_all c.loop-position.position kept
    (omega (
      arith,
      ap (λ (l : List SignalContents). length l) (c.signals-signals.ensures s at),
      length-map kept undriven,
    )))
