use Rattle.std.proofs.Common.{rules, ◌↔◌, IsTrue, All, List, map, subst, arith}
use Rattle.std.proofs.lemmas.List.{length-map}
use Rattle.std.proofs.lemmas.List.Elements.{All-map}
use Rattle.std.proofs.Math.ListN.{get_or-map}
use Rattle.vcd_core.specs.declared.capture.Signal.{Signal}
use Rattle.vcd_core.specs.Contents.{SignalContents}
use Rattle.vcd_core.specs.CaptureContents.{signal_contents}
use Rattle.vcd_core.specs.Sound.{IsSoundSignal}
use Rattle.vcd_core.proofs.soundness.are_signals_sound.Goals as goal

-- a fact about the contents of each signal
unmapped : (P : SignalContents → Type 0) (signals : List Signal) → All P (map signal_contents signals)
    → All (λ s. P (signal_contents s)) signals
unmapped P signals all k d within =
    subst P (get_or-map signal_contents signals k d)
    (all k (signal_contents d) (omega (arith, length-map signals signal_contents)))

pub returns : goal.returns
returns c =
    let each : IsTrue c.all.result ↔ All (λ (s : Signal). IsSoundSignal c.args.end (signal_contents s))
    c.args.signals.now = search rules in (
      (λ yes. All-map (IsSoundSignal c.args.end) signal_contents c.args.signals.now (each.0 yes)),
      (λ all. each.1 (unmapped (IsSoundSignal c.args.end) c.args.signals.now all)),
    )
