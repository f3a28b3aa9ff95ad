use Rattle.std.proofs.Common.{rules, ◌↔◌, IsTrue, All}
use Rattle.std.proofs.lemmas.List.Elements.{All-map}
use Rattle.vcd_core.specs.declared.capture.Signal.{Signal}
use Rattle.vcd_core.specs.CaptureContents.{signal_contents}
use Rattle.vcd_core.specs.Sound.{IsSoundSignal}
use Rattle.vcd_edit.proofs.fitting.FittingPieces.{unmapped}
use Rattle.vcd_edit.proofs.fitting.sound_names.are_sound.Goals as goal

pub returns : goal.returns
returns c =
    let each : IsTrue c.all.result ↔ All (λ (s : Signal). IsSoundSignal c.args.end (signal_contents s))
    c.args.signals.now = search rules in (
      (λ yes. All-map (IsSoundSignal c.args.end) signal_contents c.args.signals.now (each.0 yes)),
      (λ all. each.1 (unmapped (IsSoundSignal c.args.end) signal_contents c.args.signals.now all)),
    )
