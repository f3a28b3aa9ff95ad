use Rattle.std.proofs.Common.{List, map, ap, ◌∙◌}
use Rattle.std.specs.List.{remove}
use Rattle.vcd_core.specs.Contents.{SignalContents}
use Rattle.vcd_core.specs.CaptureContents.{signal_contents, contents}
use Rattle.vcd_edit.proofs.exchange.ExchangedPieces.{signal_taken}
use Rattle.vcd_edit.proofs.exchange.fields.remove_signal.Goals as goal

pub returns-clause-effect : goal.returns-clause-effect
returns-clause-effect c =
    ap (λ (ss : List SignalContents). record (contents c.args.capture.now) { signals = ss })
    (ap (map signal_contents) (c.from_vec.ensures ∙ c.remove-signal.ensures.items
    ∙ ap (λ l. remove l c.args.position) (c.into_vec-signals.ensures ∙ c.replace.ensures.value))
    ∙ signal_taken c.args.capture.now.signals c.args.position)
