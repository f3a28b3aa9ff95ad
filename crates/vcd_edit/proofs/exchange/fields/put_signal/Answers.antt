use Rattle.std.proofs.Common.{List, map, ap, ◌∙◌, is_ok, if◌then◌else◌}
use Rattle.std.specs.List.{insert}
use Rattle.vcd_core.specs.Contents.{SignalContents}
use Rattle.vcd_core.specs.CaptureContents.{signal_contents, contents}
use Rattle.vcd_edit.proofs.exchange.ExchangedPieces.{signal_put}
use Rattle.vcd_edit.proofs.exchange.fields.put_signal.Goals as goal

pub returns-in-Ok-clause-effect : goal.returns-in-Ok-clause-effect
returns-in-Ok-clause-effect c =
    ap (λ (ss : List SignalContents). record (contents c.args.capture.now) { signals = ss })
    (ap (map signal_contents) (c.from_vec.ensures ∙ c.insert-put.ensures.items
    ∙ ap (λ r. if is_ok r then insert c.into_vec-signals.result.items c.args.position c.args.signal else
    c.into_vec-signals.result.items) c.in-Ok.is
    ∙ ap (λ l. insert l c.args.position c.args.signal) (c.into_vec-signals.ensures ∙ c.replace.ensures.value))
    ∙ signal_put c.args.capture.now.signals c.args.position c.args.signal)
