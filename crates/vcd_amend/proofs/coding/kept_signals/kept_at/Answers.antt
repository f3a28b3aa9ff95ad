use Rattle.std.proofs.Common.{◌∙◌, length, map, ap, arith}
use Rattle.std.proofs.lemmas.List.{length-map}
use Rattle.vcd_core.specs.CaptureContents.{contents, signal_contents}
use Rattle.vcd_core.specs.SignalOrigins.{signal_from}
use Rattle.vcd_amend.proofs.coding.KeptSignals.{come_long, come_width, left_width}
use Rattle.vcd_amend.proofs.coding.kept_signals.kept_at.Goals as goal

pub signal_from-left-requires-clause-within : goal.signal_from-left-requires-clause-within
signal_from-left-requires-clause-within c =
    let xs = c.args.last.now.signals in
    let long = come_long (contents c.args.first.now) c.args.origins.now (map signal_contents xs) c.requires.come in
    omega (arith, long, length-map xs signal_contents, ap length c.signals.ensures)

pub kept_signal-requires-clause-left_size : goal.kept_signal-requires-clause-left_size
kept_signal-requires-clause-left_size c =
    let xs = c.args.last.now.signals in
    left_width c.signal_from-left.result (signal_from c.args.position c.args.origins.now (map signal_contents xs))
    c.args.variable.now.size (c.signal_from-left.ensures ∙ ap (λ l. signal_from c.args.position c.args.origins.now
    (map signal_contents l)) c.signals.ensures)
    (λ n is. come_width (contents c.args.first.now) c.args.position c.args.origins.now (map signal_contents xs) n
    c.requires.come is ∙ c.requires.size)
