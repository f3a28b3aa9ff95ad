-- The unsent bytes are the rest of the text.
use Rattle.std.proofs.Common.{[], sym, ap, drop, refl, ◌∙◌}
use Rattle.std.proofs.lemmas.List.{append-nil}
use Rattle.vcd_text.proofs.shared.EmittedParts.{bytes_sent}
use Rattle.vcd_text.proofs.writing.output.send_buffer.Goals as goal

pub returns-clause-written : goal.returns-clause-written
returns-clause-written g c =
    let sent = c.send_bytes-count.ensures in
    bytes_sent g.W.Sink c.args.output.now _ c.send_bytes-count.result [] c.as_slice.result.now refl
    (λ n text within is. ap (drop n) (append-nil text) ∙ is ∙ sym c.as_slice.ensures.value)
    sent.prefix sent.within sent.all sent.failed sent.stays c.saturating_add-output.ensures c.clear.ensures.items
