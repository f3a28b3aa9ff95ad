-- If nothing waits, the part is the rest of the text.
use Rattle.std.proofs.Common.{◌++◌, ap, refl, ◌∙◌}
use Rattle.std.proofs.lemmas.List.{drop-append-le}
use Rattle.vcd_text.proofs.shared.EmittedParts.{bytes_sent}
use Rattle.vcd_text.proofs.writing.output.send_directly.Goals as goal

pub returns-clause-written : goal.returns-clause-written
returns-clause-written g c =
    let sent = c.send_bytes-count.ensures in
    let bytes = c.args.bytes.now in
    bytes_sent g.W.Sink c.args.output.now _ c.send_bytes-count.result bytes bytes refl
    (λ n text within is. drop-append-le n text bytes within ∙ ap (λ l. l ++ bytes) (is ∙ c.requires.empty))
    sent.prefix sent.within sent.all sent.failed sent.stays c.saturating_add-output.ensures c.requires.empty
