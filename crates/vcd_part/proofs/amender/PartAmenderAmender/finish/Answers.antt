use Rattle.std.proofs.Common.{ap, ◌++◌}
use Rattle.std.proofs.lemmas.List.{append-nil}
use Rattle.vcd_text.proofs.shared.EmittedParts.{writes_as, writes_both}
use Rattle.vcd_part.proofs.amender.PartAmenderAmender.finish.Goals as goal

pub returns-clause-written : goal.returns-clause-written
returns-clause-written g c = λ pieces seen.
    writes_as (ap (λ l. l ++ c.args.space.now) (append-nil _))
    (writes_both (c.write_end.ensures pieces seen) c.write_bytes.ensures.written)
