use Rattle.std.proofs.Common.{subst}
use Rattle.vcd_copy.specs.CopyEnds.{CopyFails}
use Rattle.vcd_copy.proofs.shared.CopyFaults.{memory_fails}
use Rattle.vcd_amend.proofs.declarations.read_error.Goals as goal

pub returns-in-Read : goal.returns-in-Read
returns-in-Read c = λ limit most coming left failed before after writer_failed fails.
    subst (CopyFails limit most coming left failed before after writer_failed) c.in-Read.is fails

pub returns-in-Write : goal.returns-in-Write
returns-in-Write c = λ limit most coming left failed before after writer_failed fails.
    memory_fails limit most coming left failed
    (subst (CopyFails limit most coming left failed before after writer_failed) c.in-Write.is fails).0
