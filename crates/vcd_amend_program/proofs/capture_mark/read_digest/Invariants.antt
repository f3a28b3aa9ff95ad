-- The hasher holds what was read so far.
use Rattle.sha2.specs.Hashers.{Holds256}
use Rattle.vcd_amend_program.proofs.capture_mark.ReadSoFar.{IsReadSoFar}
use Rattle.vcd_amend_program.proofs.capture_mark.read_digest.Given as goal

abbrev pub invariant-loop : goal.invariant-loop
invariant-loop g l = IsReadSoFar (Holds256 l.hasher) (g.S.Source.coming l.fn.source) (g.S.Source.coming l.source) l.size
