use Rattle.std.proofs.Common.{w64, arith}
use Rattle.std.proofs.lemmas.Int.{to_z-of_z}
use Rattle.vcd_edit.proofs.exchange.trimming.TrimmedPieces.{moved_test}
use Rattle.vcd_edit.proofs.exchange.trimming.is_moved_tick.Goals as goal

pub returns : goal.returns
returns c =
    moved_test c.args.tick c.args.moved c.args.by _ _ _ (to_z-of_z w64 c.args.by c.ranges.by) (omega arith)
    c.checked_add_signed.ensures c.eq.ensures
