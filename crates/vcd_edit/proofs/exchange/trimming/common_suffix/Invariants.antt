use Rattle.std.proofs.Common.{◌≡◌, ◌+◌, drop, reverse, neg_ℤ}
use Rattle.std.specs.List.{common_prefix_len}
use Rattle.vcd_edit.specs.Touched.{same_moved_change, common_moved_suffix}
use Rattle.vcd_edit.proofs.exchange.trimming.common_suffix.Given as goal

abbrev pub invariant-loop-i : goal.invariant-loop-i
invariant-loop-i l =
    l.i + common_prefix_len (same_moved_change (neg_ℤ l.by)) (drop l.i (reverse l.old)) (drop l.i (reverse l.new))
    ≡ common_moved_suffix (neg_ℤ l.by) l.old l.new
