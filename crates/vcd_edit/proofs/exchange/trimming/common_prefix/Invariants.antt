use Rattle.std.proofs.Common.{◌≡◌, ◌+◌, drop}
use Rattle.std.specs.List.{common_prefix_len}
use Rattle.vcd_edit.specs.Touched.{same_change}
use Rattle.vcd_edit.proofs.exchange.trimming.common_prefix.Given as goal

abbrev pub invariant-loop-i : goal.invariant-loop-i
invariant-loop-i l = l.i + common_prefix_len same_change (drop l.i l.old) (drop l.i l.new)
    ≡ common_prefix_len same_change l.old l.new
