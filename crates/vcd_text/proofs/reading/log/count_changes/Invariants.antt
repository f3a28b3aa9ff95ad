use Rattle.std.proofs.Common.{◌≡◌, length, drop}
use Rattle.std.specs.List.{fold}
use Rattle.vcd_text.specs.inside.reading.Log.{counted}
use Rattle.vcd_text.proofs.reading.log.count_changes.Given as goal

-- what is left of the group makes of the variables what all of it makes of those at first
abbrev pub invariant-loop-change : goal.invariant-loop-change
invariant-loop-change l =
    (fold counted l.kept.items (drop l.change-index l.group) ≡ fold counted l.fn.kept.items l.group)
    × (length l.kept.items ≡ length l.fn.kept.items)
