-- The text so far and the lines of the changes left make the whole text.
use Rattle.std.proofs.Common.{◌≡◌, ◌++◌, drop, map}
use Rattle.std.specs.List.{flat_map}
use Rattle.vcd_script.specs.Queries.{change_line}
use Rattle.vcd_script.specs.inside.replies.Reply.{with_line_feed}
use Rattle.vcd_script.proofs.replies.waves.changes_text.Given as goal

abbrev pub invariant-loop-change : goal.invariant-loop-change
invariant-loop-change l = l.text.items ++ flat_map with_line_feed (map change_line (drop l.change-index l.changes))
    ≡ flat_map with_line_feed (map change_line l.changes)
