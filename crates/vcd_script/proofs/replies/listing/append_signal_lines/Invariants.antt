-- The text so far and the lines of the signals left make the whole text.
use Rattle.std.proofs.Common.{◌≡◌, ◌++◌, drop, map}
use Rattle.std.specs.List.{flat_map}
use Rattle.vcd_core.specs.CaptureContents.{signal_contents}
use Rattle.vcd_script.specs.inside.replies.Listing.{signal_lines}
use Rattle.vcd_script.specs.inside.replies.Reply.{with_line_feed}
use Rattle.vcd_script.proofs.replies.listing.append_signal_lines.Given as goal

abbrev pub invariant-loop-position : goal.invariant-loop-position
invariant-loop-position l =
    l.text.items ++ flat_map with_line_feed (signal_lines l.position (map signal_contents (drop l.position l.signals)))
    ≡ l.initial.text.items ++ flat_map with_line_feed (signal_lines 0 (map signal_contents l.signals))
