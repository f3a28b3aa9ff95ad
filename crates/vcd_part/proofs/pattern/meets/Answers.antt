-- The head decides.
use Rattle.std.proofs.Common.{sym, ap, ◌∙◌}
use Rattle.vcd_part.proofs.pattern.Stars.{by_head, meets_by}
use Rattle.vcd_part.proofs.pattern.meets.Goals as goal

pub returns-in-Ended : goal.returns-in-Ended
returns-in-Ended c = ap meets_by c.in-Ended.ensures.head ∙ sym (by_head _ _)

pub returns-in-Star : goal.returns-in-Star
returns-in-Star c = c.meets_after_star.ensures ∙ ap meets_by c.in-Star.ensures.head ∙ sym (by_head _ _)
