use Rattle.std.proofs.Common.{◌≡◌, ◌≤◌, ◌+◌, ◌++◌, List, length, take}
use Rattle.std.specs.Vec.{vec_len, vec_capacity}
use Rattle.vcd_journal.specs.declared.step.Answer.{Answer}
use Rattle.vcd_journal.specs.Machine.{AreSteps}
use Rattle.vcd_journal.proofs.running.run.Given as goal

-- the steps so far are made and answered, and there is room for the other answers
abbrev pub invariant-loop-step : goal.invariant-loop-step
invariant-loop-step l =
    ((given : List Answer) × (l.answers.items ≡ l.fn.answers.items ++ given)
    × AreSteps l.fn.session (take l.step-index l.steps) given l.session)
    × (vec_len l.answers + length l.steps ≤ vec_capacity l.answers + l.step-index)
