-- Laws of the history.
use Rattle.std.specs.Prelude.{◌≡◌, ℕ, ◌+◌, ◌≤◌, List, length}
use Rattle.vcd_core.specs.Contents.{Contents}
use Rattle.vcd_journal.specs.declared.step.Step.{Step}
use Rattle.vcd_journal.specs.declared.step.Answer.{Answer}
use Rattle.vcd_journal.specs.History.{initial_history}
use Rattle.vcd_journal.specs.Machine.{Machine, initial_machine, AreSteps}
use Rattle.vcd_journal.specs.HistoryMachine.{machine_of, history_after_all}

-- after any steps with any answers the machine is that of the history: all its captures are replays
abbrev pub SessionIsReplay : Type 0
SessionIsReplay =
    (c : Contents) (depth : ℕ) (asked : List Step) (answers : List Answer) (m : Machine)
    → AreSteps (initial_machine c depth) asked answers m
    → m ≡ machine_of c (history_after_all (initial_history depth) asked answers)

-- after any steps with any answers past and future together hold at most as many captures as the
-- depth
abbrev pub HistoryIsBounded : Type 0
HistoryIsBounded =
    (c : Contents) (depth : ℕ) (asked : List Step) (answers : List Answer) (m : Machine)
    → AreSteps (initial_machine c depth) asked answers m → length m.past + length m.future ≤ m.depth
