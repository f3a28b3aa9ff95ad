-- A session's machine as a view of its history: its captures are replays of edits. The project's
-- own.
use Rattle.std.specs.Prelude.{List, [], ◌∷◌, take}
use Rattle.vcd_core.specs.Contents.{Contents}
use Rattle.vcd_edit.specs.declared.edit.Edit.{Edit}
use Rattle.vcd_journal.specs.declared.step.Step.{Step}
use Rattle.vcd_journal.specs.declared.step.Answer.{Answer}
use Rattle.vcd_journal.specs.declared.step.Answer.TheVariants.{Done}
use Rattle.vcd_journal.specs.History.{History, replay, history_after}
use Rattle.vcd_journal.specs.Machine.{Machine}

-- the replays of the edits without the last, without the last two, and so on down to none
unfoldable pub earlier_replays : Contents → List Edit → List Contents
earlier_replays c [] = []
earlier_replays c (e ∷ es) = replay c es ∷ earlier_replays c es

-- the replays with the first undone edit made again, with the first two, and so on
unfoldable pub later_replays : Contents → List Edit → List Edit → List Contents
later_replays c es [] = []
later_replays c es (u ∷ undone) = replay c (u ∷ es) ∷ later_replays c (u ∷ es) undone

-- the machine that a history stands for: undo and redo reach the replays of fewer and of more edits
abbrev pub machine_of : Contents → History → Machine
machine_of c h = record {
  past = take h.undoable (earlier_replays c h.edits);
  now = replay c h.edits;
  future = later_replays c h.edits h.undone;
  depth = h.depth;
}

-- the history after a step with this answer; a refused step changes nothing
abbrev pub history_after_answer : History → Step → Answer → History
history_after_answer h s Done = history_after h s
history_after_answer h s a = h

-- the history after steps with their answers
unfoldable pub history_after_all : History → List Step → List Answer → History
history_after_all h (s ∷ asked) (a ∷ answers) =
    history_after_all (history_after_answer h s a) asked answers
history_after_all h asked answers = h
