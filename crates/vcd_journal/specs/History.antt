-- A session as a list of edits: those in force and those undone. The headline speaks of this model.
-- The project's own.
use Rattle.std.specs.Prelude.{ℕ, ◌+◌, ◌-◌, ◌&&◌, nat_le, Bool, min, List, [], ◌∷◌, ◌++◌, length}
use Rattle.std.specs.Prelude.{take, drop}
use Rattle.vcd_core.specs.Contents.{Contents}
use Rattle.vcd_edit.specs.declared.edit.Edit.{Edit}
use Rattle.vcd_edit.specs.Effect.{effect}
use Rattle.vcd_journal.specs.declared.step.TheConstants.{DEPTH_LIMIT}
use Rattle.vcd_journal.specs.declared.step.Step.{Step}
use Rattle.vcd_journal.specs.declared.step.Step.TheVariants as steps

-- the edits in force and those undone; how many of the former can be undone, and the depth
pub record History : Type 0 where
  -- in force, the last one made first
  pub edits : List Edit
  -- undone and not made again, the one undone last first
  pub undone : List Edit
  -- how many of those in force can be undone
  pub undoable : ℕ
  -- how many edits can be undone and made again at most, together
  pub depth : ℕ

-- the history before the first edit
abbrev pub initial_history : ℕ → History
initial_history depth = record { edits = []; undone = []; undoable = 0; depth = depth }

-- the capture after edits are made one after another; the last one made is the first of the list
unfoldable pub replay : Contents → List Edit → Contents
replay c [] = c
replay c (e ∷ es) = effect e (replay c es)

-- whether a session may have this depth
abbrev pub is_depth : ℕ → Bool
is_depth depth = nat_le 1 depth && nat_le depth DEPTH_LIMIT

-- the history after an accepted step
abbrev pub history_after : History → Step → History
history_after h (steps.Edit e) =
    record h { edits = e ∷ h.edits; undone = []; undoable = min h.depth (h.undoable + 1) }
history_after h steps.Undo =
    record h {
      edits = drop 1 h.edits;
      undone = take 1 h.edits ++ h.undone;
      undoable = h.undoable - 1;
    }
history_after h steps.Redo =
    record h {
      edits = take 1 h.undone ++ h.edits;
      undone = drop 1 h.undone;
      undoable = h.undoable + 1;
    }
history_after h (steps.Depth depth) =
    record h { undoable = min (depth - length h.undone) h.undoable; depth = depth }
