-- The origins of the signals of a capture under edit, as they are kept over undo and redo.
use Rattle.std.specs.Prelude.{ℕ, nat_lt, nat_le, if◌then◌else◌, List, [], ◌∷◌, ◌++◌, length}
use Rattle.std.specs.Prelude.{reverse, Option, Some, None, Result, Ok}
use Rattle.std.specs.List.{remove, insert, slice_get, range_with_len, filter_map}
use Rattle.vcd_edit.specs.declared.edit.Edit.{Edit}
use Rattle.vcd_edit.specs.declared.edit.Edit.TheVariants.{Remove, Cut}
use Rattle.vcd_journal.specs.declared.step.Step.{Step}
use Rattle.vcd_journal.specs.declared.step.Step.TheVariants as steps
use Rattle.vcd_script.specs.declared.script.command.Command.{Command}
use Rattle.vcd_script.specs.declared.script.command.Command.TheVariants as commands
use Rattle.vcd_script.specs.declared.script.line_error.LineError.{LineError}
use Rattle.vcd_amend.specs.declared.cut_ticks.CutTicks.{CutTicks}
use Rattle.vcd_amend_run.specs.declared.dry_running.origin_history.EditNote.{EditNote}
use Rattle.vcd_amend_run.specs.declared.dry_running.origin_history.EditNote.TheVariants as notes

-- the origins of the signals that are left, and the notes of the edits in force and of those
-- undone: the one made last, or undone last, first
pub record OriginNotes : Type 0 where
  pub origins : List ℕ
  pub in_force : List EditNote
  pub undone : List EditNote

-- ---- one edit

-- the note of a removal at this position, of a signal with this origin
abbrev pub removal_note : ℕ → Option ℕ → EditNote
removal_note k (Some origin) = notes.Removal k origin
removal_note k None = notes.Other

-- the note of an edit, on signals with these origins
abbrev pub note_of : (origins : List ℕ) → Edit → EditNote
note_of origins (Remove k) = removal_note k (slice_get origins k)
note_of origins (Cut from to) = notes.Cut (record { from = from; to = to })
note_of origins e = notes.Other

-- the ticks that the edit cuts out, if it is a cut
abbrev pub cut_of_note : EditNote → Option CutTicks
cut_of_note (notes.Cut ticks) = Some ticks
cut_of_note note = None

-- the ticks of the cuts in force, the oldest first
abbrev pub cuts_noted : OriginNotes → List CutTicks
cuts_noted n = filter_map cut_of_note (reverse n.in_force)

-- the ticks that the cuts among edits take out, the oldest cut first
unfoldable pub ticks_of_cuts : List Edit → List CutTicks
ticks_of_cuts [] = []
ticks_of_cuts (Cut from to ∷ es) = ticks_of_cuts es ++ record { from = from; to = to } ∷ []
ticks_of_cuts (e ∷ es) = ticks_of_cuts es

-- the origins after the edit of a note
abbrev pub origins_without : EditNote → List ℕ → List ℕ
origins_without (notes.Removal k origin) ks = if nat_lt k (length ks) then remove ks k else ks
origins_without note ks = ks

-- the origins after its undo
abbrev pub origins_with : EditNote → List ℕ → List ℕ
origins_with (notes.Removal k origin) ks =
    if nat_le k (length ks) then insert ks k origin else ks
origins_with note ks = ks

-- ---- steps and lines

-- the notes before the first edit of a capture with so many signals
abbrev pub notes_before_edits : (count : ℕ) → OriginNotes
notes_before_edits count =
    record { origins = range_with_len 0 count; in_force = []; undone = [] }

-- the notes after an edit with this note
abbrev pub notes_after_edit : OriginNotes → EditNote → OriginNotes
notes_after_edit n note = record {
  origins = origins_without note n.origins;
  in_force = note ∷ n.in_force;
  undone = [];
}

-- after an undo, if these edits are in force
abbrev pub notes_after_undo : OriginNotes → (in_force : List EditNote) → OriginNotes
notes_after_undo n [] = n
notes_after_undo n (note ∷ in_force) = record {
  origins = origins_with note n.origins;
  in_force = in_force;
  undone = note ∷ n.undone;
}

-- after a redo, if these edits are undone
abbrev pub notes_after_redo : OriginNotes → (undone : List EditNote) → OriginNotes
notes_after_redo n [] = n
notes_after_redo n (note ∷ undone) = record {
  origins = origins_without note n.origins;
  in_force = note ∷ n.in_force;
  undone = undone;
}

-- after an accepted step
abbrev pub notes_after_step : OriginNotes → Step → OriginNotes
notes_after_step n (steps.Edit e) = notes_after_edit n (note_of n.origins e)
notes_after_step n steps.Undo = notes_after_undo n n.in_force
notes_after_step n steps.Redo = notes_after_redo n n.undone
notes_after_step n (steps.Depth depth) = n

-- after a line that asks for this and is not refused
abbrev pub notes_after_command : OriginNotes → Result Command LineError → OriginNotes
notes_after_command n (Ok (commands.Step s)) = notes_after_step n s
notes_after_command n parsed = n
