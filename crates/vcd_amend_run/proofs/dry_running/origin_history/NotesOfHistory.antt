-- The notes are a function of the history, and hold its origins.
use Rattle.std.proofs.Common.{◌≡◌, ◌≤◌, ◌<◌, ◌+◌, ℕ, zero, suc, true, if◌then◌else◌, List, []}
use Rattle.std.proofs.Common.{◌∷◌, ◌++◌, length, Option, Some, None, refl, sym, ap, ap₂, ◌∙◌, inl, inr, arith}
use Rattle.std.specs.Prelude.{nat_lt, nat_le, reverse}
use Rattle.std.specs.List.{filter_map, cons_option, remove, insert, slice_get}
use Rattle.std.proofs.lemmas.Bool.Decides.{nat_tests}
use Rattle.std.proofs.lemmas.Grind.{reverse_onto}
use Rattle.std.proofs.lemmas.List.{take_all, drop_all, append-nil}
use Rattle.std.proofs.lemmas.List.Edits.{length-remove}
use Rattle.std.proofs.lemmas.List.Elements.{filter_map-append}
use Rattle.std.proofs.lemmas.Option.{slice_get_cases, slice_get_within, same_Some}
use Rattle.vcd_edit.specs.declared.edit.Edit.{Edit}
use Rattle.vcd_edit.specs.declared.edit.Edit.TheVariants.{Remove, Cut}
use Rattle.vcd_journal.specs.declared.step.Step.{Step}
use Rattle.vcd_journal.specs.declared.step.Step.TheVariants as steps
use Rattle.vcd_journal.specs.History.{History, initial_history, history_after}
use Rattle.vcd_hollow.specs.Origins.{origins}
use Rattle.vcd_amend.specs.declared.cut_ticks.CutTicks.{CutTicks}
use Rattle.vcd_amend_run.specs.declared.dry_running.origin_history.EditNote.{EditNote}
use Rattle.vcd_amend_run.specs.inside.dry_running.OriginHistory.{OriginNotes, removal_note, note_of}
use Rattle.vcd_amend_run.specs.inside.dry_running.OriginHistory.{origins_without, origins_with, notes_before_edits}
use Rattle.vcd_amend_run.specs.inside.dry_running.OriginHistory.{notes_after_step, cut_of_note, ticks_of_cuts}

-- ---- lists

-- what is put back where it was removed
put_back : (ks : List ℕ) (k origin : ℕ) → slice_get ks k ≡ Some origin → insert (remove ks k) k origin ≡ ks
put_back [] k origin found = absurd (cc)
put_back (j ∷ ks) zero origin found = λ i. same_Some origin j (sym found) i ∷ ks
put_back (j ∷ ks) (suc k) origin found = ap (λ (l : List ℕ). j ∷ l) (put_back ks k origin found)

-- past the end nothing is removed
none_removed : (ks : List ℕ) (k : ℕ) → length ks ≤ k → remove ks k ≡ ks
none_removed ks k past =
    ap₂ (λ (a b : List ℕ). a ++ b) (take_all k ks past) (drop_all (suc k) ks (omega (arith, past))) ∙ append-nil ks

within : (k n : ℕ) → k < n → nat_lt k n ≡ true
within k n less = grind (arith, nat_tests)

upto : (k n m : ℕ) → k < n → m + 1 ≡ n → nat_le k m ≡ true
upto k n m less one = grind (arith, nat_tests)

-- ---- one edit

past_end : (ks : List ℕ) (k : ℕ) → slice_get ks k ≡ None → length ks ≤ k
past_end ks k none = elim (slice_get_cases ks k).1 [
  | inl found ↦ absurd (cc (none, found.2))
  | inr past ↦ past.0
]

-- a removal, of a signal with this origin or none
removed : (ks : List ℕ) (k : ℕ) (found : Option ℕ) → slice_get ks k ≡ found →
    (origins_without (removal_note k found) ks ≡ remove ks k)
    × (origins_with (removal_note k found) (remove ks k) ≡ ks)
removed ks k (Some origin) is =
    let less : k < length ks = slice_get_within ks k origin is in (
      ap (λ b. if b then remove ks k else ks) (within k (length ks) less),
      ap (λ b. if b then insert (remove ks k) k origin else remove ks k)
          (upto k (length ks) (length (remove ks k)) less (length-remove ks k less))
          ∙ put_back ks k origin is,
    )
removed ks k None is = let same = none_removed ks k (past_end ks k is) in (sym same, same)

-- the edit of a note takes out the origin, and its undo puts it back
made_and_undone : (count : ℕ) (e : Edit) (es : List Edit) →
    (origins_without (note_of (origins count es) e) (origins count es) ≡ origins count (e ∷ es))
    × (origins_with (note_of (origins count es) e) (origins count (e ∷ es)) ≡ origins count es)
unfolding origins
made_and_undone count (Remove k) es =
    removed (origins count es) k (slice_get (origins count es) k) refl
made_and_undone count e es = (refl, refl)

-- ---- the notes of a history

-- of edits in force
unfoldable pub notes_made : ℕ → List Edit → List EditNote
notes_made count [] = []
notes_made count (e ∷ es) = note_of (origins count es) e ∷ notes_made count es

-- of undone edits
unfoldable pub notes_undone : ℕ → (es undone : List Edit) → List EditNote
notes_undone count es [] = []
notes_undone count es (u ∷ undone) = note_of (origins count es) u ∷ notes_undone count (u ∷ es) undone

abbrev pub notes_of : ℕ → History → OriginNotes
notes_of count h = record {
  origins = origins count h.edits;
  in_force = notes_made count h.edits;
  undone = notes_undone count h.edits h.undone;
}

pub first_notes : (count depth : ℕ) → notes_before_edits count ≡ notes_of count (initial_history depth)
unfolding origins notes_made notes_undone
first_notes count depth = refl

-- ---- steps

abbrev history_of : (es undone : List Edit) (undoable depth : ℕ) → History
history_of es undone undoable depth = record { edits = es; undone = undone; undoable = undoable; depth = depth }

abbrev Follows : ℕ → History → Step → Type 0
Follows count h s = notes_after_step (notes_of count h) s ≡ notes_of count (history_after h s)

edit_follows : (count : ℕ) (h : History) (e : Edit) → Follows count h (steps.Edit e)
unfolding notes_made notes_undone
edit_follows count h e = λ i. record {
  origins = (made_and_undone count e h.edits).0 i;
  in_force = notes_made count (e ∷ h.edits);
  undone = [];
}

undo_follows : (count : ℕ) (es undone : List Edit) (undoable depth : ℕ)
    → Follows count (history_of es undone undoable depth) steps.Undo
unfolding notes_made notes_undone
undo_follows count [] undone undoable depth = refl
undo_follows count (e ∷ es) undone undoable depth = λ i. record {
  origins = (made_and_undone count e es).1 i;
  in_force = notes_made count es;
  undone = notes_undone count es (e ∷ undone);
}

redo_follows : (count : ℕ) (es undone : List Edit) (undoable depth : ℕ)
    → Follows count (history_of es undone undoable depth) steps.Redo
unfolding notes_made notes_undone
redo_follows count es [] undoable depth = refl
redo_follows count es (u ∷ undone) undoable depth = λ i. record {
  origins = (made_and_undone count u es).0 i;
  in_force = notes_made count (u ∷ es);
  undone = notes_undone count (u ∷ es) undone;
}

pub step_follows : (count : ℕ) (h : History) (s : Step) → Follows count h s
step_follows count h (steps.Edit e) = edit_follows count h e
step_follows count h steps.Undo = undo_follows count h.edits h.undone h.undoable h.depth
step_follows count h steps.Redo = redo_follows count h.edits h.undone h.undoable h.depth
step_follows count h (steps.Depth depth) = refl

-- ---- cuts

no_cut_here : (k : ℕ) (found : Option ℕ) → cut_of_note (removal_note k found) ≡ None
no_cut_here k (Some origin) = refl
no_cut_here k None = refl

-- the note of the edit made last is at the end
one_more_note : (n : EditNote) (ns : List EditNote) → filter_map cut_of_note (reverse (n ∷ ns))
    ≡ filter_map cut_of_note (reverse ns) ++ filter_map cut_of_note (n ∷ [])
one_more_note n ns =
    ap (filter_map cut_of_note) (reverse_onto ns n []) ∙ filter_map-append cut_of_note (reverse ns) (n ∷ [])

no_more_cuts : (n : EditNote) (ns : List EditNote) (cuts : List CutTicks) → cut_of_note n ≡ None
    → filter_map cut_of_note (reverse ns) ≡ cuts → filter_map cut_of_note (reverse (n ∷ ns)) ≡ cuts
no_more_cuts n ns cuts none rest =
    one_more_note n ns
    ∙ ap (λ (o : Option CutTicks). filter_map cut_of_note (reverse ns) ++ cons_option o []) none
    ∙ append-nil (filter_map cut_of_note (reverse ns)) ∙ rest

-- the notes have the cuts in force
pub cuts_are_noted : (count : ℕ) (es : List Edit)
    → filter_map cut_of_note (reverse (notes_made count es)) ≡ ticks_of_cuts es
unfolding notes_made ticks_of_cuts
cuts_are_noted count [] = refl
cuts_are_noted count (Cut from to ∷ es) =
    one_more_note (note_of (origins count es) (Cut from to)) (notes_made count es)
    ∙ ap (λ (cuts : List CutTicks). cuts ++ record { from = from; to = to } ∷ []) (cuts_are_noted count es)
cuts_are_noted count (Remove k ∷ es) =
    no_more_cuts (note_of (origins count es) (Remove k)) (notes_made count es) (ticks_of_cuts es)
    (no_cut_here k (slice_get (origins count es) k)) (cuts_are_noted count es)
cuts_are_noted count (e ∷ es) =
    no_more_cuts (note_of (origins count es) e) (notes_made count es) (ticks_of_cuts es) refl (cuts_are_noted count es)
