-- What a record replaces of a capture: it makes the record for the opposite step.
use Rattle.std.specs.Prelude.{◌≡◌, ℕ, ◌<◌, ◌≤◌, neg_ℤ, ℤ, All, length, List, [], slice_index_or}
use Rattle.std.specs.Prelude.{Option, Some, None}
use Rattle.vcd_core.specs.Contents.{Contents, SignalContents, signal_at}
use Rattle.vcd_edit.specs.RecordView.{RecordView}
use Rattle.vcd_edit.specs.AppliedRecords.{apply_record, Fits}
use Rattle.vcd_edit.specs.Touched.{touched_from, partners, record_pairing, stored_changes}

-- the old first word of the signal's name
abbrev pub opposite_word : Option (ℕ × List ℕ) → Contents → Option (ℕ × List ℕ)
opposite_word None c = None
opposite_word (Some w) c = Some (w.0, slice_index_or (signal_at c w.0).words 0 [])

-- the signal that was taken out, or none if one was put in
abbrev pub removed_signal : ℕ → Option SignalContents → Contents → Option SignalContents
removed_signal k (Some s) c = None
removed_signal k None c = Some (signal_at c k)

-- the signal of a record with its position
abbrev pub opposite_signal : Option (ℕ × Option SignalContents) → Contents
    → Option (ℕ × Option SignalContents)
opposite_signal None c = None
opposite_signal (Some m) c = Some (m.0, removed_signal m.0 m.1 c)

-- the old end
abbrev pub opposite_end : Option ℕ → Contents → Option ℕ
opposite_end None c = None
opposite_end (Some end) c = Some c.end

-- the signal that a word is for has a name
abbrev pub IsNamedAt : Contents → Option (ℕ × List ℕ) → Type 0
IsNamedAt c None = Unit {0}
IsNamedAt c (Some w) = 0 < length (signal_at c w.0).words

-- the second record undoes the first one on a capture; it stores no more than that one touches,
-- with the opposites of the offsets of its pieces
pub record IsOppositeRecord (c : Contents) (r q : RecordView) : Type 0 where
  pub fits : Fits q (apply_record r c)
  pub leads : apply_record q (apply_record r c) ≡ c
  pub stored : (advance : ℕ → ℤ) → All (λ p. advance p.signal ≡ neg_ℤ p.by) r.pieces
      → stored_changes q ≤ touched_from advance 0 c.signals
      (partners (record_pairing r.signal) (apply_record r c).signals)
