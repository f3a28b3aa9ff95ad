-- How many changes a step touches in each signal: the bound on what a record stores. It is the
-- project's own.
use Rattle.std.specs.Prelude.{ℕ, suc, ◌+◌, ◌-◌, ◌==◌, ◌&&◌, if◌then◌else◌, ℤ, pos, ◌-ℤ◌, neg_ℤ}
use Rattle.std.specs.Prelude.{Bool, List, [], ◌∷◌, length, drop, map, reverse, Option, Some, None}
use Rattle.std.specs.List.{common_prefix_len, insert, remove, sum_by}
use Rattle.std.specs.Ordering.{int_eq}
use Rattle.vcd_core.specs.declared.wave.Change.{Change}
use Rattle.vcd_core.specs.Value.{same_letters}
use Rattle.vcd_core.specs.Contents.{Contents, SignalContents}
use Rattle.vcd_edit.specs.RecordView.{PieceView, RecordView}
use Rattle.vcd_edit.specs.AppliedRecords.{apply_record}

-- ---- the touched changes of a list

-- whether two changes have the same tick and value
abbrev pub same_change : Change → Change → Bool
same_change a b = (a.tick == b.tick) && same_letters a.value b.value

-- whether the first change, `advance` ticks earlier, is the second
abbrev pub same_moved_change : ℤ → Change → Change → Bool
same_moved_change advance a b =
    int_eq (pos a.tick -ℤ advance) (pos b.tick) && same_letters a.value b.value

-- how many last changes two lists have in common, the old ones `advance` ticks earlier
abbrev pub common_moved_suffix : ℤ → List Change → List Change → ℕ
common_moved_suffix advance old new =
    common_prefix_len (same_moved_change advance) (reverse old) (reverse new)

-- how many old changes are in neither the common prefix nor the common suffix
unfoldable pub touched_count : ℤ → List Change → List Change → ℕ
touched_count advance old new =
    let prefix = common_prefix_len same_change old new in
    length old - prefix - common_moved_suffix advance (drop prefix old) (drop prefix new)

-- ---- each signal of a capture compared with what it is after a step

-- the step keeps all signals in place, takes one out, or puts one in at a position
pub data Pairing : Type 0 where
  stays : Pairing
  takes_out : ℕ → Pairing
  puts_in : ℕ → Pairing

-- for each signal before the step, that signal after it: none if it is taken out
abbrev pub partners : Pairing → List SignalContents → List (Option SignalContents)
partners stays after = map Some after
partners (takes_out k) after = insert (map Some after) k None
partners (puts_in k) after = map Some (remove after k)

-- how many changes of a signal are touched: all of them if it is taken out
abbrev pub touched_in_signal : ℤ → SignalContents → Option SignalContents → ℕ
touched_in_signal advance s None = length s.changes
touched_in_signal advance s (Some n) = touched_count advance s.changes n.changes

-- the sum over the signals from position k on, each with its own advance
unfoldable pub touched_from : (ℕ → ℤ) → ℕ → List SignalContents → List (Option SignalContents) → ℕ
touched_from advance k [] ns = 0
touched_from advance k (s ∷ ss) [] = 0
touched_from advance k (s ∷ ss) (n ∷ ns) =
    touched_in_signal (advance k) s n + touched_from advance (suc k) ss ns

-- ---- what reverting a record touches

-- the opposite of the offset of the piece for a signal, and 0 without a piece
unfoldable pub piece_advance : List PieceView → ℕ → ℤ
piece_advance [] k = pos 0
piece_advance (p ∷ ps) k = if p.signal == k then neg_ℤ p.by else piece_advance ps k

-- the step that puts a signal in at a position, or takes out the one there
abbrev pub pairing_at : ℕ → Option SignalContents → Pairing
pairing_at k (Some s) = puts_in k
pairing_at k None = takes_out k

-- the same for the signal of a record, if it has one
abbrev pub record_pairing : Option (ℕ × Option SignalContents) → Pairing
record_pairing None = stays
record_pairing (Some m) = pairing_at m.0 m.1

-- the sum over all signals
abbrev pub touched_by_record : RecordView → Contents → ℕ
touched_by_record r c = touched_from (piece_advance r.pieces) 0 c.signals
    (partners (record_pairing r.signal) (apply_record r c).signals)

-- ---- what a record stores

-- how many changes a signal has, 0 without a signal
abbrev pub change_count : Option SignalContents → ℕ
change_count None = 0
change_count (Some s) = length s.changes

-- how many changes a signal to put in has
abbrev pub inserted_change_count : Option (ℕ × Option SignalContents) → ℕ
inserted_change_count None = 0
inserted_change_count (Some m) = change_count m.1

-- the changes in the pieces and in a signal to put in
abbrev pub stored_changes : RecordView → ℕ
stored_changes r = sum_by (λ p. length p.changes) r.pieces + inserted_change_count r.signal
