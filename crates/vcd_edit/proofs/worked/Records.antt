-- Worked cases: what a record makes of a small capture, what it stores, and what steps touch.
use Rattle.std.proofs.Common.{◌≡◌, refl}
use Rattle.std.specs.Prelude.{ℕ, List, [], ◌∷◌, Some, None, codes, ℤ, pos, negsuc}
use Rattle.vcd_core.specs.declared.bit.Bit.{Bit}
use Rattle.vcd_core.specs.declared.bit.Bit.TheVariants.{Zero, One, Z}
use Rattle.vcd_core.specs.declared.capture.ScopeName.{ScopeName}
use Rattle.vcd_core.specs.declared.wave.Change.{Change}
use Rattle.vcd_core.specs.Wave.{change}
use Rattle.vcd_core.specs.Splice.{moved_change, spliced_changes}
use Rattle.vcd_core.specs.Contents.{Contents, SignalContents}
use Rattle.vcd_edit.specs.RecordView.{PieceView, RecordView}
use Rattle.vcd_edit.specs.AppliedRecords.{with_pieces, apply_record}
use Rattle.vcd_edit.specs.Touched.{touched_count, touched_from, touched_by_record, piece_advance, partners, takes_out}
use Rattle.vcd_edit.specs.Touched.{puts_in, stored_changes}

-- ---- captures and records

abbrev pub top : ScopeName
top = record { kind = codes "module"; words = codes "top" ∷ [] }

-- one letter from a tick on
abbrev pub from : ℕ → Bit → Change
from tick letter = change tick (letter ∷ [])

abbrev pub wire : List ℕ → List Change → SignalContents
wire name changes = record { scopes = top ∷ []; kind = codes "wire"; words = name ∷ []; width = 1; changes = changes }

abbrev pub capture : ℕ → List SignalContents → Contents
capture end signals = record { header = []; timescale = None; end = end; signals = signals }

abbrev pub alone : ℕ → List Change → Contents
alone end changes = capture end (wire (codes "a") changes ∷ [])

-- a record of one piece for the first signal
abbrev piece : ℕ → ℕ → List Change → ℤ → PieceView
piece first last changes by = record { signal = 0; from = first; to = last; changes = changes; by = by }

abbrev with_one : PieceView → RecordView
with_one p = record { pieces = p ∷ []; word = None; signal = None; other_end = None }

-- a signal with a pulse
abbrev pulse : List Change
pulse = from 0 Zero ∷ from 3 One ∷ from 7 Zero ∷ []

-- ---- what a record makes of a capture

-- the undo of a cut of the ticks 2 to 4: the change at 3 comes back, the later one moves, and the
-- end too
undo_of_cut : apply_record (record {
  pieces = piece 1 2 (from 3 One ∷ []) (pos 3) ∷ [];
  word = None;
  signal = None;
  other_end = Some 10;
}) (alone 7 (from 0 Zero ∷ from 2 One ∷ from 4 Zero ∷ [])) ≡ alone 10 pulse
unfolding apply_record with_pieces spliced_changes moved_change
undo_of_cut = refl

undo_of_rename : apply_record (record { pieces = []; word = Some (0, codes "a"); signal = None; other_end = None })
    (capture 9 (wire (codes "b") pulse ∷ [])) ≡ alone 9 pulse
unfolding apply_record with_pieces
undo_of_rename = refl

undo_of_remove : apply_record (record {
  pieces = [];
  word = None;
  signal = Some (1, Some (wire (codes "b") pulse));
  other_end = None;
}) (capture 9 (wire (codes "a") [] ∷ wire (codes "c") [] ∷ []))
    ≡ capture 9 (wire (codes "a") [] ∷ wire (codes "b") pulse ∷ wire (codes "c") [] ∷ [])
unfolding apply_record with_pieces
undo_of_remove = refl

undo_of_derive : apply_record (record { pieces = []; word = None; signal = Some (1, None); other_end = None })
    (capture 9 (wire (codes "a") pulse ∷ wire (codes "d") [] ∷ [])) ≡ alone 9 pulse
unfolding apply_record with_pieces
undo_of_derive = refl

-- ---- how many changes are touched

invert_touches : touched_count (pos 0) (from 0 Z ∷ from 4 One ∷ []) (from 4 Zero ∷ []) ≡ 2
unfolding touched_count
invert_touches = refl

undo_of_invert_touches : touched_count (pos 0) (from 4 Zero ∷ []) (from 0 Z ∷ from 4 One ∷ []) ≡ 1
unfolding touched_count
undo_of_invert_touches = refl

-- a cut of the ticks 3 to 6 takes the pulse away
cut_of_pulse_touches : touched_count (pos 4) pulse (from 0 Zero ∷ []) ≡ 2
unfolding touched_count
cut_of_pulse_touches = refl

undo_of_that_cut_touches : touched_count (negsuc 3) (from 0 Zero ∷ []) pulse ≡ 0
unfolding touched_count
undo_of_that_cut_touches = refl

-- a cut of the ticks 2 to 4 leaves the later change, three ticks earlier
cut_into_pulse_touches : touched_count (pos 3) pulse (from 0 Zero ∷ from 2 One ∷ from 4 Zero ∷ []) ≡ 1
unfolding touched_count
cut_into_pulse_touches = refl

undo_of_cut_into_pulse_touches : touched_count (negsuc 2) (from 0 Zero ∷ from 2 One ∷ from 4 Zero ∷ []) pulse ≡ 1
unfolding touched_count
undo_of_cut_into_pulse_touches = refl

deglitch_touches : touched_count (pos 0) (from 0 Zero ∷ from 5 One ∷ from 6 Zero ∷ from 7 One ∷ from 20 Zero ∷ [])
    (from 0 Zero ∷ from 7 One ∷ from 20 Zero ∷ []) ≡ 2
unfolding touched_count
deglitch_touches = refl

-- a shift that pushes nothing out touches nothing
shift_touches : touched_count (negsuc 1) (from 0 Zero ∷ from 5 One ∷ []) (from 2 Zero ∷ from 7 One ∷ []) ≡ 0
unfolding touched_count
shift_touches = refl

-- a value forced within a run adds two changes and touches none
force_in_run_touches : touched_count (pos 0) (from 0 Zero ∷ from 9 One ∷ [])
    (from 0 Zero ∷ from 3 One ∷ from 5 Zero ∷ from 9 One ∷ []) ≡ 0
unfolding touched_count
force_in_run_touches = refl

-- all changes of a signal that is taken out are touched, and those of the others are not
remove_touches : touched_from (λ k. pos 0) 0 (wire (codes "a") pulse ∷ wire (codes "b") (from 0 One ∷ [])
    ∷ wire (codes "c") pulse ∷ [])
    (partners (takes_out 1) (wire (codes "a") pulse ∷ wire (codes "c") pulse ∷ [])) ≡ 1
unfolding touched_from touched_count
remove_touches = refl

undo_of_remove_touches : touched_from (λ k. pos 0) 0 (wire (codes "a") pulse ∷ wire (codes "c") pulse ∷ [])
    (partners (puts_in 1) (wire (codes "a") pulse ∷ wire (codes "b") (from 0 One ∷ []) ∷ wire (codes "c") pulse ∷ []))
    ≡ 0
unfolding touched_from touched_count
undo_of_remove_touches = refl

-- the undo of the cut into the pulse, as a record: it advances by the opposite of the offset of its
-- piece
undo_of_cut_touches : touched_by_record (record {
  pieces = piece 1 2 (from 3 One ∷ []) (pos 3) ∷ [];
  word = None;
  signal = None;
  other_end = Some 10;
}) (alone 7 (from 0 Zero ∷ from 2 One ∷ from 4 Zero ∷ [])) ≡ 1
unfolding apply_record with_pieces spliced_changes moved_change touched_from touched_count piece_advance
undo_of_cut_touches = refl

undo_of_cut_stores : stored_changes (with_one (piece 1 2 (from 3 One ∷ []) (pos 3))) ≡ 1
undo_of_cut_stores = refl
