-- The tests that show whether a record fits a capture.
use Rattle.std.specs.Prelude.{ℕ, ◌<◌, ◌≤◌, List, [], length, drop, slice_index_or, slice_range, All}
use Rattle.std.specs.Prelude.{Option, Some, None, IsTrue, IfSome}
use Rattle.std.specs.List.{list_all}
use Rattle.vcd_core.specs.declared.capture.TheConstants.{END_LIMIT, SIGNAL_LIMIT}
use Rattle.vcd_core.specs.Contents.{Contents, SignalContents, no_signal}
use Rattle.vcd_core.specs.Sound.{is_sound_header, is_sound_timescale, IsSoundSignal}
use Rattle.vcd_edit.specs.RecordView.{PieceView, RecordView}
use Rattle.vcd_edit.specs.AppliedRecords.{signal_with_changes, PieceFits, WordFits}
use Rattle.vcd_edit.specs.AppliedRecords.{MayPutInOrTakeOut, SignalFits, with_pieces}
use Rattle.vcd_edit.specs.AppliedRecords.{with_first_word, with_signal_in_out, apply_record}
use Rattle.vcd_edit.specs.inside.fitting.Adjacency.{IsValidPiece}

-- all of a signal except its changes is sound
abbrev pub HasSoundNames : SignalContents → Type 0
HasSoundNames s = IsSoundSignal 0 (signal_with_changes s [])

-- a signal with a piece is sound up to an end, and the piece lies within its changes
abbrev pub IsSoundWith : ℕ → SignalContents → PieceView → Type 0
IsSoundWith end s p = HasSoundNames s × IsValidPiece s.width end s.changes p

-- the signal of a piece is sound up to an end with the piece, and those from position k to it are
abbrev pub AreSoundTo : ℕ → List SignalContents → ℕ → PieceView → Type 0
AreSoundTo end ss k p = (p.signal < length ss)
    × IsSoundWith end (slice_index_or ss p.signal no_signal) p
    × All (IsSoundSignal end) (slice_range ss k p.signal)

-- pieces fit, and with them the signals from position k on are sound up to an end
abbrev pub AreSoundFrom : ℕ → Contents → ℕ → List PieceView → Type 0
AreSoundFrom end c k ps = All (PieceFits c) ps
    × All (IsSoundSignal end) (drop k (with_pieces c ps).signals)

-- a capture may have this number of signals, and each is sound up to an end
abbrev pub AreSoundSignals : ℕ → List SignalContents → Type 0
AreSoundSignals end ss = (length ss ≤ SIGNAL_LIMIT) × All (IsSoundSignal end) ss

-- a capture with another end is sound, apart from its signals
abbrev pub HasSoundMetadata : ℕ → Contents → Type 0
HasSoundMetadata end c = IsTrue (list_all is_sound_header c.header)
    × IfSome c.timescale (λ t. IsTrue (is_sound_timescale t)) × (end ≤ END_LIMIT)

-- the fields of a record lie within a capture, and the resulting signals are sound up to an end
abbrev pub FieldsFit : ℕ → RecordView → Contents → Type 0
FieldsFit end r c = All (PieceFits c) r.pieces × WordFits c r.word × SignalFits c r.signal
    × AreSoundSignals end (apply_record r c).signals

-- the same by the kind of the record: with a signal to put in or take out, with a word, or with
-- pieces
abbrev pub KindFits : ℕ → Contents → List PieceView → Option (ℕ × List ℕ)
    → Option (ℕ × Option SignalContents) → Type 0
KindFits end c ps w (Some m) = MayPutInOrTakeOut c m.0 m.1
    × AreSoundSignals end (with_signal_in_out (Some m) c).signals
KindFits end c ps (Some w) None = (w.0 < length c.signals)
    × AreSoundSignals end (with_first_word (Some w) c).signals
KindFits end c ps None None = All (PieceFits c) ps × AreSoundSignals end (with_pieces c ps).signals
