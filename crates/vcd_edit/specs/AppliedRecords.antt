-- What a record makes of a capture, and which records fit one. The rules are the project's own.
use Rattle.std.specs.Prelude.{◌≡◌, ◌≢◌, ◌⊎◌, ℕ, suc, ◌<◌, ◌≤◌, List, [], ◌∷◌, length, drop, All}
use Rattle.std.specs.Prelude.{Option, Some, None}
use Rattle.std.specs.List.{insert, remove}
use Rattle.vcd_core.specs.declared.wave.Change.{Change}
use Rattle.vcd_core.specs.Contents.{Contents, SignalContents, signal_at, with_signal}
use Rattle.vcd_core.specs.Splice.{AllTicksFit, spliced_changes}
use Rattle.vcd_core.specs.Names.{full_names}
use Rattle.vcd_core.specs.Sound.{IsSound}
use Rattle.vcd_edit.specs.RecordView.{PieceView, RecordView}
use Rattle.vcd_edit.specs.Effect.{renamed_signal}

-- ---- pieces

-- the list of changes after a piece is put in
abbrev pub changes_with_piece : PieceView → List Change → List Change
changes_with_piece p cs = spliced_changes cs p.from p.to p.changes p.by

-- the signal with these changes
abbrev pub signal_with_changes : SignalContents → List Change → SignalContents
signal_with_changes s cs = record s { changes = cs }

-- the capture after a piece is put into its signal
abbrev pub with_piece : Contents → PieceView → Contents
with_piece c p = with_signal c p.signal
    (signal_with_changes (signal_at c p.signal)
    (changes_with_piece p (signal_at c p.signal).changes))

-- the capture after all pieces are put in, one after another
unfoldable pub with_pieces : Contents → List PieceView → Contents
with_pieces c [] = c
with_pieces c (p ∷ ps) = with_pieces (with_piece c p) ps

-- ---- the other fields of a record

-- the capture after a signal's first word is replaced
abbrev pub with_first_word : Option (ℕ × List ℕ) → Contents → Contents
with_first_word None c = c
with_first_word (Some w) c = with_signal c w.0 (renamed_signal w.1 (signal_at c w.0))

-- the signals after one is put in at a position, or the one there is taken out
abbrev pub signals_with_one_in_out : ℕ → Option SignalContents → List SignalContents
    → List SignalContents
signals_with_one_in_out k (Some s) ss = insert ss k s
signals_with_one_in_out k None ss = remove ss k

-- the capture after a signal is put in or taken out
abbrev pub with_signal_in_out : Option (ℕ × Option SignalContents) → Contents → Contents
with_signal_in_out None c = c
with_signal_in_out (Some m) c = record c { signals = signals_with_one_in_out m.0 m.1 c.signals }

-- no signal is put in
abbrev pub PutsNoSignalIn : Option (ℕ × Option SignalContents) → Type 0
PutsNoSignalIn None = Unit {0}
PutsNoSignalIn (Some m) = m.1 ≡ None

-- no signal is put in, taken out or given other changes
abbrev pub HasNeitherPiecesNorSignal : RecordView → Type 0
HasNeitherPiecesNorSignal r = (r.pieces ≡ []) × (r.signal ≡ None)

-- the capture with another end
abbrev pub with_end : Option ℕ → Contents → Contents
with_end None c = c
with_end (Some end) c = record c { end = end }

-- ---- what a record makes of a capture

-- the pieces in order, then the word, the signal and the end
unfoldable pub apply_record : RecordView → Contents → Contents
apply_record r c = with_end r.other_end
    (with_signal_in_out r.signal (with_first_word r.word (with_pieces c r.pieces)))

-- ---- which records fit a capture

-- the piece's range lies within the changes of its signal, and the later changes may move
pub record PieceFits (c : Contents) (p : PieceView) : Type 0 where
  pub signal : p.signal < length c.signals
  pub ordered : p.from ≤ p.to
  pub within : p.to ≤ length (signal_at c p.signal).changes
  pub ticks : AllTicksFit p.by (drop p.to (signal_at c p.signal).changes)

-- the word is for a signal of the capture
abbrev pub WordFits : Contents → Option (ℕ × List ℕ) → Type 0
WordFits c None = Unit {0}
WordFits c (Some w) = w.0 < length c.signals

-- a signal is put in at most after the last one, and the signal to take out exists
abbrev pub MayPutInOrTakeOut : Contents → ℕ → Option SignalContents → Type 0
MayPutInOrTakeOut c k (Some s) = k ≤ length c.signals
MayPutInOrTakeOut c k None = k < length c.signals

-- the same for the signal of a record, if it has one
abbrev pub SignalFits : Contents → Option (ℕ × Option SignalContents) → Type 0
SignalFits c None = Unit {0}
SignalFits c (Some m) = MayPutInOrTakeOut c m.0 m.1

-- each part of the record lies within the capture, and the result is sound
pub record Fits (r : RecordView) (c : Contents) : Type 0 where
  pub pieces : All (PieceFits c) r.pieces
  pub word : WordFits c r.word
  pub signal : SignalFits c r.signal
  pub sound : IsSound (apply_record r c)

-- a step from one capture to another puts a signal in, or leaves all full names as they are
abbrev pub PutsInOrKeepsNames : Contents → Contents → Type 0
PutsInOrKeepsNames c d =
    (length c.signals < length d.signals) ⊎ (full_names d.signals ≡ full_names c.signals)

-- ---- which records there are

-- pieces for signals from a position on, each for a later signal than the piece before it
abbrev pub RiseFrom : ℕ → List PieceView → Type 0
RiseFrom k [] = Unit {0}
RiseFrom k (p ∷ ps) = (k ≤ p.signal) × RiseFrom (suc p.signal) ps

-- a record has pieces, or a word, or a signal to put in or take out: at most one of the three
pub record IsOfOneKind (r : RecordView) : Type 0 where
  pub rise : RiseFrom 0 r.pieces
  pub word_alone : r.word ≢ None → r.pieces ≡ []
  pub signal_alone : r.signal ≢ None → (r.pieces ≡ []) × (r.word ≡ None)
