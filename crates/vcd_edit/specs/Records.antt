-- The plain data of a record: what each part of the type becomes. Nothing is left out but room.
use Rattle.std.specs.Prelude.{ℕ, List, Option, Some, None, map}
use Rattle.std.specs.Global.{Vec}
use Rattle.vcd_core.specs.declared.capture.Signal.{Signal}
use Rattle.vcd_core.specs.Contents.{SignalContents}
use Rattle.vcd_core.specs.CaptureContents.{signal_contents}
use Rattle.vcd_edit.specs.declared.record.Piece.{Piece}
use Rattle.vcd_edit.specs.RecordView.{PieceView, RecordView}

-- the numbers and changes of a piece
abbrev pub piece_view : Piece → PieceView
piece_view p = record {
  signal = p.signal;
  from = p.from;
  to = p.to;
  changes = p.changes.items;
  by = p.by;
}

-- a word as its bytes, with its position
abbrev pub word_view : Option (ℕ × Vec ℕ) → Option (ℕ × List ℕ)
word_view None = None
word_view (Some w) = Some (w.0, w.1.items)

-- the contents of a signal, if there is one
abbrev pub contents_of_signal : Option Signal → Option SignalContents
contents_of_signal None = None
contents_of_signal (Some s) = Some (signal_contents s)

-- the same with its position
abbrev pub signal_view : Option (ℕ × Option Signal) → Option (ℕ × Option SignalContents)
signal_view None = None
signal_view (Some m) = Some (m.0, contents_of_signal m.1)

-- a record of these fields
abbrev pub record_view : List Piece → Option (ℕ × Vec ℕ) → Option (ℕ × Option Signal) → Option ℕ
    → RecordView
record_view pieces word signal end =
    record {
      pieces = map piece_view pieces;
      word = word_view word;
      signal = signal_view signal;
      other_end = end;
    }
