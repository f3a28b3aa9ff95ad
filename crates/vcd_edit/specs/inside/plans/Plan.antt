-- What a plan of an edit is: a record whose result is the effect of the edit.
use Rattle.std.specs.Prelude.{◌≡◌, ℕ, ℤ, neg_ℤ, ◌<◌, List, ◌++◌, map, take, drop, All}
use Rattle.vcd_core.specs.declared.bit.Bit.{Bit}
use Rattle.vcd_core.specs.Contents.{Contents, SignalContents}
use Rattle.vcd_edit.specs.declared.edit.Edit.{Edit}
use Rattle.vcd_edit.specs.declared.record.Piece.{Piece}
use Rattle.vcd_edit.specs.RecordView.{PieceView, RecordView}
use Rattle.vcd_edit.specs.Effect.{effect}
use Rattle.vcd_edit.specs.Touched.{record_pairing}
use Rattle.vcd_edit.specs.TouchedByEdit.{edit_advance, edit_pairing}
use Rattle.vcd_edit.specs.AppliedRecords.{with_pieces, apply_record, PieceFits, Fits, RiseFrom}
use Rattle.vcd_edit.specs.inside.plans.Ranges.{GivesChanges}
use Rattle.vcd_edit.specs.Records.{piece_view}

-- the record changes a capture into the effect of an edit on it
pub record IsPlan (e : Edit) (c : Contents) (r : RecordView) : Type 0 where
  pub fits : Fits r c
  pub leads : apply_record r c ≡ effect e c
  pub advance : All (λ p. edit_advance e ≡ neg_ℤ p.by) r.pieces
  pub pairing : record_pairing r.signal ≡ edit_pairing e c

-- the piece gives the signal at a position the values of a function up to an end, with an offset
pub record GivesValues (k : ℕ) (s : SignalContents) (end : ℕ) (by : ℤ) (f : ℕ → List Bit)
    (p : Piece) : Type 0 where
  pub signal : p.signal ≡ k
  pub offset : p.by ≡ by
  pub leads : GivesChanges (piece_view p) s.changes s.width end f

-- pieces for at most the first n signals of a capture change each of these by g, all with one
-- offset
pub record PiecesForEach (c : Contents) (by : ℤ) (g : SignalContents → SignalContents) (n : ℕ)
    (ps : List PieceView) : Type 0
  where
    pub leads : with_pieces c ps ≡ record c {
      signals = map g (take n c.signals)
          ++ drop n c.signals;
    }
    pub fit : All (PieceFits c) ps
    pub below : All (λ p. p.signal < n) ps
    pub rise : RiseFrom 0 ps
    pub offset : All (λ p. p.by ≡ by) ps
