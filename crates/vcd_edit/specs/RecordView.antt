-- A record as plain data: its pieces, word, signal and end.
use Rattle.std.specs.Prelude.{ℕ, ℤ, List, Option}
use Rattle.vcd_core.specs.declared.wave.Change.{Change}
use Rattle.vcd_core.specs.Contents.{SignalContents}

-- the changes of the range `from` to before `to` become `changes`, and the later ones move by `by`
-- ticks
pub record PieceView : Type 0 where
  pub signal : ℕ
  pub from : ℕ
  pub to : ℕ
  pub changes : List Change
  pub by : ℤ

-- pieces; the position of a signal with its new first word; the position of a signal to put in, or
-- to take out (none); the new end
pub record RecordView : Type 0 where
  pub pieces : List PieceView
  pub word : Option (ℕ × List ℕ)
  pub signal : Option (ℕ × Option SignalContents)
  pub other_end : Option ℕ
