-- A piece without the changes that its list already has.
use Rattle.std.specs.Prelude.{◌≡◌, ◌+◌, ◌-◌, ◌≤◌, neg_ℤ, List, length, drop}
use Rattle.vcd_core.specs.declared.wave.Change.{Change}
use Rattle.vcd_core.specs.Splice.{AllTicksFit}
use Rattle.vcd_edit.specs.RecordView.{PieceView}
use Rattle.vcd_edit.specs.AppliedRecords.{changes_with_piece}
use Rattle.vcd_edit.specs.Touched.{touched_count}

-- the new piece gives the same list as the old one, and replaces touched changes only
pub record IsTrimmed (cs : List Change) (old new : PieceView) : Type 0 where
  pub signal : new.signal ≡ old.signal
  pub by : new.by ≡ old.by
  pub ordered : new.from ≤ new.to
  pub within : new.to ≤ length cs
  pub ticks : AllTicksFit new.by (drop new.to cs)
  pub same : changes_with_piece new cs ≡ changes_with_piece old cs
  pub touched_only : new.to - new.from ≤ touched_count (neg_ℤ old.by) cs (changes_with_piece old cs)
  pub no_longer : new.to - new.from ≤ old.to - old.from
  pub balance : length new.changes + (old.to - old.from) ≡ length old.changes + (new.to - new.from)
