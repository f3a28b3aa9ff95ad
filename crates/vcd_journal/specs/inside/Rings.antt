-- What holds of the records of a session.
use Rattle.std.specs.Prelude.{◌≡◌, ℕ, suc, ◌+◌, ◌≤◌, List, [], ◌∷◌, length}
use Rattle.circular_buffer.specs.Buffer.{Buffer}
use Rattle.vcd_core.specs.Contents.{Contents}
use Rattle.vcd_core.specs.Sound.{IsSound}
use Rattle.vcd_edit.specs.RecordView.{RecordView}
use Rattle.vcd_edit.specs.AppliedRecords.{apply_record, Fits, PutsInOrKeepsNames}
use Rattle.vcd_journal.specs.declared.step.TheConstants.{DEPTH_LIMIT}
use Rattle.vcd_journal.specs.ReachedCaptures.{reached_captures}

-- each record fits the capture that those before it reach
abbrev pub AllRecordsFit : Contents → List RecordView → Type 0
AllRecordsFit c [] = Unit {0}
AllRecordsFit c (r ∷ rs) = Fits r c × AllRecordsFit (apply_record r c) rs

-- the capture is sound and each record fits; both rings together hold at most `depth` records, and
-- each has room for `depth`
pub record AreSessionRings (c : Contents) (past future : Buffer RecordView) (depth : ℕ)
    : Type 0 where
  pub sound : IsSound c
  pub past_fits : AllRecordsFit c past.items
  pub future_fits : AllRecordsFit c future.items
  pub few : length past.items + length future.items ≤ depth
  pub most : depth ≤ DEPTH_LIMIT
  pub past_room : depth ≤ past.capacity
  pub future_room : depth ≤ future.capacity

-- the first record of a ring changes c into d, and the others stay
pub record PopsRecord (c : Contents) (before : List RecordView) (d : Contents)
    (after : List RecordView) : Type 0 where
  pub captures : reached_captures c before ≡ d ∷ reached_captures d after
  pub fit : AllRecordsFit c before
  pub rest_fit : AllRecordsFit d after
  pub count : length before ≡ suc (length after)

-- the first record, if there is one, puts a signal in or leaves all names as they are
abbrev pub FirstMayNeedMemory : Contents → List RecordView → Type 0
FirstMayNeedMemory c [] = Unit {0}
FirstMayNeedMemory c (r ∷ rs) = PutsInOrKeepsNames c (apply_record r c)
