-- The captures of a history, as contracts see a session.
use Rattle.std.specs.Prelude.{List, [], ◌∷◌}
use Rattle.vcd_core.specs.Contents.{Contents}
use Rattle.vcd_edit.specs.RecordView.{RecordView}
use Rattle.vcd_edit.specs.AppliedRecords.{apply_record}

-- the captures after records are applied, one after another
abbrev pub reached_captures : Contents → List RecordView → List Contents
reached_captures c [] = []
reached_captures c (r ∷ rs) = apply_record r c ∷ reached_captures (apply_record r c) rs
