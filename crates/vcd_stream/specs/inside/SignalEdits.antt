-- A capture between edits that are made one after another.
use Rattle.std.specs.Prelude.{◌≡◌, List}
use Rattle.vcd_core.specs.Contents.{Contents}
use Rattle.vcd_edit.specs.declared.edit.Edit.{Edit}
use Rattle.vcd_stream.specs.SignalEdits.{effect_of_all, HaveNoFault}

-- something holds of a capture of which the edits that are left make the last one
pub record HoldsBetween (left : List Edit) (last : Contents) (P : Contents → Type 0) : Type 0 where
  pub capture : Contents
  pub free : HaveNoFault left capture
  pub same : effect_of_all left capture ≡ last
  pub holds : P capture
