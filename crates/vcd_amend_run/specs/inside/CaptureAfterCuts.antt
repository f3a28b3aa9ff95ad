-- A capture after cuts, by the ticks that they take out.
use Rattle.std.specs.Prelude.{List, [], ◌∷◌}
use Rattle.vcd_core.specs.Contents.{Contents}
use Rattle.vcd_edit.specs.Effect.{cut_contents}
use Rattle.vcd_amend.specs.declared.cut_ticks.CutTicks.{CutTicks}

-- the capture after these cuts, each of which is made on what the earlier ones leave
unfoldable pub capture_after_cuts : Contents → List CutTicks → Contents
capture_after_cuts c [] = c
capture_after_cuts c (cut ∷ cuts) = capture_after_cuts (cut_contents cut.from cut.to c) cuts
