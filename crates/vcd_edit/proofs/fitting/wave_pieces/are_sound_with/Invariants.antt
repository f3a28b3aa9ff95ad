-- The signals that are left, with the pieces that are left, decide.
use Rattle.std.proofs.Common.{◌≡◌, ◌↔◌, ◌≤◌, length, map, drop}
use Rattle.vcd_core.specs.Contents.{Contents}
use Rattle.vcd_core.specs.CaptureContents.{signal_contents}
use Rattle.vcd_edit.specs.AppliedRecords.{RiseFrom}
use Rattle.vcd_edit.specs.Records.{piece_view}
use Rattle.vcd_edit.specs.inside.fitting.FittingTests.{AreSoundFrom}
use Rattle.vcd_edit.proofs.fitting.wave_pieces.are_sound_with.Given as goal

abbrev pub invariant-loop-piece : goal.invariant-loop-piece
invariant-loop-piece l = record {
  within : l.next ≤ length l.signals;
  rise : RiseFrom l.next (map piece_view (drop l.piece-index l.pieces));
  tells : (c : Contents) → c.signals ≡ map signal_contents l.signals
      → AreSoundFrom l.end c l.next (map piece_view (drop l.piece-index l.pieces))
      ↔ AreSoundFrom l.end c 0 (map piece_view l.pieces);
}
