use Rattle.std.proofs.Common.{refl}
use Rattle.std.specs.Int.{w64}
use Rattle.std.proofs.lemmas.Int.{to_z-of_z}
use Rattle.vcd_core.specs.CaptureContents.{contents, signal_contents}
use Rattle.vcd_edit.specs.declared.edit.Edit.TheVariants.{Shift}
use Rattle.vcd_edit.specs.Effect.{effect, shift_value}
use Rattle.vcd_edit.proofs.checking.Faults.{no_fault}
use Rattle.vcd_edit.proofs.plans.EffectOfRecord.{wave_plan}
use Rattle.vcd_edit.proofs.plans.shift.plan.Goals as goal

pub signal_at-old-requires-clause-position_exists : goal.signal_at-old-requires-clause-position_exists
signal_at-old-requires-clause-position_exists c =
    (no_fault (Shift c.args.position c.args.by) (contents c.args.capture.now) c.requires.allowed).0

pub returns : goal.returns
unfolding effect
returns c =
    let piece = rw (c.end.ensures, to_z-of_z w64 c.args.by c.ranges.by) at c.in_ok-piece.ensures in
    wave_plan (Shift c.args.position c.args.by) (contents c.args.capture.now) c.args.position
    (shift_value c.args.capture.now.end c.args.by) c.args.by (signal_contents c.signal_at-old.result.now)
    c.in_ok-piece.piece c.piece_record.result c.requires.sound c.requires.allowed c.signal_at-old.ensures.within
    c.signal_at-old.ensures.signal
    refl refl refl piece c.piece_record.ensures
