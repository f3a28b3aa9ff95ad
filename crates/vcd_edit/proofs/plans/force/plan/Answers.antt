use Rattle.std.proofs.Common.{refl, pos}
use Rattle.vcd_core.specs.CaptureContents.{contents, signal_contents}
use Rattle.vcd_edit.specs.declared.edit.Edit.TheVariants.{Force}
use Rattle.vcd_edit.specs.Effect.{effect, force_value}
use Rattle.vcd_edit.proofs.checking.Faults.{no_fault}
use Rattle.vcd_edit.proofs.plans.EffectOfRecord.{wave_plan, force_ticks}
use Rattle.vcd_edit.proofs.plans.force.plan.Goals as goal

pub signal_at-old-requires-clause-position_exists : goal.signal_at-old-requires-clause-position_exists
signal_at-old-requires-clause-position_exists c =
    let f = c.args.forced.now in
    (no_fault (Force c.args.position f.from f.to f.value) (contents c.args.capture.now) c.requires.allowed).0

pub force_piece-requires-clause-not_empty : goal.force_piece-requires-clause-not_empty
force_piece-requires-clause-not_empty c =
    let f = c.args.forced.now in
    (force_ticks c.args.position f.from f.to f.value (contents c.args.capture.now) c.requires.allowed).0

pub force_piece-requires-clause-within : goal.force_piece-requires-clause-within
force_piece-requires-clause-within c =
    let f = c.args.forced.now in
    rw (c.end.ensures)
    ((force_ticks c.args.position f.from f.to f.value (contents c.args.capture.now) c.requires.allowed).1)

pub returns : goal.returns
unfolding effect
returns c =
    let f = c.args.forced.now in
    let piece = rw (c.end.ensures) at c.in_ok-piece.ensures in
    wave_plan (Force c.args.position f.from f.to f.value) (contents c.args.capture.now) c.args.position
    (force_value f.from f.to f.value) (pos 0) (signal_contents c.signal_at-old.result.now)
    c.in_ok-piece.piece c.piece_record.result c.requires.sound c.requires.allowed c.signal_at-old.ensures.within
    c.signal_at-old.ensures.signal
    refl refl refl piece
    c.piece_record.ensures
