use Rattle.std.proofs.Common.{map, refl, pos, ◌∙◌}
use Rattle.vcd_core.specs.Contents.{SignalContents}
use Rattle.vcd_core.specs.CaptureContents.{contents, signal_contents}
use Rattle.vcd_edit.specs.declared.edit.Edit.TheVariants.{Invert}
use Rattle.vcd_edit.specs.Operators.{not_bit}
use Rattle.vcd_edit.specs.Effect.{effect, inverse_value}
use Rattle.vcd_edit.specs.inside.plans.RemainingChanges.{without_repeats, mapped_change}
use Rattle.vcd_edit.proofs.checking.Faults.{no_fault}
use Rattle.vcd_edit.proofs.plans.EffectOfRecord.{wave_plan}
use Rattle.vcd_edit.proofs.plans.Ranges.{whole_gives}
use Rattle.vcd_edit.proofs.plans.invert.InversePiece.{inverse_changes}
use Rattle.vcd_edit.proofs.plans.invert.plan.Goals as goal

pub signal_at-requires-clause-position_exists : goal.signal_at-requires-clause-position_exists
signal_at-requires-clause-position_exists c =
    (no_fault (Invert c.args.signal) (contents c.args.capture.now) c.requires.allowed).0

pub returns : goal.returns
unfolding effect
returns c =
    let s : SignalContents = signal_contents c.signal_at.result.now in
    let told = c.in_ok-changes.ensures
    ∙ (λ i. without_repeats (c.x_value.ensures i) (map (mapped_change (map not_bit)) (c.changes.ensures.changes i)))
    ∙ inverse_changes c.args.capture.now.end s c.signal_at.ensures.sound.wave c.signal_at.ensures.sound.ticks in
    wave_plan (Invert c.args.signal) (contents c.args.capture.now) c.args.signal inverse_value (pos 0) s
    c.whole_piece.result c.piece_record.result c.requires.sound c.requires.allowed
    c.signal_at.ensures.within c.signal_at.ensures.signal refl
    refl refl
    (whole_gives c.whole_piece.result c.args.signal s c.in_ok-changes.changes.items c.args.capture.now.end
    (inverse_value s) c.whole_piece.ensures told) c.piece_record.ensures
