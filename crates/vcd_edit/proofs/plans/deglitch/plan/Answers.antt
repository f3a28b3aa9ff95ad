use Rattle.std.proofs.Common.{ℕ, ◌+◌, ◌-◌, ◌≡◌, List, length, take, drop, refl, pos, sym, ap, ◌∙◌, arith, length-drop}
use Rattle.std.proofs.lemmas.List.{take_all}
use Rattle.vcd_core.specs.declared.wave.Change.{Change}
use Rattle.vcd_core.specs.Value.{all_x}
use Rattle.vcd_core.specs.WavePush.{last_value}
use Rattle.vcd_edit.specs.declared.record.Piece.{Piece}
use Rattle.vcd_core.specs.Contents.{SignalContents, signal_value}
use Rattle.vcd_core.specs.CaptureContents.{contents, signal_contents}
use Rattle.vcd_edit.specs.declared.edit.Edit.TheVariants.{Deglitch}
use Rattle.vcd_edit.specs.Effect.{steady_value}
use Rattle.vcd_edit.proofs.checking.Faults.{no_fault}
use Rattle.vcd_edit.proofs.plans.EffectOfRecord.{wave_plan, nothing_plan}
use Rattle.vcd_edit.proofs.shared.Runs.{steady_are, deglitch_is_wave}
use Rattle.vcd_edit.proofs.plans.deglitch.RemainingChanges.{none_left_out, deglitch_gives}
use Rattle.vcd_edit.proofs.plans.deglitch.plan.Goals as goal

pub signal_at-requires-clause-position_exists : goal.signal_at-requires-clause-position_exists
signal_at-requires-clause-position_exists c =
    (no_fault (Deglitch c.args.signal c.args.ticks) (contents c.args.capture.now) c.requires.allowed).0

pub returns-then-from-changes : goal.returns-then-from-changes
returns-then-from-changes c =
    let s : SignalContents = signal_contents c.signal_at.result.now in
    let n = c.args.ticks in
    let end = c.args.capture.now.end in
    nothing_plan (Deglitch c.args.signal n) (contents c.args.capture.now) c.args.signal
    (λ s. steady_value n end (signal_value s)) s c.empty_record.result c.empty_record.ensures c.requires.sound
    c.requires.allowed
    c.signal_at.ensures.signal (deglitch_is_wave c.args.signal n (contents c.args.capture.now)) refl
    (sym (steady_are n end s c.signal_at.ensures.sound.wave c.signal_at.ensures.sound.ticks)
    ∙ none_left_out n s c.changes-changes.result.now c.x_value-x.result c.changes-changes.ensures.changes
    c.x_value-x.ensures c.remaining_prefix_len-from.result (omega arith) c.remaining_prefix_len-from.ensures.remaining
    c.if-from-changes.true)

pub returns : goal.returns
returns c =
    let s : SignalContents = signal_contents c.signal_at.result.now in
    let n = c.args.ticks in
    let end = c.args.capture.now.end in
    let cs = c.changes-changes.result.now in
    let from = c.remaining_prefix_len-from.result in
    let glitches = c.glitch_range-glitches.result in
    let later : List Change = take (length cs - from) (drop from cs) in
    let rest : later ≡ drop from cs = take_all (length cs - from) (drop from cs) (omega (arith, length-drop from cs)) in
    let piece : Piece = record {
      signal = c.args.signal;
      from = from;
      to = from + glitches.to;
      changes = c.in_ok-remaining_list.field-0;
      by = pos 0;
    } in
    wave_plan (Deglitch c.args.signal n) (contents c.args.capture.now) c.args.signal
    (λ s. steady_value n end (signal_value s)) (pos 0) s
    piece c.piece_record.result c.requires.sound c.requires.allowed
    c.signal_at.ensures.within c.signal_at.ensures.signal
    (deglitch_is_wave c.args.signal n (contents c.args.capture.now)) refl refl
    (deglitch_gives n s cs c.x_value-x.result c.changes-changes.ensures.changes c.x_value-x.ensures from (omega arith)
    c.remaining_prefix_len-from.ensures.remaining
    c.last_value-before.result later c.in_ok-remaining_list.field-0.items glitches.remaining glitches.to
    (c.last_value-before.ensures
    ∙ ap (λ (w : ℕ). last_value (all_x w) (take from cs)) c.width.ensures.width) rest
    c.glitch_range-glitches.ensures.remaining c.in_ok-remaining_list.ensures
    c.args.signal end piece c.signal_at.ensures.sound c.requires.sound.end c.glitch_range-glitches.ensures.within
    refl) c.piece_record.ensures
