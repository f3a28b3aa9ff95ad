use Rattle.std.proofs.Common.{ℕ, ◌+◌, ◌≤◌, length, drop, Option, sym, ap, subst, ◌∙◌, arith}
use Rattle.std.specs.Prelude.{IfSome}
use Rattle.std.specs.Option.{option_and_then}
use Rattle.vcd_core.specs.Sound.{IsSound}
use Rattle.vcd_edit.specs.Effect.{effect}
use Rattle.vcd_edit.proofs.shared.SoundEffects.{effect_is_sound}
use Rattle.vcd_stream.specs.Pipelines.{FitsSignal, GivesSignal}
use Rattle.vcd_stream.specs.SignalEdits.{position_after_all, effect_of_all}
use Rattle.vcd_stream.proofs.shared.SignalEdits.{next_between, next_position, last_holds}
use Rattle.vcd_stream.proofs.pipeline.Pipeline.follow_all.Goals as goal

pub loop-edit-preserved : goal.loop-edit-preserved
loop-edit-preserved g c =
    let l = c.loop-edit in
    let es = c.args.edits.now in
    let i = l.edit-index in
    let e = c.edit-item.result in
    let within = c.loop-edit-test.true in
    let was = l.invariant in
    let letters = g.V.Letters.letters in
    record {
      position = ap (option_and_then (position_after_all (drop (i + 1) es)))
          (sym c.in-Some.is ∙ c.in_ok-after.ensures.position)
          ∙ sym (next_position es i e within c.edit-item.is l.now) ∙ was.position;
      width = c.in_ok-after.ensures.width ∙ was.width;
      fits = λ d free fits. next_between es i e within c.edit-item.is (λ d. FitsSignal l.self d l.now)
          (λ d. FitsSignal c.follow.new.self d c.in-Some.after) (effect_of_all es d)
          (λ d none fits. subst (λ (o : Option ℕ). IfSome o (FitsSignal c.follow.new.self (effect e d))) c.in-Some.is
          (c.in_ok-after.ensures.fits d none fits)) (was.fits d free fits);
      gives = λ fed d sound free gives. next_between es i e within c.edit-item.is
          (λ d. IsSound d × GivesSignal letters l.self fed d l.now)
          (λ d. IsSound d × GivesSignal letters c.follow.new.self fed d c.in-Some.after) (effect_of_all es d)
          (λ d none (sound, gives). (
            effect_is_sound e d sound none,
            subst (λ (o : Option ℕ). IfSome o (GivesSignal letters c.follow.new.self fed (effect e d))) c.in-Some.is
                (c.in_ok-after.ensures.gives fed d sound none gives),
          )) (was.gives fed d sound free gives);
    }

pub returns-clause-gives : goal.returns-clause-gives
returns-clause-gives g c = λ fed d sound free gives.
    let l = c.loop-edit in
    let es = c.args.edits.now in
    let past : length es ≤ l.edit-index = omega arith in
    (last_holds es l.edit-index (λ d. IsSound d × GivesSignal g.V.Letters.letters l.self fed d l.now)
    (effect_of_all es d) past (l.invariant.gives fed d sound free gives)).1
