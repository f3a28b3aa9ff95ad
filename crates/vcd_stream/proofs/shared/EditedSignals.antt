-- The signal that a pipeline gives, before and after an edit.
use Rattle.std.proofs.Common.{◌≡◌, ℕ, ◌<◌, List, [], ◌∷◌, ◌++◌, length, refl, sym, ap, subst, ◌∙◌}
use Rattle.std.proofs.lemmas.List.{length-set, length-map, get_or-set_same, get_or-map}
use Rattle.vcd_core.specs.declared.bit.Bit.{Bit}
use Rattle.vcd_core.specs.declared.wave.Change.{Change}
use Rattle.vcd_core.specs.Contents.{Contents, SignalContents, no_signal, signal_at}
use Rattle.vcd_core.specs.Sound.{IsSound}
use Rattle.vcd_core.specs.Wave.{AllUpTo, changes_of, value_at}
use Rattle.vcd_edit.specs.Effect.{effect, with_values, signal_after_cut}
use Rattle.vcd_edit.proofs.shared.SoundEffects.{sound_at}
use Rattle.vcd_stream.specs.declared.pipeline.Pipeline.{Pipeline}
use Rattle.vcd_stream.specs.declared.stage.Stage.{Stage}
use Rattle.vcd_stream.specs.declared.wave_edit.WaveEdit.{WaveEdit}
use Rattle.vcd_stream.specs.declared.wave_edit.WaveEdit.TheVariants.{Invert, Deglitch, Shift, Force, Cut}
use Rattle.vcd_stream.specs.Stages.{given, given_by_all}
use Rattle.vcd_stream.specs.WaveEdits.{edit_of, edited_value, end_after, IsStageOf}
use Rattle.vcd_stream.specs.Pipelines.{FitsSignal, GivesSignal, HasFileChanges, IsFileStage, TicksStay}
use Rattle.vcd_stream.proofs.shared.Pipelines.{given_last}

module _ (k : ℕ) (c : Contents) (within : k < length c.signals) where
  -- the signal after an edit
  edited_signal : (e : WaveEdit) → signal_at (effect (edit_of k e) c) k
      ≡ with_values (end_after e c.end) (edited_value e c.end (signal_at c k)) (signal_at c k)
  unfolding effect
  edited_signal Invert = get_or-set_same c.signals k _ no_signal within
  edited_signal (Deglitch ticks) = get_or-set_same c.signals k _ no_signal within
  edited_signal (Shift by) = get_or-set_same c.signals k _ no_signal within
  edited_signal (Force from to value) = get_or-set_same c.signals k _ no_signal within
  edited_signal (Cut from to) = get_or-map (signal_after_cut _ from to) c.signals k no_signal no_signal within

  edited_end : (e : WaveEdit) → (effect (edit_of k e) c).end ≡ end_after e c.end
  unfolding effect
  edited_end Invert = refl
  edited_end (Deglitch ticks) = refl
  edited_end (Shift by) = refl
  edited_end (Force from to value) = refl
  edited_end (Cut from to) = refl

  still_within : (e : WaveEdit) → length (effect (edit_of k e) c).signals ≡ length c.signals
  unfolding effect
  still_within Invert = length-set c.signals k _
  still_within (Deglitch ticks) = length-set c.signals k _
  still_within (Shift by) = length-set c.signals k _
  still_within (Force from to value) = length-set c.signals k _
  still_within (Cut from to) = length-map c.signals _

-- one stage more fits the signal after the edit
pub fits_edited : {V : Type 0} (before after : Pipeline V) (e : WaveEdit) (c : Contents) (k : ℕ)
    → after.width ≡ before.width → after.end ≡ end_after e before.end → FitsSignal before c k
    → FitsSignal after (effect (edit_of k e) c) k
fits_edited before after e c k width end fits = record {
  within = subst (λ n. k < n) (sym (still_within k c fits.within e)) fits.within;
  width = ap (λ (r : SignalContents). r.width) (edited_signal k c fits.within e) ∙ fits.width ∙ sym width;
  end = edited_end k c fits.within e ∙ ap (end_after e) fits.end ∙ sym end;
}

-- and gives it
pub gives_edited : {V : Type 0} (letters : ℕ → V → List Bit) (before after : Pipeline V) (e : WaveEdit)
    (stage : Stage V) (fed : List Change) (c : Contents) (k : ℕ)
    → after.stages.items ≡ before.stages.items ++ stage ∷ []
    → after.width ≡ before.width → after.end ≡ end_after e before.end
    → IsStageOf (letters before.width) e before.end before.width stage → IsSound c
    → GivesSignal letters before fed c k → GivesSignal letters after fed (effect (edit_of k e) c) k
gives_edited letters before after e stage fed c k put width end is sound gives =
    let s : SignalContents = signal_at c k in
    let fits : FitsSignal before c k = gives.fits in
    let there = sound_at c k fits.within sound in
    let edited = edited_signal k c fits.within e in
    record {
      fits = fits_edited before after e c k width end fits;
      gives = ap (λ w. given_by_all (letters w) after.stages.items fed) width
          ∙ ap (λ l. given_by_all (letters before.width) l fed) put
          ∙ given_last (letters before.width) before.stages.items stage fed
          ∙ ap (given (letters before.width) stage) gives.gives
          ∙ is s fits.width there.wave (subst (λ n. AllUpTo n s.changes) fits.end there.ticks)
          ∙ ap (λ n. (with_values (end_after e n) (edited_value e n s) s).changes) (sym fits.end)
          ∙ ap (λ (r : SignalContents). r.changes) (sym edited);
    }

-- no stage
pub gives_of_wave : {V : Type 0} (letters : ℕ → V → List Bit) (pipeline : Pipeline V) (c : Contents) (k : ℕ)
    → pipeline.stages.items ≡ [] → FitsSignal pipeline c k
    → GivesSignal letters pipeline (signal_at c k).changes c k
unfolding given_by_all
gives_of_wave letters pipeline c k none fits = record {
  fits = fits;
  gives = ap (λ l. given_by_all (letters pipeline.width) l (signal_at c k).changes) none;
}

-- the first stage
pub gives_of_file : {V : Type 0} (letters : ℕ → V → List Bit) (pipeline : Pipeline V) (stage : Stage V)
    (fed : List Change) (c : Contents) (k : ℕ) → pipeline.stages.items ≡ stage ∷ []
    → (signal_at c k).width ≡ pipeline.width → c.end ≡ pipeline.end
    → IsFileStage (letters pipeline.width) pipeline.width stage → HasFileChanges fed c k
    → GivesSignal letters pipeline fed c k
unfolding given_by_all
gives_of_file letters pipeline stage fed c k put width end is has = record {
  fits = record { within = has.within; width = width; end = end };
  gives = ap (λ l. given_by_all (letters pipeline.width) l fed) put
      ∙ is c.end fed (subst (λ w. TicksStay w 0 fed) width has.stay) has.upto
      ∙ ap (λ w. changes_of w c.end (value_at w fed)) (sym width) ∙ sym has.changes;
}
