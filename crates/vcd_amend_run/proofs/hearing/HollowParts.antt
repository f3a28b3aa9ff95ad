-- A part of the heard signals, put into the outline, is a hollow capture.
use Rattle.std.proofs.Common.{◌≡◌, ◌≢◌, ◌<◌, ◌≤◌, ◌-◌, ℕ, Bool, true, false, not, ◌&&◌, List, length}
use Rattle.std.proofs.Common.{min, nat_lt, inl, inr, refl, sym, ap, subst, ◌∙◌, arith}
use Rattle.std.specs.Prelude.{Option, Some, None, IfSome, option_map, slice_index_or}
use Rattle.std.proofs.lemmas.Bool.{cases_Bool, ltb-true, lt-ltb}
use Rattle.std.proofs.lemmas.Option.{same_Some}
use Rattle.vcd_core.specs.CaptureContents.{contents}
use Rattle.vcd_core.specs.Contents.{Contents, SignalContents, signal_at}
use Rattle.vcd_core.specs.Outline.{without_changes, outline}
use Rattle.vcd_core.proofs.shared.Outlines.{at_outline, count_in_outline}
use Rattle.vcd_text.specs.declared.reading.Loaded.{Loaded}
use Rattle.vcd_core.specs.declared.capture.TheConstants.{END_LIMIT}
use Rattle.vcd_text.specs.Parts.{PartMeans, part_of}
use Rattle.vcd_text.specs.inside.reading.Part.{all_ticks}
use Rattle.vcd_text.proofs.shared.SoundMeaning.{IsSoundBut}
use Rattle.vcd_text.proofs.part.WholeParts.{file_is_sound}
use Rattle.vcd_hollow.specs.HollowPart.{with_taken}
use Rattle.vcd_hollow.proofs.shared.HollowPart.{hollow_is_part}
use Rattle.vcd_amend_run.specs.FileParts.{HasHollow, HasOtherOutline, IsHollow}
use Rattle.vcd_amend_run.specs.declared.heard_names.HeardNames.{HeardNames}
use Rattle.vcd_amend_run.specs.inside.HeardNames.{hears, HearsAll}
use Rattle.vcd_amend_run.specs.inside.WithWaves.{with_waves, with_part_waves}
use Rattle.vcd_amend_run.proofs.hearing.PartWaves.{waves_of_part, signals_read}

-- ---- the hollow capture

module _ (takes : SignalContents → Bool) (whole : Contents) where
  -- a signal is silent if it is not taken
  abbrev silent : ℕ → Bool
  silent k = nat_lt k (length whole.signals) && not (takes (without_changes (signal_at whole k)))

  is_silent : (k : ℕ) → k < length whole.signals → silent k ≡ not (takes (without_changes (signal_at whole k)))
  is_silent k within =
      ap (λ (b : Bool). b && not (takes (without_changes (signal_at whole k)))) (lt-ltb k (length whole.signals) within)

  past_last : (k : ℕ) → nat_lt k (length whole.signals) ≡ false → silent k ≡ false
  past_last k past = ap (λ (b : Bool). b && not (takes (without_changes (signal_at whole k)))) past

  are_heard : (heard : List Bool) → HearsAll takes heard (outline whole).signals
      → (k : ℕ) → slice_index_or heard k false ≡ true → silent k ≡ false
  are_heard heard hears k is =
      elim (cases_Bool (nat_lt k (length whole.signals))) [
        | inl within ↦
            let below : k < length whole.signals = ltb-true k (length whole.signals) within in
            is_silent k below ∙ ap not (ap takes (sym (at_outline whole k))
            ∙ hears k (omega (arith, below, count_in_outline whole)) is)
        | inr past ↦ past_last k past
      ]

  pub is_hollow : (heard : List Bool) (read : Contents) → IsSoundBut whole
      → HearsAll takes heard (outline whole).signals
      → read ≡ record (outline whole) {
        signals = with_taken takes (outline whole).signals (part_of takes all_ticks whole).signals;
      }
      → IsHollow heard whole read
  is_hollow heard read sound hears is = (
    silent,
    are_heard heard hears,
    is ∙ sym (hollow_is_part takes silent all_ticks whole sound.signals refl sound.end is_silent),
  )

-- ---- what is read

not_some : (c : Contents) → None ≡ Some c → ⊥
not_some c is = absurd (cc is)

module _ (limit most : ℕ) (names : HeardNames) where
  -- the waves of the part fit, if the file has the outline
  fits : (file : List ℕ) (loaded : Loaded) (declared : Contents)
      (part : PartMeans limit (hears names) all_ticks file loaded) → outline part.whole ≡ declared
      → with_waves (hears names) declared.signals (contents loaded.capture).signals
      ≡ Some (with_taken (hears names) (outline part.whole).signals
      (part_of (hears names) all_ticks part.whole).signals)
  fits file loaded declared part same =
      (λ i. with_waves (hears names) (sym same i).signals (part.is i).signals)
      ∙ waves_of_part (hears names) all_ticks.first (min all_ticks.last part.whole.end - all_ticks.first)
      part.whole.signals

  pub has_hollow : (coming : Option (List ℕ)) (loaded : Loaded) (declared read : Contents) (heard : List Bool)
      → HearsAll (hears names) heard declared.signals
      → with_part_waves (hears names) declared (contents loaded.capture) ≡ Some read
      → IfSome coming (λ file. (length file ≤ most) × PartMeans limit (hears names) all_ticks file loaded)
      → IfSome coming (λ file. (length file ≤ most) × HasHollow limit file declared heard read)
  has_hollow None loaded declared read heard hears_all is means = tt
  has_hollow (Some file) loaded declared read heard hears_all is (short, part) = (
    short,
    record {
      whole = part.whole;
      skipped = loaded.skipped;
      means = part.means;
      is = λ same.
          let p = signals_read declared read
          (with_waves (hears names) declared.signals (contents loaded.capture).signals) is in
          let same_signals : read.signals
          ≡ with_taken (hears names) (outline part.whole).signals
          (part_of (hears names) all_ticks part.whole).signals =
          same_Some read.signals _ (sym p.0 ∙ fits file loaded declared part same) in
          is_hollow (hears names) part.whole heard read (file_is_sound _ _ _ _ part.means)
          (subst (λ (c : Contents). HearsAll (hears names) heard c.signals) (sym same) hears_all)
          (p.1 ∙ λ i. record (sym same i) { signals = same_signals i });
    },
  )

  -- a file whose waves do not fit has another outline
  pub has_other_signals : (coming : Option (List ℕ)) (loaded : Loaded) (declared : Contents)
      → with_part_waves (hears names) declared (contents loaded.capture) ≡ None
      → IfSome coming (λ file. (length file ≤ most) × PartMeans limit (hears names) all_ticks file loaded)
      → IfSome coming (λ file. HasOtherOutline limit file declared)
  has_other_signals None loaded declared none means = tt
  has_other_signals (Some file) loaded declared none (short, part) = record {
    whole = part.whole;
    skipped = loaded.skipped;
    means = part.means;
    other = λ same. not_some _ (sym none
        ∙ ap (option_map (λ (ss : List SignalContents). record declared { signals = ss }))
        (fits file loaded declared part same));
  }

  -- a file with another end has another outline
  pub has_other_end : (coming : Option (List ℕ)) (loaded : Loaded) (declared : Contents)
      → (contents loaded.capture).end ≢ declared.end
      → IfSome coming (λ file. (length file ≤ most) × PartMeans limit (hears names) all_ticks file loaded)
      → IfSome coming (λ file. HasOtherOutline limit file declared)
  has_other_end None loaded declared differs means = tt
  has_other_end (Some file) loaded declared differs (short, part) =
      let sound : IsSoundBut part.whole = file_is_sound _ _ _ _ part.means in
      let end : min END_LIMIT part.whole.end - 0 ≡ part.whole.end = omega (arith, sound.end) in
      record {
        whole = part.whole;
        skipped = loaded.skipped;
        means = part.means;
        other = λ same. differs (ap (λ (c : Contents). c.end) part.is ∙ end ∙ ap (λ (c : Contents). c.end) same);
      }
