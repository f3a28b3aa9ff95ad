-- The waves of a part, put into declared signals.
use Rattle.std.proofs.Common.{◌≡◌, ◌==◌, ℕ, Bool, true, false, if◌then◌else◌, List, [], ◌∷◌, length, map, drop}
use Rattle.std.proofs.Common.{refl, sym, ap, ap₂, subst, ◌∙◌, eq-eqb}
use Rattle.std.specs.Prelude.{filter, Option, Some, None, IfSome, option_map, slice_index_or}
use Rattle.std.specs.List.{AllByRecursion}
use Rattle.std.proofs.lemmas.Bool.{eqb-true}
use Rattle.std.proofs.lemmas.List.{length-map}
use Rattle.std.proofs.lemmas.List.Elements.{recursion_from_All, All-from_recursion}
use Rattle.std.proofs.lemmas.Option.{same_Some}
use Rattle.vcd_core.specs.declared.wave.Change.{Change}
use Rattle.vcd_core.specs.Wave.{IsWave}
use Rattle.vcd_core.specs.Contents.{Contents, SignalContents}
use Rattle.vcd_core.specs.Outline.{without_changes, outline}
use Rattle.vcd_core.specs.Sound.{IsSound, IsSoundSignal}
use Rattle.vcd_text.specs.Parts.{part_of_signal}
use Rattle.vcd_hollow.specs.HollowPart.{with_taken}
use Rattle.vcd_amend_run.specs.inside.WithWaves.{with_next_wave, and_others, with_waves, with_part_waves}

-- ---- the part of a capture of this outline

own_wave : (s : SignalContents) (cs : List Change) (taken : List SignalContents)
    → with_next_wave true (without_changes s) (record s { changes = cs } ∷ taken) ≡ Some (record s { changes = cs })
own_wave s cs taken = ap (λ (b : Bool). if b then Some (record s { changes = cs }) else None)
    (eq-eqb s.width s.width refl)

module _ (takes : SignalContents → Bool) (first end : ℕ) where
  -- with the others, if it is taken or if not
  one_more : (b : Bool) (s : SignalContents) (taken : List SignalContents)
      (others : List SignalContents → Option (List SignalContents)) (all : List SignalContents → List SignalContents)
      → others (map (part_of_signal first end) taken) ≡ Some (all (map (part_of_signal first end) taken))
      → and_others (with_next_wave b (without_changes s)
      (map (part_of_signal first end) (if b then s ∷ taken else taken)))
      (others (drop (if b then 1 else 0) (map (part_of_signal first end) (if b then s ∷ taken else taken))))
      ≡ Some (if b then slice_index_or (map (part_of_signal first end) (if b then s ∷ taken else taken)) 0
      (without_changes s) ∷ all (drop 1 (map (part_of_signal first end) (if b then s ∷ taken else taken)))
      else without_changes s ∷ all (map (part_of_signal first end) (if b then s ∷ taken else taken)))
  one_more true s taken others all same =
      ap₂ and_others (own_wave s (part_of_signal first end s).changes (map (part_of_signal first end) taken)) same
  one_more false s taken others all same =
      ap (option_map (λ (ss : List SignalContents). without_changes s ∷ ss)) same

  pub waves_of_part : (ss : List SignalContents)
      → with_waves takes (map without_changes ss)
      (map (part_of_signal first end) (filter (λ s. takes (without_changes s)) ss))
      ≡ Some (with_taken takes (map without_changes ss)
      (map (part_of_signal first end) (filter (λ s. takes (without_changes s)) ss)))
  waves_of_part [] = refl
  waves_of_part (s ∷ ss) = one_more (takes (without_changes s)) s (filter (λ s. takes (without_changes s)) ss)
      (with_waves takes (map without_changes ss)) (with_taken takes (map without_changes ss)) (waves_of_part ss)

-- ---- what holds of the signals

-- of a signal and of others
both_then : (P : SignalContents → Type 0) (Q R : List SignalContents → Type 0) (next : Option SignalContents)
    (others : Option (List SignalContents)) → IfSome next P → IfSome others Q
    → ((s : SignalContents) (ss : List SignalContents) → P s → Q ss → R (s ∷ ss)) → IfSome (and_others next others) R
both_then P Q R None others here rest joined = tt
both_then P Q R (Some s) None here rest joined = tt
both_then P Q R (Some s) (Some ss) here rest joined = joined s ss here rest

-- of a signal with another wave, or of none
if_fits : (P : SignalContents → Type 0) (b : Bool) (s : SignalContents) → (b ≡ true → P s)
    → IfSome (if b then Some s else None) P
if_fits P true s fits = fits refl
if_fits P false s fits = tt

-- ---- the outline

next_is_declared : (b : Bool) (s : SignalContents) (taken : List SignalContents)
    → IfSome (with_next_wave b s taken) (λ read. without_changes read ≡ without_changes s)
next_is_declared false s taken = refl
next_is_declared true s [] = tt
next_is_declared true s (t ∷ taken) =
    if_fits (λ read. without_changes read ≡ without_changes s) (t.width == s.width)
    (record s { changes = t.changes }) (λ _. refl)

are_declared : (takes : SignalContents → Bool) (declared taken : List SignalContents)
    → IfSome (with_waves takes declared taken) (λ read. map without_changes read ≡ map without_changes declared)
are_declared takes [] [] = refl
are_declared takes [] (t ∷ taken) = tt
are_declared takes (s ∷ ss) taken =
    let left : List SignalContents = drop (if takes s then 1 else 0) taken in
    both_then (λ read. without_changes read ≡ without_changes s)
    (λ read. map without_changes read ≡ map without_changes ss)
    (λ read. map without_changes read ≡ map without_changes (s ∷ ss))
    (with_next_wave (takes s) s taken) (with_waves takes ss left) (next_is_declared (takes s) s taken)
    (are_declared takes ss left) (λ r rs is are. ap₂ (λ (x : SignalContents) (xs : List SignalContents). x ∷ xs) is are)

-- what is read, and its signals
pub signals_read : (declared read : Contents) (signals : Option (List SignalContents))
    → option_map (λ ss. record declared { signals = ss }) signals ≡ Some read
    → (signals ≡ Some read.signals) × (read ≡ record declared { signals = read.signals })
signals_read declared read None is = absurd (cc is)
signals_read declared read (Some ss) is =
    let same : record declared { signals = ss } ≡ read = same_Some _ read is in
    (λ i. Some (same i).signals, sym same ∙ λ i. record declared { signals = (same i).signals })

pub outline_stays : (takes : SignalContents → Bool) (declared part read : Contents)
    → with_part_waves takes declared part ≡ Some read → outline read ≡ outline declared
outline_stays takes declared part read is =
    let p = signals_read declared read (with_waves takes declared.signals part.signals) is in
    ap outline p.1 ∙ ap (λ (ss : List SignalContents). record declared { signals = ss })
    (subst (λ (ss : Option (List SignalContents)). IfSome ss (λ read. map without_changes read
    ≡ map without_changes declared.signals)) p.0 (are_declared takes declared.signals part.signals))

-- ---- soundness

module _ (end : ℕ) where
  next_is_sound : (b : Bool) (s : SignalContents) (taken : List SignalContents) → IsSoundSignal end s
      → AllByRecursion (IsSoundSignal end) taken → IfSome (with_next_wave b s taken) (IsSoundSignal end)
  next_is_sound false s taken sound all = sound
  next_is_sound true s [] sound all = tt
  next_is_sound true s (t ∷ taken) sound (first, rest) =
      if_fits (IsSoundSignal end) (t.width == s.width) (record s { changes = t.changes }) (λ same. record {
        scopes = sound.scopes;
        kind = sound.kind;
        kept = sound.kept;
        named = sound.named;
        words = sound.words;
        least = sound.least;
        most = sound.most;
        wave = subst (λ w. IsWave w t.changes) (eqb-true t.width s.width same) first.wave;
        ticks = first.ticks;
      })

  left_are_sound : (b : Bool) (taken : List SignalContents) → AllByRecursion (IsSoundSignal end) taken
      → AllByRecursion (IsSoundSignal end) (drop (if b then 1 else 0) taken)
  left_are_sound true [] all = tt
  left_are_sound true (t ∷ taken) (first, rest) = rest
  left_are_sound false taken all = all

  are_sound : (takes : SignalContents → Bool) (declared taken : List SignalContents)
      → AllByRecursion (IsSoundSignal end) declared → AllByRecursion (IsSoundSignal end) taken
      → IfSome (with_waves takes declared taken) (AllByRecursion (IsSoundSignal end))
  are_sound takes [] [] sound all = tt
  are_sound takes [] (t ∷ taken) sound all = tt
  are_sound takes (s ∷ ss) taken (here, rest) all =
      let left : List SignalContents = drop (if takes s then 1 else 0) taken in
      both_then (IsSoundSignal end) (AllByRecursion (IsSoundSignal end)) (AllByRecursion (IsSoundSignal end))
      (with_next_wave (takes s) s taken) (with_waves takes ss left) (next_is_sound (takes s) s taken here all)
      (are_sound takes ss left rest (left_are_sound (takes s) taken all)) (λ r rs sound others. (sound, others))

pub hollow_is_sound : (takes : SignalContents → Bool) (declared part read : Contents)
    → with_part_waves takes declared part ≡ Some read → part.end ≡ declared.end
    → IsSound part → IsSound declared → IsSound read
hollow_is_sound takes declared part read is end sound_part sound =
    let p = signals_read declared read (with_waves takes declared.signals part.signals) is in
    let taken : AllByRecursion (IsSoundSignal declared.end) part.signals =
    subst (λ n. AllByRecursion (IsSoundSignal n) part.signals) end
    (recursion_from_All (IsSoundSignal part.end) part.signals sound_part.signals) in
    let many : length read.signals ≡ length declared.signals =
    sym (length-map read.signals without_changes)
    ∙ ap (λ (c : Contents). length c.signals) (outline_stays takes declared part read is)
    ∙ length-map declared.signals without_changes in
    subst IsSound (sym p.1) (record {
      header = sound.header;
      timescale = sound.timescale;
      end = sound.end;
      few = rw many (sound.few);
      signals = All-from_recursion (IsSoundSignal declared.end) read.signals
          (subst (λ (ss : Option (List SignalContents)). IfSome ss (AllByRecursion (IsSoundSignal declared.end))) p.0
          (are_sound declared.end takes declared.signals part.signals
          (recursion_from_All (IsSoundSignal declared.end) declared.signals sound.signals) taken));
    })
