-- Cuts, one after another and as one.
use Rattle.std.proofs.Common.{◌≡◌, ◌≤◌, ◌<◌, ℕ, ◌+◌, ◌-◌, Bool, true, false, if◌then◌else◌, nat_lt, List, [], ◌∷◌}
use Rattle.std.proofs.Common.{length, map, get_or, refl, sym, ap, ◌∙◌, arith}
use Rattle.std.specs.List.{AllByRecursion}
use Rattle.std.proofs.Math.ListN.{get_or-map}
use Rattle.std.proofs.lemmas.Bool.Decides.{nat_tests}
use Rattle.std.proofs.lemmas.List.{length-map}
use Rattle.std.proofs.lemmas.List.Elements.{recursion_from_All}
use Rattle.vcd_core.specs.declared.bit.Bit.{Bit}
use Rattle.vcd_core.specs.declared.wave.Change.{Change}
use Rattle.vcd_core.specs.Wave.{changes_of}
use Rattle.vcd_core.specs.Contents.{Contents, SignalContents, no_signal, signal_at, signal_value}
use Rattle.vcd_core.specs.Outline.{without_changes}
use Rattle.vcd_core.specs.Sound.{IsSoundSignal}
use Rattle.vcd_core.proofs.shared.Waves.{value_at-changes_of, wave_is}
use Rattle.vcd_edit.specs.declared.edit.Edit.{Edit}
use Rattle.vcd_edit.specs.declared.edit.Edit.TheVariants.{Cut}
use Rattle.vcd_edit.specs.Effect.{with_values, cut_value, signal_after_cut, cut_contents, effect}
use Rattle.vcd_hollow.proofs.shared.EditsWithOthers.{cut_of_none}
use Rattle.vcd_edit.proofs.shared.SoundEffects.{sound_with_values, value_at_width}
use Rattle.vcd_journal.specs.History.{replay}
use Rattle.vcd_core.specs.SignalOrigins.{HaveSamePlace}
use Rattle.vcd_hollow.specs.Cuts.{cuts, tick_before_cuts, CutsFit, CutsKeepOrder, CutsAreOne}

-- the end after the cuts among edits
unfoldable pub end_after_cuts : (end : ℕ) → List Edit → ℕ
end_after_cuts end [] = end
end_after_cuts end (Cut from to ∷ es) = end_after_cuts end es - (to - from)
end_after_cuts end (e ∷ es) = end_after_cuts end es

-- a signal of a capture with this end after the cuts among edits
unfoldable pub signal_after_cuts : (end : ℕ) → List Edit → SignalContents → SignalContents
signal_after_cuts end [] s = s
signal_after_cuts end (Cut from to ∷ es) s =
    signal_after_cut (end_after_cuts end es - (to - from)) from to (signal_after_cuts end es s)
signal_after_cuts end (e ∷ es) s = signal_after_cuts end es s

-- ---- order

cut_rises : (from to t u : ℕ) → t < u
    → (if nat_lt t from then t else t + (to - from)) < (if nat_lt u from then u else u + (to - from))
cut_rises from to t u less = grind (arith, nat_tests)

pub cuts_keep_order : CutsKeepOrder
unfolding tick_before_cuts
cuts_keep_order [] t u less = less
cuts_keep_order (Cut from to ∷ es) t u less = cuts_keep_order es _ _ (cut_rises from to t u less)
cuts_keep_order (e ∷ es) t u less = cuts_keep_order es t u less

-- ---- what is left

pub end_is : (c : Contents) (es : List Edit) → (replay c es).end ≡ end_after_cuts c.end es
unfolding replay end_after_cuts effect
end_is c [] = refl
end_is c (Cut from to ∷ es) = ap (λ end. end - (to - from)) (end_is c es)
end_is c (e ∷ es) = end_is c es

-- all but the changes stays
rest_same : (end : ℕ) (es : List Edit) (s : SignalContents)
    → signal_after_cuts end es s ≡ record s { changes = (signal_after_cuts end es s).changes }
unfolding signal_after_cuts
rest_same end [] s = refl
rest_same end (Cut from to ∷ es) s =
    ap (λ (r : SignalContents). record r { changes = (signal_after_cuts end (Cut from to ∷ es) s).changes })
    (rest_same end es s)
rest_same end (e ∷ es) s = rest_same end es s

pub width_is : (end : ℕ) (es : List Edit) (s : SignalContents) → (signal_after_cuts end es s).width ≡ s.width
width_is end es s = ap (λ (r : SignalContents). r.width) (rest_same end es s)

-- a wave without changes stays so
pub cuts_of_none : (end : ℕ) (es : List Edit) (s : SignalContents)
    → signal_after_cuts end es (without_changes s) ≡ without_changes s
unfolding signal_after_cuts
cuts_of_none end [] s = refl
cuts_of_none end (Cut from to ∷ es) s =
    ap (signal_after_cut (end_after_cuts end es - (to - from)) from to) (cuts_of_none end es s)
    ∙ cut_of_none (end_after_cuts end es - (to - from)) from to s
cuts_of_none end (e ∷ es) s = cuts_of_none end es s

-- ---- the capture after the cuts alone

none_cut : (end : ℕ) (ss : List SignalContents) → map (signal_after_cuts end []) ss ≡ ss
unfolding signal_after_cuts
none_cut end [] = refl
none_cut end (s ∷ ss) = ap (λ (rest : List SignalContents). s ∷ rest) (none_cut end ss)

cut_each : (end from to : ℕ) (es : List Edit) (ss : List SignalContents)
    → map (signal_after_cut (end_after_cuts end es - (to - from)) from to) (map (signal_after_cuts end es) ss)
    ≡ map (signal_after_cuts end (Cut from to ∷ es)) ss
unfolding signal_after_cuts
cut_each end from to es [] = refl
cut_each end from to es (s ∷ ss) =
    ap (λ (rest : List SignalContents). signal_after_cuts end (Cut from to ∷ es) s ∷ rest) (cut_each end from to es ss)

after_cuts_is : (c : Contents) (es : List Edit)
    → replay c (cuts es)
    ≡ record c { end = end_after_cuts c.end es; signals = map (signal_after_cuts c.end es) c.signals }
unfolding replay cuts effect end_after_cuts signal_after_cuts
after_cuts_is c [] = ap (λ (ss : List SignalContents). record c { signals = ss }) (sym (none_cut c.end c.signals))
after_cuts_is c (Cut from to ∷ es) =
    ap (cut_contents from to) (after_cuts_is c es)
    ∙ ap (λ (ss : List SignalContents). record c { end = end_after_cuts c.end es - (to - from); signals = ss })
    (cut_each c.end from to es c.signals)
after_cuts_is c (e ∷ es) = after_cuts_is c es

pub signal_after_cuts_is : (c : Contents) (es : List Edit) (k : ℕ)
    → signal_at (replay c (cuts es)) k ≡ signal_after_cuts c.end es (signal_at c k)
signal_after_cuts_is c es k =
    ap (λ (d : Contents). signal_at d k) (after_cuts_is c es)
    ∙ ap (λ (none : SignalContents). get_or (map (signal_after_cuts c.end es) c.signals) k none)
    (sym (cuts_of_none c.end es no_signal))
    ∙ get_or-map (signal_after_cuts c.end es) c.signals k no_signal

pub same_place_after_cuts : (c : Contents) (es : List Edit) (k : ℕ)
    → HaveSamePlace (signal_at c k) (signal_at (replay c (cuts es)) k)
same_place_after_cuts c es k =
    let is = sym (signal_after_cuts_is c es k ∙ rest_same c.end es (signal_at c k)) in (
      ap (λ (s : SignalContents). s.scopes) is,
      ap (λ (s : SignalContents). s.kind) is,
      ap (λ (s : SignalContents). s.width) is,
    )

pub count_after_cuts : (c : Contents) (es : List Edit) → length (replay c (cuts es)).signals ≡ length c.signals
count_after_cuts c es =
    ap (λ (d : Contents). length d.signals) (after_cuts_is c es)
    ∙ length-map c.signals (signal_after_cuts c.end es)

-- ---- values

either_width : (b : Bool) (v w : List Bit) (width : ℕ) → length v ≡ width → length w ≡ width
    → length (if b then v else w) ≡ width
either_width true v w width left right = left
either_width false v w width left right = right

either_value : (f : ℕ → List Bit) (b : Bool) (t u : ℕ) → (if b then f t else f u) ≡ f (if b then t else u)
either_value f true t u = refl
either_value f false t u = refl

cut_within : (from to end t : ℕ) → from < to → to ≤ end → t ≤ end - (to - from)
    → (if nat_lt t from then t else t + (to - from)) ≤ end
cut_within from to end t some within upto = grind (arith, nat_tests)

cuts_are_sound : (end : ℕ) (es : List Edit) (s : SignalContents) → IsSoundSignal end s
    → IsSoundSignal (end_after_cuts end es) (signal_after_cuts end es s)
unfolding end_after_cuts signal_after_cuts
cuts_are_sound end [] s sound = sound
cuts_are_sound end (Cut from to ∷ es) s sound =
    let r : SignalContents = signal_after_cuts end es s in
    let is = cuts_are_sound end es s sound in
    sound_with_values (end_after_cuts end es) (end_after_cuts end es - (to - from)) (cut_value from to r) r is
    (λ t. either_width (nat_lt t from) _ _ r.width (value_at_width r.width r.changes t is.wave)
    (value_at_width r.width r.changes (t + (to - from)) is.wave))
cuts_are_sound end (e ∷ es) s sound = cuts_are_sound end es s sound

module _ (c : Contents) where
  value_before : (es : List Edit) (s : SignalContents) (t : ℕ) → CutsFit c es → t ≤ end_after_cuts c.end es
      → signal_value (signal_after_cuts c.end es s) t ≡ signal_value s (tick_before_cuts es t)
  unfolding end_after_cuts signal_after_cuts tick_before_cuts CutsFit
  value_before [] s t fit upto = refl
  value_before (Cut from to ∷ es) s t fit upto =
      let r : SignalContents = signal_after_cuts c.end es s in
      let within : to ≤ end_after_cuts c.end es = omega (arith, fit.1, end_is c es) in
      value_at-changes_of r.width (end_after_cuts c.end es - (to - from)) t (cut_value from to r) upto
      ∙ either_value (signal_value r) (nat_lt t from) t (t + (to - from))
      ∙ value_before es s (if nat_lt t from then t else t + (to - from)) fit.2
      (cut_within from to (end_after_cuts c.end es) t fit.0 within upto)
  value_before (e ∷ es) s t fit upto = value_before es s t fit upto

  -- one wave after all cuts
  one_is : (es : List Edit) (s : SignalContents) → IsSoundSignal c.end s → CutsFit c es
      → signal_after_cuts c.end es s
      ≡ with_values (end_after_cuts c.end es) (λ t. signal_value s (tick_before_cuts es t)) s
  one_is es s sound fit =
      let r : SignalContents = signal_after_cuts c.end es s in
      let is = cuts_are_sound c.end es s sound in
      let f : ℕ → List Bit = λ t. signal_value s (tick_before_cuts es t) in
      rest_same c.end es s
      ∙ ap (λ (changes : List Change). record s { changes = changes })
      (wave_is r.width (end_after_cuts c.end es) r.changes f is.wave is.ticks (λ t upto. value_before es s t fit upto)
      ∙ ap (λ width. changes_of width (end_after_cuts c.end es) f) (width_is c.end es s))

  all_are : (es : List Edit) (ss : List SignalContents) → AllByRecursion (IsSoundSignal c.end) ss → CutsFit c es
      → map (signal_after_cuts c.end es) ss
      ≡ map (λ s. with_values (end_after_cuts c.end es) (λ t. signal_value s (tick_before_cuts es t)) s) ss
  all_are es [] sound fit = refl
  all_are es (s ∷ ss) sound fit = λ i. one_is es s sound.0 fit i ∷ all_are es ss sound.1 fit i

pub cuts_are_one : CutsAreOne
cuts_are_one c es sound fit =
    after_cuts_is c es
    ∙ ap (λ (ss : List SignalContents). record c { end = end_after_cuts c.end es; signals = ss })
    (all_are c es c.signals (recursion_from_All (IsSoundSignal c.end) c.signals sound.signals) fit)
    ∙ ap (λ end. record c {
      end = end;
      signals = map (λ s. with_values end (λ t. signal_value s (tick_before_cuts es t)) s) c.signals;
    }) (sym (end_is c es))
