-- The whole of a capture as a part of it, parts of parts, and the soundness of parts.
use Rattle.std.proofs.Common.{◌≡◌, ℕ, ◌+◌, ◌-◌, ◌≤◌, Bool, cond, ◌&&◌, min, List, [], ◌∷◌, map, All, refl, sym, ap, ◌∙◌}
use Rattle.std.proofs.Common.{arith, true, if◌then◌else◌, length, Option, Some, None, IfSome, nat_le, subst}
use Rattle.std.specs.Prelude.{filter}
use Rattle.std.proofs.lemmas.Bool.{cases_lt}
use Rattle.std.proofs.lemmas.List.Elements.{All-head, All-tail, All-map, All-filter}
use Rattle.std.proofs.lemmas.List.{length-map, length-replicate}
use Rattle.std.proofs.lemmas.List.Sums.{length-filter, count_by-le-length}
use Rattle.vcd_core.specs.Wave.{changes_of, value_from, AreChangesFrom}
use Rattle.vcd_core.specs.Contents.{SignalContents, signal_value, Contents}
use Rattle.vcd_core.specs.Sound.{IsSoundSignal, IsSound}
use Rattle.vcd_core.specs.Outline.{without_changes}
use Rattle.vcd_core.proofs.shared.Waves.{changes_same, value_at-changes_of, changes_end, wave_is, changes_rise}
use Rattle.vcd_core.specs.declared.bit.Bit.{Bit}
use Rattle.vcd_core.specs.declared.wave.Change.{Change}
use Rattle.vcd_core.specs.CaptureContents.{contents}
use Rattle.vcd_core.specs.declared.capture.TheConstants.{SIGNAL_LIMIT}
use Rattle.vcd_text.specs.Parts.{part_of_signal, part_of, PartMeans}
use Rattle.vcd_text.specs.PartLaws.{PartOfPartIsPart}
use Rattle.vcd_text.specs.declared.reading.choice.TickRange.{TickRange}
use Rattle.vcd_text.specs.Meaning.{FileMeans}
use Rattle.vcd_text.specs.inside.reading.Part.{all_ticks}
use Rattle.vcd_text.specs.declared.reading.Loaded.{Loaded}
use Rattle.vcd_text.specs.declared.reading.TheConstants.{FILE_LIMIT}
use Rattle.vcd_text.proofs.part.PartMeanings.{value_stays}
use Rattle.vcd_text.proofs.shared.SoundMeaning.{IsSoundBut, meaning_is_sound_but}
use Rattle.vcd_text.proofs.part.FewSignals.{few_after, same_limit}

-- ==== a part of a part is a part

-- a signal of a part, from a later tick on
module _ (a b : TickRange) (end : ℕ) (within : b.first ≤ a.last - a.first) where
  abbrev once : ℕ
  once = min a.last end - a.first

  abbrev twice : ℕ
  twice = min b.last once - b.first

  same_part : (s : SignalContents) (n : ℕ) → IsSoundSignal end s → n ≡ twice
      → part_of_signal b.first twice (part_of_signal a.first once s) ≡ part_of_signal (a.first + b.first) n s
  same_part s n sound is =
      let changes = changes_same s.width twice _ (λ t. signal_value s ((a.first + b.first) + t)) (λ t to.
      grind (arith, cases_lt once (b.first + t), value_stays, changes_end, value_at-changes_of)) ∙ ap (λ m. changes_of
      s.width m (λ t. signal_value s ((a.first + b.first) + t))) (sym is) in
      λ i. record s { changes = changes i }

  -- one signal before the others
  one_first : (also : SignalContents → Bool) (s : SignalContents) (n : ℕ) (xs ys : List SignalContents) (t u : Bool)
      → also (without_changes s) ≡ u
      → part_of_signal b.first twice (part_of_signal a.first once s) ≡ part_of_signal (a.first + b.first) n s
      → map (part_of_signal b.first twice) (filter (λ s. also (without_changes s))
      (map (part_of_signal a.first once) xs))
      ≡ map (part_of_signal (a.first + b.first) n) ys
      → map (part_of_signal b.first twice) (filter (λ s. also (without_changes s))
      (map (part_of_signal a.first once) (cond t (s ∷ xs) xs)))
      ≡ map (part_of_signal (a.first + b.first) n) (cond (t && u) (s ∷ ys) ys)
  one_first also s n xs ys t u is head tail = grind arith

  same_parts : (takes also : SignalContents → Bool) (ss : List SignalContents) (n : ℕ) → All (IsSoundSignal end) ss
      → n ≡ twice
      → map (part_of_signal b.first twice) (filter (λ s. also (without_changes s))
      (map (part_of_signal a.first once) (filter (λ s. takes (without_changes s)) ss)))
      ≡ map (part_of_signal (a.first + b.first) n)
      (filter (λ s. takes (without_changes s) && also (without_changes s)) ss)
  same_parts takes also [] n all is = refl
  same_parts takes also (s ∷ ss) n all is = one_first also s n _ _ _ _ refl (same_part s n (All-head
      (IsSoundSignal end) s ss all) is) (same_parts takes also ss n (All-tail (IsSoundSignal end) s ss all) is)

pub part_of_part : PartOfPartIsPart
part_of_part takes also a b c sound within = grind (arith, same_parts)

-- ==== the whole of a capture as a part of it, and the soundness of parts

-- ---- soundness

-- each value of a wave has its width
values_wide : (width floor t : ℕ) (before last : List Bit) (cs : List Change) → length before ≡ width
    → length last ≡ width → AreChangesFrom floor last cs → length (value_from before cs t) ≡ width
unfolding value_from
values_wide width floor t before last [] wide wide_last rise = wide
values_wide width floor t before last (c ∷ cs) wide wide_last (from, differs, long, rest) = values_wide width
    (c.tick + 1) t (if nat_le c.tick t then c.value else before) c.value cs (grind arith) (long ∙ wide_last) rest

sound_signal : (first end end_of_part : ℕ) (s : SignalContents) → IsSoundSignal end s
    → IsSoundSignal end_of_part (part_of_signal first end_of_part s)
sound_signal first end end_of_part s sound = search (arith, changes_rise, values_wide, length-replicate, changes_end)

-- a part of a sound capture is sound, if few signals remain
pub part_is_sound : (takes : SignalContents → Bool) (ticks : TickRange) (c : Contents) → IsSoundBut c
    → length (filter (λ s. takes (without_changes s)) c.signals) ≤ SIGNAL_LIMIT → IsSound (part_of takes ticks c)
part_is_sound takes ticks c sound few =
    let end = min ticks.last c.end - ticks.first in
    let taken : SignalContents → Bool = λ s. takes (without_changes s) in
    record {
      header = sound.header;
      timescale = sound.timescale;
      end = omega (arith, sound.end);
      few = omega (arith, few, length-map (filter taken c.signals) (part_of_signal ticks.first end));
      signals = All-map (IsSoundSignal end) _ (filter taken c.signals) (λ k d within. sound_signal ticks.first c.end end
          _ (All-filter taken (IsSoundSignal c.end) c.signals sound.signals k d within));
    }

-- the meaning of a file is sound
pub file_is_sound : (limit : ℕ) (file : List ℕ) (c : Contents) (skipped : ℕ) → FileMeans limit file c skipped →
    IsSoundBut c
file_is_sound limit file c skipped means = rw means.means (meaning_is_sound_but limit file means.state means.accepted)

-- it has no more signals than variables may be kept
few_are_meant : (limit : ℕ) (file : List ℕ) (c : Contents) (skipped : ℕ) → FileMeans limit file c skipped
    → length c.signals ≤ limit
few_are_meant limit file c skipped means = grind (arith, few_after, same_limit, length-map)

-- what is loaded is sound
pub loaded_is_sound : (takes : SignalContents → Bool) (ticks : TickRange) (file : List ℕ) (loaded : Loaded)
    → PartMeans SIGNAL_LIMIT takes ticks file loaded → IsSound (contents loaded.capture)
loaded_is_sound takes ticks file loaded part =
    let taken : SignalContents → Bool = λ s. takes (without_changes s) in
    rw part.is (part_is_sound takes ticks part.whole (file_is_sound _ _ _ _ part.means) (omega (
      arith,
      few_are_meant _ _ _ _ part.means,
      length-filter taken part.whole.signals,
      count_by-le-length taken part.whole.signals,
    )))

-- ---- the whole

same_signal : (first end : ℕ) (s : SignalContents) → first ≡ 0 → IsSoundSignal end s → part_of_signal first end s ≡ s
same_signal first end s none sound = grind (arith, wave_is)

same_signals : (first end : ℕ) (ss : List SignalContents) → first ≡ 0 → All (IsSoundSignal end) ss
    → map (part_of_signal first end) ss ≡ ss
same_signals first end [] none all = refl
same_signals first end (s ∷ ss) none all =
    let head = same_signal first end s none (All-head (IsSoundSignal end) s ss all) in
    let tail = same_signals first end ss none (All-tail (IsSoundSignal end) s ss all) in
    λ i. head i ∷ tail i

all_pass : {A : Type 0} (xs : List A) → filter (λ _. true) xs ≡ xs
all_pass [] = refl
all_pass (x ∷ xs) = ap (λ ys. x ∷ ys) (all_pass xs)

-- the part of all signals and all ticks is the capture
pub whole_is : (takes : SignalContents → Bool) (ticks : TickRange) (c : Contents) →
    ((s : SignalContents) → takes s ≡ true)
    → ticks.first ≡ 0 → c.end ≤ ticks.last → All (IsSoundSignal c.end) c.signals → part_of takes ticks c ≡ c
whole_is takes ticks c all first last sound =
    let end : min ticks.last c.end - ticks.first ≡ c.end = omega (arith, first, last) in
    let signals = ap (λ (p : SignalContents → Bool). map (part_of_signal ticks.first
    (min ticks.last c.end - ticks.first)) (filter p c.signals)) (λ i s. all (without_changes s) i) ∙ ap (map
    (part_of_signal ticks.first (min ticks.last c.end - ticks.first))) (all_pass c.signals) ∙ ap (λ n. map
    (part_of_signal ticks.first n) c.signals) end ∙ same_signals ticks.first c.end c.signals first sound in
    λ i. record c { end = end i; signals = signals i }

-- what is loaded of all signals at all ticks is what the file means
loaded_whole : (file : List ℕ) (loaded : Loaded) (means : PartMeans SIGNAL_LIMIT (λ _. true) all_ticks file loaded)
    → contents loaded.capture ≡ means.whole
loaded_whole file loaded means =
    let sound = file_is_sound _ _ _ _ means.means in means.is ∙ whole_is _ _ _ (λ s. refl) refl sound.end sound.signals

pub whole_means_of_read : (coming : Option (List ℕ)) (loaded : Loaded)
    → IfSome coming (λ file. (length file ≤ FILE_LIMIT) × PartMeans SIGNAL_LIMIT (λ _. true) all_ticks file loaded)
    → IfSome coming (λ file. (length file ≤ FILE_LIMIT)
    × FileMeans SIGNAL_LIMIT file (contents loaded.capture) loaded.skipped)
whole_means_of_read None loaded means = means
whole_means_of_read (Some file) loaded (short, means) = (
  short,
  subst (λ d. FileMeans SIGNAL_LIMIT file d loaded.skipped) (sym (loaded_whole _ _ means)) means.means,
)

pub whole_extent_of_read : (coming : Option (List ℕ)) (loaded : Loaded)
    → IfSome coming (λ file. (length file ≤ FILE_LIMIT) × PartMeans SIGNAL_LIMIT (λ _. true) all_ticks file loaded)
    → IfSome coming (λ file. (loaded.end ≡ (contents loaded.capture).end)
    × (loaded.signals ≡ length (contents loaded.capture).signals))
whole_extent_of_read None loaded means = tt
whole_extent_of_read (Some file) loaded (short, means) =
    let same = sym (loaded_whole file loaded means) in
    (means.end ∙ ap (λ (c : Contents). c.end) same, means.count ∙ ap (λ (c : Contents). length c.signals) same)
