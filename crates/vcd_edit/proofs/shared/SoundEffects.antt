-- An edit with no fault keeps a sound capture sound.
use Rattle.std.proofs.Common.{◌≡◌, ◌<◌, ◌≤◌, ℕ, zero, suc, ◌+◌, ◌-◌, ◌==◌, ◌&&◌, nat_le, nat_lt, Bool, true, false}
use Rattle.std.proofs.Common.{if◌then◌else◌, IsTrue, ℤ, pos, negsuc, ◌-ℤ◌, List, [], ◌∷◌, length, take, drop, get_or}
use Rattle.std.proofs.Common.{set, None, refl, ◌∙◌, arith}
use Rattle.std.specs.List.{list_all, push, remove}
use Rattle.std.proofs.lemmas.Bool.{and_from, and_parts}
use Rattle.std.proofs.lemmas.Bool.Decides.{nat_tests}
use Rattle.std.proofs.lemmas.List.{length-replicate, length-map, length-set, length_push}
use Rattle.std.proofs.lemmas.List.Edits.{length-remove}
use Rattle.std.proofs.lemmas.List.Elements.{All-append, All-take, All-drop, All-push, All-set, All-get_or, All-map}
use Rattle.vcd_core.specs.declared.bit.Bit.{Bit}
use Rattle.vcd_core.specs.declared.bit.Bit.TheVariants.{X}
use Rattle.vcd_core.specs.declared.wave.Change.{Change}
use Rattle.vcd_core.specs.declared.capture.TheConstants.{SIGNAL_LIMIT}
use Rattle.vcd_core.specs.Value.{all_x}
use Rattle.vcd_core.specs.Wave.{value_from, value_at, AreChangesFrom, IsWave}
use Rattle.vcd_core.specs.Word.{is_word}
use Rattle.vcd_core.specs.Contents.{Contents, SignalContents, no_signal, signal_at, with_signal, signal_value}
use Rattle.vcd_core.specs.Sound.{IsSound, IsSoundSignal}
use Rattle.vcd_core.proofs.shared.Waves.{changes_rise, changes_end}
use Rattle.vcd_edit.specs.declared.edit.Edit.{Edit}
use Rattle.vcd_edit.specs.declared.edit.Edit.TheVariants.{Rename, Remove, Invert, Shift, Cut, Deglitch, Force, Derive}
use Rattle.vcd_edit.specs.declared.edit.Rule.{Rule}
use Rattle.vcd_edit.specs.Operators.{not_bit}
use Rattle.vcd_edit.specs.Effect.{with_values, with_wave, renamed_signal, inverse_value, value_at_any_tick, shift_value}
use Rattle.vcd_edit.specs.Effect.{cut_value, force_value, is_steady, steady_value, formula, first_operand, formula_bit}
use Rattle.vcd_edit.specs.Effect.{derived_signal, cut_contents, effect}
use Rattle.vcd_edit.specs.EditFaults.{edit_fault, is_signal}
use Rattle.vcd_edit.proofs.checking.Faults.{no_fault, position_below, first_operand_there}

-- ---- the width of values

-- either value has the width
either_width : (b : Bool) (v w : List Bit) (width : ℕ) → length v ≡ width → length w ≡ width
    → length (if b then v else w) ≡ width
either_width true v w width left right = left
either_width false v w width left right = right

value_from_width : (width floor : ℕ) (before kept : List Bit) (cs : List Change) (t : ℕ) → length before ≡ width
    → length kept ≡ width → AreChangesFrom floor kept cs → length (value_from before cs t) ≡ width
unfolding value_from
value_from_width width floor before kept [] t long alike rise = long
value_from_width width floor before kept (c ∷ cs) t long alike (at, other, wide, rest) =
    value_from_width width (c.tick + 1) (if nat_le c.tick t then c.value else before) c.value cs t
    (either_width (nat_le c.tick t) c.value before width (wide ∙ alike) long) (wide ∙ alike) rest

-- each value of a wave has its width
pub value_at_width : (width : ℕ) (cs : List Change) (t : ℕ) → IsWave width cs → length (value_at width cs t) ≡ width
value_at_width width cs t wave =
    value_from_width width 0 (all_x width) (all_x width) cs t (length-replicate width X) (length-replicate width X)
    wave.rise

value_near_width : (end : ℕ) (s : SignalContents) (t : ℤ) → IsWave s.width s.changes
    → length (value_at_any_tick end s t) ≡ s.width
value_near_width end s (negsuc n) wave = length-replicate s.width X
value_near_width end s (pos u) wave =
    either_width (nat_lt end u) _ _ s.width (value_at_width s.width s.changes end wave)
    (value_at_width s.width s.changes u wave)

steady_value_width : (ticks end : ℕ) (f : ℕ → List Bit) (t width : ℕ) → ((u : ℕ) → length (f u) ≡ width)
    → length (steady_value ticks end f t) ≡ width
unfolding steady_value
steady_value_width ticks end f zero width wide = wide 0
steady_value_width ticks end f (suc t) width wide =
    either_width (is_steady ticks end f (suc t)) _ _ width (wide (suc t)) (steady_value_width ticks end f t width wide)

-- ---- signals

-- a sound signal with other values, up to another end
pub sound_with_values : (end stop : ℕ) (f : ℕ → List Bit) (s : SignalContents) → IsSoundSignal end s
    → ((t : ℕ) → length (f t) ≡ s.width) → IsSoundSignal stop (with_values stop f s)
sound_with_values end stop f s sound wide = assumption (changes_rise s.width stop f wide, changes_end s.width stop f)

others_are_words : (words : List (List ℕ)) → IsTrue (list_all is_word words) → IsTrue (list_all is_word (drop 1 words))
others_are_words [] all = refl
others_are_words (word ∷ words) all = (and_parts (is_word word) (list_all is_word words) all).1

-- a sound signal with another first word in its name
pub sound_renamed : (end : ℕ) (word : List ℕ) (s : SignalContents) → IsTrue (is_word word) → IsSoundSignal end s
    → IsSoundSignal end (renamed_signal word s)
sound_renamed end word s is sound =
    let named : 0 < length (word ∷ drop 1 s.words) = omega arith in
    let words = and_from (is_word word) (list_all is_word (drop 1 s.words)) is (others_are_words s.words sound.words) in
    assumption (named, words)

-- a derived signal, if its first operand is sound
pub sound_derived : (c : Contents) (word : List ℕ) (rule : Rule) → IsTrue (is_word word)
    → IsSoundSignal c.end (signal_at c (first_operand (formula rule)))
    → IsSoundSignal c.end (derived_signal word rule c)
sound_derived c word rule is sound = record {
  scopes = sound.scopes;
  kind = refl;
  kept = refl;
  named = omega arith;
  words = and_from (is_word word) true is refl;
  least = omega arith;
  most = omega arith;
  wave = changes_rise 1 c.end (λ t. formula_bit (formula rule) c t ∷ []) (λ t. refl);
  ticks = changes_end 1 c.end (λ t. formula_bit (formula rule) c t ∷ []);
}

-- ---- captures

-- the signal at a position
pub sound_at : (c : Contents) (k : ℕ) → k < length c.signals → IsSound c → IsSoundSignal c.end (signal_at c k)
sound_at c k within sound = All-get_or (IsSoundSignal c.end) c.signals k no_signal within sound.signals

-- another sound signal in the place of one
pub sound_with_signal : (c : Contents) (k : ℕ) (s : SignalContents) → IsSound c → IsSoundSignal c.end s
    → IsSound (with_signal c k s)
sound_with_signal c k s sound alike =
    let few : length (set c.signals k s) ≤ SIGNAL_LIMIT = omega (arith, length-set c.signals k s, sound.few) in
    assumption (few, All-set (IsSoundSignal c.end) c.signals k s alike sound.signals)

pub sound_with_wave : (c : Contents) (k : ℕ) (f : ℕ → List Bit) → IsTrue (is_signal c k) → IsSound c
    → (IsWave (signal_at c k).width (signal_at c k).changes → (t : ℕ) → length (f t) ≡ (signal_at c k).width)
    → IsSound (with_wave c k f)
sound_with_wave c k f is sound wide =
    let here = sound_at c k (position_below c k is) sound in
    sound_with_signal c k (with_values c.end f (signal_at c k)) sound
    (sound_with_values c.end c.end f (signal_at c k) here (wide here.wave))

pub sound_removed : (c : Contents) (k : ℕ) → k < length c.signals → IsSound c
    → IsSound (record c { signals = remove c.signals k })
sound_removed c k within sound =
    let P = IsSoundSignal c.end in
    let few : length (remove c.signals k) ≤ SIGNAL_LIMIT =
    omega (arith, length-remove c.signals k within, sound.few) in
    let all = All-append P (take k c.signals) (drop (suc k) c.signals) (All-take P k c.signals sound.signals)
    (All-drop P (suc k) c.signals sound.signals) in
    assumption (few, all)

pub sound_pushed : (c : Contents) (s : SignalContents) → length c.signals < SIGNAL_LIMIT → IsSound c
    → IsSoundSignal c.end s → IsSound (record c { signals = push c.signals s })
sound_pushed c s few sound alike =
    let count : length (push c.signals s) ≤ SIGNAL_LIMIT = omega (arith, length_push c.signals s, few) in
    assumption (count, All-push (IsSoundSignal c.end) c.signals s sound.signals alike)

pub sound_cut : (c : Contents) (from to : ℕ) → IsSound c → IsSound (cut_contents from to c)
sound_cut c from to sound = record {
  header = sound.header;
  timescale = sound.timescale;
  end = omega (arith, sound.end);
  few = rw (length-map c.signals (λ s. with_values (c.end - (to - from)) (cut_value from to s) s)) (sound.few);
  signals = All-map (IsSoundSignal (c.end - (to - from)))
      (λ s. with_values (c.end - (to - from)) (cut_value from to s) s) c.signals
      (λ k d within.
      let s = get_or c.signals k d in
      let is = sound.signals k d within in
      sound_with_values c.end (c.end - (to - from)) (cut_value from to s) s is
      (λ t. either_width (nat_lt t from) _ _ s.width (value_at_width s.width s.changes t is.wave)
      (value_at_width s.width s.changes (t + (to - from)) is.wave)));
}

-- a value that has its signal's width
same_width : (value : List Bit) (s : SignalContents) → IsTrue (length value == s.width) → length value ≡ s.width
same_width value s alike = grind (arith, nat_tests)

-- room for one more signal
room_for : (c : Contents) → IsTrue (nat_lt (length c.signals) SIGNAL_LIMIT) → length c.signals < SIGNAL_LIMIT
room_for c few = grind (arith, nat_tests)

-- the effect of each edit
pub effect_is_sound : (e : Edit) (c : Contents) → IsSound c → edit_fault e c ≡ None → IsSound (effect e c)
unfolding effect
effect_is_sound (Rename k word) c sound none =
    let free = no_fault (Rename k word) c none in
    sound_with_signal c k (renamed_signal word.now (signal_at c k)) sound
    (sound_renamed c.end word.now (signal_at c k) free.1.0
    (sound_at c k (position_below c k free.0) sound))
effect_is_sound (Remove k) c sound none = sound_removed c k (position_below c k (no_fault (Remove k) c none).0) sound
effect_is_sound (Invert k) c sound none =
    let s : SignalContents = signal_at c k in
    sound_with_wave c k (inverse_value s) (no_fault (Invert k) c none).0 sound
    (λ wave t. length-map (signal_value s t) not_bit ∙ value_at_width s.width s.changes t wave)
effect_is_sound (Shift k by) c sound none =
    let s : SignalContents = signal_at c k in
    sound_with_wave c k (shift_value c.end by s) (no_fault (Shift k by) c none).0 sound
    (λ wave t. value_near_width c.end s (pos t -ℤ by) wave)
effect_is_sound (Cut from to) c sound none = sound_cut c from to sound
effect_is_sound (Deglitch k ticks) c sound none =
    let s : SignalContents = signal_at c k in
    sound_with_wave c k (steady_value ticks c.end (signal_value s)) (no_fault (Deglitch k ticks) c none).0 sound
    (λ wave t. steady_value_width ticks c.end (signal_value s) t s.width
    (λ u. value_at_width s.width s.changes u wave))
effect_is_sound (Force k from to value) c sound none =
    let free = no_fault (Force k from to value) c none in
    let s : SignalContents = signal_at c k in
    sound_with_wave c k (force_value from to value s) free.0 sound
    (λ wave t. either_width (nat_le from t && nat_lt t to) _ _ s.width (same_width value s free.1.1.0)
    (value_at_width s.width s.changes t wave))
effect_is_sound (Derive word rule) c sound none =
    let free = no_fault (Derive word rule) c none in
    sound_pushed c (derived_signal word.now rule c) (room_for c free.1.1.1.1.0) sound
    (sound_derived c word.now rule free.1.1.0
    (sound_at c (first_operand (formula rule)) (first_operand_there c (formula rule) free.0) sound))
