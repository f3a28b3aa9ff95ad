-- The laws of what the edits are for.
use Rattle.std.proofs.Common.{◌≡◌, ◌<◌, ◌≤◌, ℕ, ◌+◌, ◌-◌, ◌&&◌, nat_le, nat_lt, Bool, true, false, if◌then◌else◌}
use Rattle.std.proofs.Common.{IsTrue, not, ℤ, pos, negsuc, ◌-ℤ◌, List, [], ◌∷◌, length, map, drop, inl, inr, refl, sym}
use Rattle.std.proofs.Common.{ap, suc, ◌∙◌, arith}
use Rattle.std.specs.Prelude.{neg_ℤ}
use Rattle.std.specs.List.{All, list_all}
use Rattle.std.proofs.lemmas.Bool.{le-ltb, lt-ltb, and_parts}
use Rattle.std.proofs.lemmas.Bool.Decides.{nat_tests}
use Rattle.std.proofs.lemmas.Int.{ints}
use Rattle.std.proofs.lemmas.List.{length-set, set-set, set-get_or, get_or-set_same, get_or-map, get_or_push}
use Rattle.std.proofs.lemmas.List.Elements.{All-nil, All-cons}
use Rattle.std.proofs.lemmas.List.Edits.{get_or-remove_below, get_or-remove_above}
use Rattle.vcd_core.specs.declared.bit.Bit.{Bit}
use Rattle.vcd_core.specs.declared.bit.Bit.TheVariants.{Zero, Z}
use Rattle.vcd_core.specs.declared.wave.Change.{Change}
use Rattle.vcd_core.specs.Value.{letter_at, same_letter}
use Rattle.vcd_core.specs.Wave.{changes_of}
use Rattle.vcd_core.specs.Contents.{Contents, SignalContents, no_signal, signal_at, with_signal, signal_value}
use Rattle.vcd_core.specs.Sound.{IsSound}
use Rattle.vcd_core.proofs.shared.Waves.{value_at-changes_of, changes_of-value_at, changes_same}
use Rattle.vcd_edit.specs.declared.edit.Edit.TheVariants.{Derive}
use Rattle.vcd_edit.specs.declared.edit.Rule.{Rule}
use Rattle.vcd_edit.specs.declared.edit.Rule.TheVariants.{Not, And, Or, Xor, BitOf}
use Rattle.vcd_edit.specs.Operators.{not_bit}
use Rattle.vcd_edit.specs.Effect.{with_values, with_wave, renamed_signal, inverse_value, value_at_any_tick, shift_value}
use Rattle.vcd_edit.specs.Effect.{cut_value, force_value, signal_after_cut, cut_contents, formula, first_operand}
use Rattle.vcd_edit.specs.Effect.{derived_signal, effect}
use Rattle.vcd_edit.specs.AppliedRecords.{with_pieces, apply_record}
use Rattle.vcd_edit.specs.EffectLaws.{value_of, x_for_z, InvertTwice, InvertTwiceWithoutZ, CutKeepsOtherTicks}
use Rattle.vcd_edit.specs.EffectLaws.{CutsCommute, ShiftAndBack, ForceIsLocal, LastForceCounts, RenameAndBack}
use Rattle.vcd_edit.specs.EffectLaws.{RemoveAndBack, BitOfOneBit, ShiftFillsGaps, DerivedBesideFirstOperand}
use Rattle.vcd_edit.proofs.shared.SoundEffects.{sound_at, value_at_width}
use Rattle.vcd_edit.proofs.plans.CutPieces.{before_cut, after_cut}
use Rattle.vcd_edit.proofs.shared.WithoutRepeats.{either_value}
use Rattle.vcd_edit.proofs.plans.Ranges.{before_range, after_range, in_range}
use Rattle.vcd_edit.proofs.exchange.ExchangedRecords.{insert-remove}

-- ---- a signal with other values

module _ (c : Contents) (k : ℕ) (within : k < length c.signals) where
  -- it has them
  value_of_wave : (f : ℕ → List Bit) (t : ℕ) → t ≤ c.end → value_of (with_wave c k f) k t ≡ f t
  value_of_wave f t upto =
      ap (λ (s : SignalContents). signal_value s t)
      (get_or-set_same c.signals k (with_values c.end f (signal_at c k)) no_signal within)
      ∙ value_at-changes_of (signal_at c k).width c.end t f upto

  -- another signal in its place, twice
  replaced_twice : (s r : SignalContents) → with_signal (with_signal c k s) k r ≡ with_signal c k r
  replaced_twice s r = ap (λ (ss : List SignalContents). record c { signals = ss }) (set-set c.signals k s r)

  -- the values given last count
  values_twice : (f g : ℕ → List Bit) → with_wave (with_wave c k f) k g ≡ with_wave c k g
  values_twice f g =
      ap (λ (s : SignalContents). with_signal (with_wave c k f) k (with_values c.end g s))
      (get_or-set_same c.signals k (with_values c.end f (signal_at c k)) no_signal within)
      ∙ replaced_twice (with_values c.end f (signal_at c k)) (with_values c.end g (signal_at c k))

  -- the signal itself in its place
  replaced_by_itself : with_signal c k (signal_at c k) ≡ c
  replaced_by_itself = ap (λ (ss : List SignalContents). record c { signals = ss }) (set-get_or c.signals k no_signal)

  still_there : (s : SignalContents) → k < length (with_signal c k s).signals
  still_there s = omega (arith, within, length-set c.signals k s)

  -- its own values
  own_values : IsSound c → with_wave c k (value_of c k) ≡ c
  own_values sound =
      let here = sound_at c k within sound in
      ap (λ (cs : List Change). with_signal c k (record (signal_at c k) { changes = cs }))
      (changes_of-value_at (signal_at c k).width c.end (signal_at c k).changes here.wave here.ticks)
      ∙ replaced_by_itself

-- the same values up to the end
same_values : (c : Contents) (k : ℕ) (f g : ℕ → List Bit) → ((t : ℕ) → t ≤ c.end → f t ≡ g t)
    → with_wave c k f ≡ with_wave c k g
same_values c k f g same =
    ap (λ (cs : List Change). with_signal c k (record (signal_at c k) { changes = cs }))
    (changes_same (signal_at c k).width c.end f g same)

-- ---- invert

negated_twice : (b : Bit) → not_bit (not_bit b) ≡ x_for_z b
negated_twice Zero = refl
negated_twice b = refl

all_negated_twice : (v : List Bit) → map not_bit (map not_bit v) ≡ map x_for_z v
all_negated_twice [] = refl
all_negated_twice (b ∷ v) = λ i. negated_twice b i ∷ all_negated_twice v i

pub invert_twice : InvertTwice
unfolding effect
invert_twice c k t within upto =
    let s : SignalContents = signal_at c k in
    let d : Contents = with_wave c k (inverse_value s) in
    value_of_wave d k (still_there c k within (with_values c.end (inverse_value s) s)) (inverse_value (signal_at d k)) t
    upto ∙ ap (map not_bit) (value_of_wave c k within (inverse_value s) t upto) ∙ all_negated_twice (value_of c k t)

kept_bit : (b : Bit) → IsTrue (not (same_letter b Z)) → x_for_z b ≡ b
kept_bit Z other = absurd (cc)
kept_bit b other = refl

kept_bits : (v : List Bit) → IsTrue (list_all (λ b. not (same_letter b Z)) v) → map x_for_z v ≡ v
kept_bits [] all = refl
kept_bits (b ∷ v) all =
    let both = and_parts (not (same_letter b Z)) (list_all (λ b. not (same_letter b Z)) v) all in
    λ i. kept_bit b both.0 i ∷ kept_bits v both.1 i

pub invert_twice_without_z : InvertTwiceWithoutZ
unfolding effect
invert_twice_without_z c k sound within none =
    let s : SignalContents = signal_at c k in
    let d : Contents = with_wave c k (inverse_value s) in
    values_twice c k within (inverse_value s) (inverse_value (signal_at d k))
    ∙ same_values c k (inverse_value (signal_at d k)) (value_of c k)
    (λ t upto. ap (map not_bit) (value_of_wave c k within (inverse_value s) t upto)
    ∙ all_negated_twice (value_of c k t) ∙ kept_bits (value_of c k t) (none t upto)) ∙ own_values c k within sound

-- ---- cut

module _ (from to : ℕ) (s : SignalContents) where
  value_after_cut : (end t : ℕ) → t ≤ end → signal_value (signal_after_cut end from to s) t ≡ cut_value from to s t
  value_after_cut end t upto = value_at-changes_of s.width end t (cut_value from to s) upto

-- the values of a signal of a capture after a cut
cut_at : (c : Contents) (from to k t : ℕ) → k < length c.signals → t ≤ c.end - (to - from)
    → value_of (cut_contents from to c) k t ≡ cut_value from to (signal_at c k) t
cut_at c from to k t within upto =
    ap (λ (s : SignalContents). signal_value s t)
    (get_or-map (signal_after_cut (c.end - (to - from)) from to) c.signals k no_signal no_signal within)
    ∙ value_after_cut from to (signal_at c k) (c.end - (to - from)) t upto

pub cut_keeps_other_ticks : CutKeepsOtherTicks
unfolding effect
cut_keeps_other_ticks c from to k t ordered ends within =
    let s : SignalContents = signal_at c k in (
      (λ early. cut_at c from to k t within (omega arith) ∙ before_cut from to s t early),
      (λ late upto. cut_at c from to k (t - (to - from)) within (omega arith)
          ∙ after_cut from to s (t - (to - from)) _ (omega arith) refl
          ∙ ap (signal_value s) {x = t - (to - from) + (to - from)} {y = t} (omega arith)),
      omega arith,
    )

-- the tick that a tick after a cut had before it
abbrev tick_before : ℕ → ℕ → ℕ → ℕ
tick_before from to t = if nat_lt t from then t else t + (to - from)

tick_not_after : (from to t : ℕ) → tick_before from to t ≤ t + (to - from)
tick_not_after from to t = grind (arith, nat_tests)

ticks_commute : (from to later last t : ℕ) → from ≤ to → to ≤ later → later ≤ last
    → tick_before from to (tick_before (later - (to - from)) (last - (to - from)) t)
    ≡ tick_before later last (tick_before from to t)
ticks_commute from to later last t ordered apart rising = grind (arith, nat_tests)

cut_has : (from to end : ℕ) (s : SignalContents) (t : ℕ) → t ≤ end
    → signal_value (signal_after_cut end from to s) t ≡ signal_value s (tick_before from to t)
cut_has from to end s t upto =
    value_after_cut from to s end t upto ∙ either_value (signal_value s) (nat_lt t from) t (t + (to - from))

-- two cuts of one signal, up to an end
module _ (from to later last : ℕ) (ordered : from ≤ to) (apart : to ≤ later) (rising : later ≤ last) (end : ℕ)
    (ends : last ≤ end) (s : SignalContents) where
  abbrev gone : ℕ
  gone = to - from

  abbrev first_cut : SignalContents
  first_cut = signal_after_cut (end - gone) from to s

  abbrev later_cut : SignalContents
  later_cut = signal_after_cut (end - (last - later)) later last s

  either_order : (t : ℕ) → t ≤ end - (last - later) - gone
      → cut_value (later - gone) (last - gone) first_cut t ≡ cut_value from to later_cut t
  either_order t upto =
      either_value (signal_value first_cut) (nat_lt t (later - gone)) t (t + (last - gone - (later - gone)))
      ∙ cut_has from to (end - gone) s (tick_before (later - gone) (last - gone) t)
      (omega (arith, tick_not_after (later - gone) (last - gone) t))
      ∙ ap (signal_value s) (ticks_commute from to later last t ordered apart rising)
      ∙ sym (either_value (signal_value later_cut) (nat_lt t from) t (t + gone)
      ∙ cut_has later last (end - (last - later)) s (tick_before from to t) (omega (arith, tick_not_after from to t)))

  -- the signal after both
  cut_either_order : (stop : ℕ) → stop ≡ end - (last - later) - gone
      → signal_after_cut stop (later - gone) (last - gone) first_cut
      ≡ signal_after_cut (end - (last - later) - gone) from to later_cut
  cut_either_order stop is =
      ap (λ e. signal_after_cut e (later - gone) (last - gone) first_cut) is
      ∙ ap (λ (cs : List Change). record s { changes = cs })
      (changes_same s.width (end - (last - later) - gone) (cut_value (later - gone) (last - gone) first_cut)
      (cut_value from to later_cut) either_order)

-- two functions on each signal, one after the other
map_two : (f g h j : SignalContents → SignalContents) → ((s : SignalContents) → f (g s) ≡ h (j s))
    → (ss : List SignalContents) → map f (map g ss) ≡ map h (map j ss)
map_two f g h j same [] = refl
map_two f g h j same (s ∷ ss) = λ i. same s i ∷ map_two f g h j same ss i

pub cuts_commute : CutsCommute
unfolding effect
cuts_commute c from to later last ordered apart rising ends =
    let gone = to - from in
    let stop = c.end - gone - (last - gone - (later - gone)) in
    let is : stop ≡ c.end - (last - later) - gone = omega arith in
    (λ i. record c {
      end = is i;
      signals = map_two (signal_after_cut stop (later - gone) (last - gone)) (signal_after_cut (c.end - gone) from to)
          (signal_after_cut (c.end - (last - later) - gone) from to)
          (signal_after_cut (c.end - (last - later)) later last)
          (λ s. cut_either_order from to later last ordered apart rising c.end ends s stop is) c.signals i;
    })

-- ---- shift

-- the value at a tick of the capture
within_capture : (end u : ℕ) (s : SignalContents) (t : ℤ) → u ≤ end → t ≡ pos u
    → value_at_any_tick end s t ≡ signal_value s u
within_capture end u s t upto is =
    ap (value_at_any_tick end s) is ∙ ap (λ b. if b then signal_value s end else signal_value s u) (le-ltb end u upto)

pub shift_and_back : ShiftAndBack
unfolding effect
shift_and_back c k t moved by within upto stays is =
    let s : SignalContents = signal_at c k in
    let d : Contents = with_wave c k (shift_value c.end by s) in
    value_of_wave d k (still_there c k within (with_values c.end (shift_value c.end by s) s))
    (shift_value c.end (neg_ℤ by) (signal_at d k)) t upto
    ∙ within_capture c.end moved (signal_at d k) (pos t -ℤ neg_ℤ by) stays (omega (arith, ints, is))
    ∙ value_of_wave c k within (shift_value c.end by s) moved stays
    ∙ within_capture c.end t s (pos moved -ℤ by) upto (omega (arith, ints, is))

pub shift_fills_gaps : ShiftFillsGaps
unfolding effect
shift_fills_gaps c k t by within upto =
    let s : SignalContents = signal_at c k in (
      (λ early. value_of_wave c k within (shift_value c.end (pos by) s) t upto
          ∙ ap (value_at_any_tick c.end s) (before_start t by early)),
      (λ late. value_of_wave c k within (shift_value c.end (neg_ℤ (pos by)) s) t upto
          ∙ ap (value_at_any_tick c.end s) (earlier t by)
          ∙ ap (λ b. if b then signal_value s c.end else signal_value s (t + by)) (lt-ltb c.end (t + by) late)),
    )
  where
    before_start : (t by : ℕ) → t < by → pos t -ℤ pos by ≡ negsuc (by - suc t)
    before_start t by early = omega (arith, ints)

    earlier : (t by : ℕ) → pos t -ℤ neg_ℤ (pos by) ≡ pos (t + by)
    earlier t by = omega (arith, ints)

-- ---- force

pub force_is_local : ForceIsLocal
unfolding effect
force_is_local c k from to t value within upto =
    let s : SignalContents = signal_at c k in
    let there = value_of_wave c k within (force_value from to value s) t upto in (
      (λ from_here before. there ∙ in_range from to value s t from_here before),
      (λ outside. there ∙ elim outside [
        | inl early ↦ before_range from to value s t early
        | inr late ↦ after_range from to value s t late
      ]),
    )

-- where the first choice is not taken, the others may differ
choice_same : (b : Bool) (v first x : List Bit) → (if b then v else (if b then first else x)) ≡ (if b then v else x)
choice_same true v first x = refl
choice_same false v first x = refl

pub last_force_counts : LastForceCounts
unfolding effect
last_force_counts c k from to first last within =
    let s : SignalContents = signal_at c k in
    let d : Contents = with_wave c k (force_value from to first s) in
    values_twice c k within (force_value from to first s) (force_value from to last (signal_at d k))
    ∙ same_values c k (force_value from to last (signal_at d k)) (force_value from to last s)
    (λ t upto.
    ap (λ v. if nat_le from t && nat_lt t to then last else v)
    (value_of_wave c k within (force_value from to first s) t upto)
    ∙ choice_same (nat_le from t && nat_lt t to) last first (signal_value s t))

-- ---- derive

only_bit : (v : List Bit) → length v ≡ 1 → letter_at v 0 ∷ [] ≡ v
only_bit (b ∷ []) long = refl
only_bit v long = absurd (omega arith)

pub derived_beside_first_operand : DerivedBesideFirstOperand
unfolding effect
derived_beside_first_operand c word a b k =
    more (Not a) (And a b ∷ Or a b ∷ Xor a b ∷ BitOf a k ∷ []) refl
    (more (And a b) (Or a b ∷ Xor a b ∷ BitOf a k ∷ []) refl
    (more (Or a b) (Xor a b ∷ BitOf a k ∷ []) refl
    (more (Xor a b) (BitOf a k ∷ []) refl (more (BitOf a k) [] refl (All-nil IsBeside)))))
  where
    IsBeside : Rule → Type 0
    IsBeside rule = (signal_at (effect (Derive word rule) c) (length c.signals)).scopes ≡ (signal_at c a).scopes

    more : (rule : Rule) (rules : List Rule) → first_operand (formula rule) ≡ a → All IsBeside rules
        → All IsBeside (rule ∷ rules)
    more rule rules first others = All-cons IsBeside rule rules
        (ap (λ (s : SignalContents). s.scopes)
        (get_or_push c.signals (derived_signal word.now rule c) no_signal (length c.signals) refl)
        ∙ ap (λ n. (signal_at c n).scopes) first) others

pub bit_of_one_bit : BitOfOneBit
unfolding effect
bit_of_one_bit c word a sound within one =
    let s : SignalContents = signal_at c a in
    let here = sound_at c a within sound in
    ap (λ (r : SignalContents). r.changes)
    (get_or_push c.signals (derived_signal word.now (BitOf a 0) c) no_signal (length c.signals) refl)
    ∙ changes_same 1 c.end (λ t. letter_at (value_of c a t) 0 ∷ []) (value_of c a)
    (λ t upto. only_bit (value_of c a t) (value_at_width s.width s.changes t here.wave ∙ one))
    ∙ ap (λ (width : ℕ). changes_of width c.end (value_of c a)) (sym one)
    ∙ changes_of-value_at s.width c.end s.changes here.wave here.ticks

-- ---- names and order

pub rename_and_back : RenameAndBack
unfolding effect
rename_and_back c k old new others within named =
    let s : SignalContents = signal_at c k in
    ap (λ (r : SignalContents). with_signal (with_signal c k (renamed_signal new.now s)) k (renamed_signal old.now r))
    (get_or-set_same c.signals k (renamed_signal new.now s) no_signal within)
    ∙ replaced_twice c k within (renamed_signal new.now s) (record s { words = old.now ∷ drop 1 s.words })
    ∙ ap (λ (ws : List (List ℕ)). with_signal c k (record s { words = ws }))
    (ap (λ (ws : List (List ℕ)). old.now ∷ drop 1 ws) named ∙ sym named) ∙ replaced_by_itself c k within

pub remove_and_back : RemoveAndBack
unfolding effect apply_record with_pieces
remove_and_back c k j within = (
  (λ before. get_or-remove_below c.signals k no_signal j before within),
  (λ after. get_or-remove_above c.signals k no_signal j after within),
  ap (λ (ss : List SignalContents). record c { signals = ss }) (insert-remove c.signals k within),
)
