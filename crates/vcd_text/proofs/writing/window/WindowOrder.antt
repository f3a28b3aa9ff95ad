-- The transitions of a window: counted, listed signal by signal, and put into the order of their keys.
use Rattle.std.proofs.Common.{◌≡◌, ◌<◌, ◌≤◌, ◌+◌, ℕ, List, ◌++◌, length, map, drop, get_or, refl, append_assoc, arith}
use Rattle.std.proofs.Common.{◌≢◌, ◌⊎◌, inl, inr, Bool, true, false, ◌&&◌, ◌==◌, [], ◌∷◌, sym, ap, ◌∙◌, eq-eqb, ◌-◌}
use Rattle.std.proofs.Common.{zero, suc, nat_le, nat_lt, All, ◌*◌, ◌/◌, ◌%◌}
use Rattle.std.specs.List.{filter, sum_by, enumerate_from, flat_map}
use Rattle.std.proofs.lemmas.List.{append-nil, drop_all, drop_more, get_or-map, length-append, length-map, map-append}
use Rattle.std.specs.List.Sorted.{IsPermutation, IsSorted}
use Rattle.std.proofs.lemmas.Bool.{cases_lt, ne_eqb, le-leb, lt-leb, lt-ltb, le-ltb}
use Rattle.std.proofs.lemmas.List.Sums.{sum_by-cons}
use Rattle.std.proofs.lemmas.List.Sorted.{sum_by-IsPermutation, IsPermutation-map}
use Rattle.std.proofs.lemmas.List.Elements.{All-head, All-tail}
use Rattle.std.proofs.Math.Bool.{and-false}
use Rattle.std.specs.Ordering.{nat_cmp, is_lt}
use Rattle.std.proofs.lemmas.Grind.{flat_map-append, common_steps}
use Rattle.vcd_core.specs.declared.capture.Signal.{Signal}
use Rattle.vcd_core.specs.declared.wave.Change.{Change}
use Rattle.vcd_core.specs.CaptureContents.{signal_contents}
use Rattle.vcd_core.specs.Wave.{value_at, AllUpTo, changes_from}
use Rattle.vcd_core.specs.declared.bit.Bit.{Bit}
use Rattle.vcd_core.specs.Value.{all_x}
use Rattle.vcd_core.specs.Contents.{SignalContents, signal_value}
use Rattle.vcd_core.specs.Sound.{IsSoundSignal}
use Rattle.vcd_core.proofs.shared.Waves.{changes_of-value_at}
use Rattle.vcd_core.specs.declared.capture.TheConstants.{END_LIMIT}
use Rattle.vcd_text.specs.inside.writing.Transitions.{Transition, is_in_window, transition_of, transition_value}
use Rattle.vcd_text.specs.inside.writing.Transitions.{unsorted_window, window_of_signal, transitions_at}
use Rattle.vcd_text.specs.inside.writing.Transitions.{transitions_from, last_tick, new_stamp, transition_items}
use Rattle.vcd_text.specs.declared.writing.window.TheConstants.{POSITIONS}
use Rattle.vcd_text.specs.inside.writing.Window.{IsKey, transition_of_key, transitions_of}
use Rattle.vcd_text.specs.Text.{code_of, item_line, value_item}

-- ==== the transitions of a window are listed signal by signal

pub one_listed : (from to k : ℕ) (signals : List Signal) (s : Signal) (out new whole : List Transition)
    → k < length signals → s ≡ get_or signals k s → new ≡ out ++ window_of_signal from to k s.wave.changes
    → out ++ unsorted_window from to k (map signal_contents (drop k signals)) ≡ whole
    → new ++ unsorted_window from to (k + 1) (map signal_contents (drop (k + 1) signals)) ≡ whole
unfolding unsorted_window
one_listed from to k signals s out new whole within at grown all = grind (arith, append_assoc, drop_more)

pub all_listed : (from to k : ℕ) (signals : List Signal) (out whole : List Transition) → length signals ≤ k
    → out ++ unsorted_window from to k (map signal_contents (drop k signals)) ≡ whole → out ≡ whole
unfolding unsorted_window
all_listed from to k signals out whole past all = grind (arith, append-nil, drop_all)

-- the items listed and those of one more signal are not more than all
pub longer_than : (from to k : ℕ) (signals : List Signal) (s : Signal) (out whole : List Transition)
    → k < length signals → s ≡ get_or signals k s
    → out ++ unsorted_window from to k (map signal_contents (drop k signals)) ≡ whole
    → length out + length (filter (λ (c : Change). is_in_window from to c.tick) s.wave.changes) ≤ length whole
longer_than from to k signals s out whole within at all =
    let grown = one_listed from to k _ s out _ whole within at refl all in
    grind (arith, grown, length-append, length-map)

-- the value of a transition is that in the wave of its signal
pub value_there : (signals : List Signal) (s : Signal) (k t : ℕ) → k < length signals → s ≡ get_or signals k s
    → transition_value (map signal_contents signals) (transition_of t k) ≡ value_at s.wave.width s.wave.changes t
value_there signals s k t within is = grind (arith, get_or-map)

pub ruleset longer_steps = (longer_than, length-map)

-- ==== two rising lists of transitions, with each transition equally often, are the same

-- 1 if the test passes
abbrev pub counted : Bool → ℕ
counted true = 1
counted false = 0

-- how often a transition is in a list
abbrev pub once : ℕ → ℕ → Transition → ℕ
once t k m = counted ((m.tick == t) && (m.position == k))

abbrev pub times : ℕ → ℕ → List Transition → ℕ
times t k [] = 0
times t k (m ∷ ms) = once t k m + times t k ms

pub times-append : (t k : ℕ) (xs ys : List Transition) → times t k (xs ++ ys) ≡ times t k xs + times t k ys
times-append t k [] ys = omega arith
times-append t k (m ∷ xs) ys = omega (arith, times-append t k xs ys)

times_is_sum : (t k : ℕ) (ms : List Transition) → times t k ms ≡ sum_by (once t k) ms
times_is_sum t k [] = refl
times_is_sum t k (m ∷ ms) = ap (λ n. once t k m + n) (times_is_sum t k ms) ∙ sym (sum_by-cons (once t k) m ms)

-- a permutation keeps this count
pub times_permuted : (t k : ℕ) (xs ys : List Transition) → IsPermutation xs ys → times t k ys ≡ times t k xs
times_permuted t k xs ys moved = grind (arith, times_is_sum, sum_by-IsPermutation)

once_itself : (m : Transition) → once m.tick m.position m ≡ 1
once_itself m = grind (arith, eq-eqb)

-- a transition is at a point or after it; points are ordered by tick and position
abbrev pub AtLeast : ℕ → ℕ → Transition → Type 0
AtLeast t k m = (t < m.tick) ⊎ ((t ≡ m.tick) × (k ≤ m.position))

abbrev Before : ℕ → ℕ → ℕ → ℕ → Type 0
Before u j t k = (u < t) ⊎ ((u ≡ t) × (j < k))

-- transitions rise from a point on
abbrev pub RisesFrom : ℕ → ℕ → List Transition → Type 0
RisesFrom t k [] = Unit {0}
RisesFrom t k (m ∷ ms) = AtLeast t k m × RisesFrom m.tick m.position ms

before_move : (u j t k : ℕ) (m : Transition) → Before u j t k → AtLeast t k m → Before u j m.tick m.position
before_move u j t k m h5 h6 = grind arith

not_before : (u j : ℕ) (m : Transition) → Before u j m.tick m.position → once u j m ≡ 0
not_before u j m before = grind (arith, ne_eqb)

-- a transition before the first is not in the list
none_before : (u j t k : ℕ) (ms : List Transition) → RisesFrom t k ms → Before u j t k → times u j ms ≡ 0
none_before u j t k [] rise before = refl
none_before u j t k (m ∷ ms) (first, rest) before =
    let further = before_move u j t k m before first in
    omega (arith, not_before u j m further, none_before u j m.tick m.position ms rest further)

first_differs : (x y : Transition) (xs ys : List Transition) → RisesFrom y.tick y.position ys
    → Before x.tick x.position y.tick y.position → times x.tick x.position (x ∷ xs) ≢ times x.tick x.position (y ∷ ys)
first_differs x y xs ys rise before same = grind (arith, once_itself, not_before, none_before)

compared : (x y : Transition)
    → (Before x.tick x.position y.tick y.position ⊎ Before y.tick y.position x.tick x.position) ⊎ (x ≡ y)
compared x y = grind (arith, cases_lt)

pub same_transitions : (xs ys : List Transition) (a b t k : ℕ) → RisesFrom a b xs → RisesFrom t k ys
    → ((u j : ℕ) → times u j xs ≡ times u j ys) → xs ≡ ys
same_transitions [] [] a b t k rise_x rise_y same = refl
same_transitions [] (y ∷ ys) a b t k rise_x rise_y same = absurd (omega (arith, once_itself y, same y.tick y.position))
same_transitions (x ∷ xs) [] a b t k rise_x rise_y same = absurd (omega (arith, once_itself x, same x.tick x.position))
same_transitions (x ∷ xs) (y ∷ ys) a b t k (first_x, rest_x) (first_y, rest_y) same =
    elim (compared x y) [
      | inl apart ↦ elim apart [
        | inl before ↦ absurd (first_differs x y xs ys rest_y before (same x.tick x.position))
        | inr following ↦ absurd (first_differs y x ys xs rest_x following (sym (same y.tick y.position)))
      ]
      | inr equal ↦
          let rest : xs ≡ ys = same_transitions xs ys x.tick x.position y.tick y.position rest_x rest_y
          (λ u j. omega (arith, same u j, ap (once u j) equal)) in
          (λ i. equal i ∷ rest i)
    ]

-- ==== the changes of all waves are, by tick, the signals that differ from the tick before

-- ---- their order

from_next : (f g t : ℕ) (ys : List Transition) → f ≤ t → RisesFrom (suc t) 0 ys → RisesFrom f g ys
from_next f g t [] before rise = tt
from_next f g t (m ∷ ms) before (first, rest) = (grind arith, rest)

rises_at : (f g t j : ℕ) (ss : List SignalContents) (ys : List Transition) → AtLeast f g (transition_of t j)
    → RisesFrom (suc t) 0 ys → RisesFrom f g (transitions_at t (enumerate_from j ss) ++ ys)
rises_at f g t j [] ys from rise = from_next f g t ys (grind arith) rise
rises_at f g t j (s ∷ ss) ys from rise =
    let here = rises_at t j t (j + 1) ss ys (inr (refl, omega arith)) rise in
    let later = rises_at f g t (j + 1) ss ys (grind arith) rise in
    grind (arith, here, later)

rises_from : (j : ℕ) (ss : List SignalContents) (t n : ℕ) → RisesFrom t 0 (transitions_from j ss t n)
unfolding transitions_from
rises_from j ss t zero = tt
rises_from j ss t (suc n) = grind (arith, rises_at, rises_from j ss (suc t) n)

-- ---- windows

pub in_window : (from to t : ℕ) → from ≤ t → t < to → is_in_window from to t ≡ true
in_window from to t low high = ap (λ b. b && nat_lt t to) (le-leb from t low) ∙ lt-ltb t to high

pub before_window : (from to t : ℕ) → t < from → is_in_window from to t ≡ false
before_window from to t early = ap (λ b. b && nat_lt t to) (lt-leb from t early)

pub after_window : (from to t : ℕ) → to ≤ t → is_in_window from to t ≡ false
after_window from to t late = ap (λ b. nat_le from t && b) (le-ltb t to late) ∙ and-false (nat_le from t)

-- ---- one signal

-- no change past the window is in it
none_late : (from to j t m : ℕ) (before : List Bit) (f : ℕ → List Bit) → to ≤ t
    → window_of_signal from to j (changes_from before t m f) ≡ []
unfolding changes_from
none_late from to j t zero before f late = refl
none_late from to j t (suc m) before f late =
    grind (arith, after_window, none_late from to j (suc t) m (f t) f (omega arith))

-- the changes of a signal's values are the ticks at which it differs, from the first of the window
-- on
window_rest : (s : SignalContents) (from to j t n m : ℕ) → from ≤ suc t → suc t + n ≡ to → n ≤ m
    → window_of_signal from to j (changes_from (signal_value s t) (suc t) m (signal_value s))
    ≡ transitions_from j (s ∷ []) (suc t) n
unfolding changes_from transitions_from
window_rest s from to j t zero m low all few = grind (arith, none_late)
window_rest s from to j t (suc n) zero low all few = absurd (omega arith)
window_rest s from to j t (suc n) (suc m) low all few =
    grind (arith, in_window, window_rest s from to j (suc t) n m (omega arith) (omega arith) (omega arith))

-- a change before it is passed over
passed_over : (from to j t m : ℕ) (before : List Bit) (f : ℕ → List Bit) → t < from
    → window_of_signal from to j (changes_from before t (suc m) f)
    ≡ window_of_signal from to j (changes_from (f t) (suc t) m f)
unfolding changes_from
passed_over from to j t m before f early = grind (arith, before_window)

window_all : (s : SignalContents) (from to j n d t m : ℕ) (before : List Bit) → suc t + d ≡ from → from + n ≡ to
    → d + n ≤ m
    → window_of_signal from to j (changes_from before t (suc m) (signal_value s)) ≡ transitions_from j (s ∷ []) from n
window_all s from to j n zero t m before at all few = grind (arith, passed_over, window_rest)
window_all s from to j n (suc d) t zero before at all few = absurd (omega arith)
window_all s from to j n (suc d) t (suc m) before at all few =
    grind (arith, passed_over, window_all s from to j n d (suc t) m (signal_value s t) (omega arith) all (omega arith))

up_to_later : (end later : ℕ) (cs : List Change) → end ≤ later → AllUpTo end cs → AllUpTo later cs
up_to_later end later [] more upto = tt
up_to_later end later (c ∷ cs) more (first, rest) = (omega arith, up_to_later end later cs more rest)

window_is : (end from n j : ℕ) (s : SignalContents) → 1 ≤ from → IsSoundSignal end s
    → window_of_signal from (from + n) j s.changes ≡ transitions_from j (s ∷ []) from n
window_is end from n j s some sound =
    let far : ℕ = end + from + n in
    ap (window_of_signal from (from + n) j) (sym (changes_of-value_at s.width far s.changes sound.wave
    (up_to_later end far s.changes (omega arith) sound.ticks)))
    ∙ window_all s from (from + n) j n (from - 1) 0 far (all_x s.width) (omega arith) refl (omega arith)

-- ---- signal by signal

none_of_none : (u k j t n : ℕ) → times u k (transitions_from j [] t n) ≡ 0
unfolding transitions_from
none_of_none u k j t zero = refl
none_of_none u k j t (suc n) = none_of_none u k j (suc t) n

one_more : (u k j t n : ℕ) (s : SignalContents) (ss : List SignalContents)
    → times u k (transitions_from j (s ∷ ss) t n)
    ≡ times u k (transitions_from j (s ∷ []) t n) + times u k (transitions_from (j + 1) ss t n)
unfolding transitions_from
one_more u k j t zero s ss = refl
one_more u k j t (suc n) s ss = grind (arith, times-append, one_more u k j (suc t) n s ss)

-- each transition is as often in the one list as in the other
same_times : (end from n j : ℕ) (ss : List SignalContents) → 1 ≤ from → All (IsSoundSignal end) ss → (t k : ℕ)
    → times t k (unsorted_window from (from + n) j ss) ≡ times t k (transitions_from j ss from n)
unfolding unsorted_window
same_times end from n j [] some sound t k = sym (none_of_none t k j from n)
same_times end from n j (s ∷ ss) some sound t k = omega (
  arith,
  times-append t k (window_of_signal from (from + n) j s.changes) (unsorted_window from (from + n) (j + 1) ss),
  ap (times t k) (window_is end from n j s some (All-head (IsSoundSignal end) s ss sound)),
  one_more t k j from n s ss,
  same_times end from n (j + 1) ss some (All-tail (IsSoundSignal end) s ss sound) t k,
)

-- ---- one tick

one_of_signal : (s : SignalContents) (t j : ℕ) → length (transitions_from j (s ∷ []) t 1) ≤ 1
unfolding transitions_from
one_of_signal s t j = grind arith

-- at one tick each signal changes once at most
pub one_tick_within : (end t j : ℕ) (ss : List SignalContents) → 1 ≤ t → All (IsSoundSignal end) ss
    → length (unsorted_window t (t + 1) j ss) ≤ length ss
unfolding unsorted_window
one_tick_within end t j [] some sound = omega arith
one_tick_within end t j (s ∷ ss) some sound = omega (
  arith,
  length-append (window_of_signal t (t + 1) j s.changes) (unsorted_window t (t + 1) (j + 1) ss),
  ap (length {A = Transition}) (window_is end t 1 j s some (All-head (IsSoundSignal end) s ss sound)),
  one_of_signal s t j,
  one_tick_within end t (j + 1) ss some (All-tail (IsSoundSignal end) s ss sound),
)

-- ==== the order of keys is that of their transitions: by tick, then by position

-- a key that is not below another is that of a transition at its point or after it
not_below : (from a b : ℕ) → a ≤ b → AtLeast (from + a / POSITIONS) (a % POSITIONS) (transition_of_key from b)
not_below from a b up = grind (arith, cases_lt)

not_less : (a b : ℕ) → is_lt (nat_cmp b a) ≡ false → a ≤ b
not_less a b is = grind (arith, cases_lt, lt-ltb)

rises_after : (from key : ℕ) (keys : List ℕ) → ((k d : ℕ) → k + 1 < length (key ∷ keys)
    → is_lt (nat_cmp (get_or (key ∷ keys) (k + 1) d) (get_or (key ∷ keys) k d)) ≡ false)
    → RisesFrom (from + key / POSITIONS) (key % POSITIONS) (transitions_of from keys)
rises_after from key [] up = tt
rises_after from key (next ∷ keys) up = (
  not_below from key next (not_less key next (up 0 0 (omega arith))),
  rises_after from next keys (λ k d within. rw (let e : suc k + 1 ≡ suc (k + 1) =
      omega arith in e) at (up (suc k) d (omega arith))),
)

keys_rise : (from : ℕ) (keys : List ℕ) → IsSorted nat_cmp keys → RisesFrom 0 0 (transitions_of from keys)
keys_rise from [] up = tt
keys_rise from (key ∷ keys) up = grind (arith, cases_lt, rises_after)

-- sorted keys list the transitions of the window by tick
pub ordered_are : (end from n : ℕ) (ss : List SignalContents) (keys sorted : List ℕ) → 1 ≤ from
    → transitions_of from keys ≡ unsorted_window from (from + n) 0 ss → IsPermutation keys sorted
    → IsSorted nat_cmp sorted → All (IsSoundSignal end) ss → transitions_of from sorted ≡ transitions_from 0 ss from n
ordered_are end from n ss keys sorted some listed moved up sound = same_transitions _ _ 0 0 from 0
    (keys_rise from sorted up) (rises_from 0 ss from n) (λ t k. times_permuted t k _ _ (IsPermutation-map
    (transition_of_key from) keys sorted moved) ∙ ap (times t k) listed ∙ same_times end from n 0 ss some sound t k)

-- ---- one key

-- it is listed before others
pub one_key : (from tick position key : ℕ) (keys new : List ℕ) (rest whole : List Transition) → position < POSITIONS
    → from ≤ tick → key ≡ (tick - from) * POSITIONS + position → new ≡ keys ++ key ∷ []
    → transitions_of from keys ++ transition_of tick position ∷ rest ≡ whole → transitions_of from new ++ rest ≡ whole
one_key from tick position key keys new rest whole small late is grown all = grind (arith, map-append, append_assoc)

pub key_holds : (from tick position count key : ℕ) (keys new : List ℕ) → position < POSITIONS → position < count
    → from ≤ tick → tick ≤ END_LIMIT → key ≡ (tick - from) * POSITIONS + position → new ≡ keys ++ key ∷ []
    → All (IsKey from count) keys → All (IsKey from count) new
key_holds from tick position count key keys new small inside late end is grown all = grind (arith, common_steps)

-- it is written before the later ones
pub one_written : (signals : List SignalContents) (from last k : ℕ) (keys : List ℕ) → k < length keys
    → let m : Transition = transition_of_key from (get_or keys k 0) in
    flat_map item_line (transition_items signals last (transitions_of from (drop k keys)))
    ≡ (flat_map item_line (new_stamp last m.tick)
    ++ item_line (value_item (code_of m.position) (transition_value signals m)))
    ++ flat_map item_line (transition_items signals m.tick (transitions_of from (drop (k + 1) keys)))
unfolding transition_items
one_written signals from last k keys within = grind (arith, drop_more, flat_map-append, append_assoc)

pub one_later : (from last k whole : ℕ) (keys : List ℕ) → k < length keys
    → last_tick last (transitions_of from (drop k keys)) ≡ whole
    → last_tick (from + get_or keys k 0 / POSITIONS) (transitions_of from (drop (k + 1) keys)) ≡ whole
unfolding last_tick
one_later from last k whole keys within all = grind (arith, drop_more)

-- no key is left
pub none_written : (signals : List SignalContents) (from last k : ℕ) (keys : List ℕ) → length keys ≤ k
    → flat_map item_line (transition_items signals last (transitions_of from (drop k keys))) ≡ []
unfolding transition_items
none_written signals from last k keys past = grind (arith, drop_all)

pub last_written : (from last k whole : ℕ) (keys : List ℕ) → length keys ≤ k
    → last_tick last (transitions_of from (drop k keys)) ≡ whole → last ≡ whole
unfolding last_tick
last_written from last k whole keys past all = grind (arith, drop_all)
