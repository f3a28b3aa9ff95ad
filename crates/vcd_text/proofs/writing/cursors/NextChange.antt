-- The next change of a wave from a tick on.
use Rattle.std.proofs.Common.{◌≡◌, ◌<◌, ◌≤◌, ◌+◌, ◌-◌, ◌^◌, inl, inr, ℕ, zero, suc, List, [], ◌∷◌, length, take, drop}
use Rattle.std.proofs.Common.{get_or, All, refl, sym, ap, ◌∙◌, arith}
use Rattle.std.proofs.Math.ListN.{set}
use Rattle.std.proofs.lemmas.Bool.{cases_eq, cases_lt}
use Rattle.std.proofs.lemmas.List.{drop_more, get_or_default, get_or_past, get_or-map, get_or-set_other}
use Rattle.std.proofs.lemmas.List.{get_or-set_same, length-map, take_more, append-nil}
use Rattle.std.proofs.lemmas.List.Elements.{All-push, All-head, All-tail}
use Rattle.vcd_core.specs.declared.bit.Bit.{Bit}
use Rattle.vcd_core.specs.declared.capture.Signal.{Signal}
use Rattle.vcd_core.specs.declared.capture.TheConstants.{END_LIMIT}
use Rattle.vcd_core.specs.declared.wave.Change.{Change}
use Rattle.vcd_core.specs.Value.{all_x}
use Rattle.vcd_core.specs.Wave.{AreChangesFrom, IsWave, change}
use Rattle.vcd_text.specs.declared.writing.cursors.Cursor.{Cursor}
use Rattle.vcd_text.specs.inside.writing.Cursors.{IsNext, tick_at}
use Rattle.vcd_text.specs.inside.writing.Transitions.{transition_of, window_of_signal}
use Rattle.vcd_text.proofs.writing.window.WindowOrder.{after_window, before_window, in_window}

-- a tick before all ticks is that of a change
pub tick_inside : (cs : List Change) (k : ℕ) → tick_at cs k < 2 ^ 64 - 1 → k < length cs
tick_inside cs k early = grind (arith, cases_lt, get_or_past, length-map)

tick_is : (cs : List Change) (k : ℕ) (d : Change) → k < length cs → tick_at cs k ≡ (get_or cs k d).tick
tick_is cs k d inside = get_or-map (λ (c : Change). c.tick) cs k d (2 ^ 64 - 1) inside

later_tick : (floor : ℕ) (before : List Bit) (cs : List Change) (k : ℕ) → AreChangesFrom floor before cs
    → tick_at cs k < 2 ^ 64 - 1 → tick_at cs k < tick_at cs (k + 1)
later_tick floor before [] k rise early = absurd (omega (arith, early))
later_tick floor before (c ∷ cs) (suc k) (from, other, wide, rest) early =
    grind (arith, later_tick (c.tick + 1) c.value cs k rest early)
later_tick floor before (c ∷ []) zero rise early = early
later_tick floor before (c ∷ d ∷ cs) zero (from, other, wide, rest) early = omega (arith, rest.0)

-- the tick after it is later
pub rising : (width : ℕ) (cs : List Change) (k : ℕ) → IsWave width cs → tick_at cs k < 2 ^ 64 - 1
    → tick_at cs k < tick_at cs (k + 1)
rising width cs k is early = later_tick 0 (all_x width) cs k is.rise early

-- one change further on
pub goes_on : (width from to : ℕ) (cs : List Change) (n m : Cursor) → IsWave width cs → IsNext from to cs n
    → n.tick < to → to ≤ END_LIMIT + 1 → m.index ≡ n.index + 1 → m.tick ≡ n.following_tick
    → m.following_tick ≡ tick_at cs (n.index + 2) → IsNext from to cs m
goes_on width from to cs n m rise is early end index tick following_tick =
    let d = change 0 [] in
    let known : tick_at cs n.index < 2 ^ 64 - 1 = omega (arith, is.tick, early, end) in
    let inside = tick_inside cs _ known in
    let here : (get_or cs n.index d).tick < to = omega (arith, is.tick, tick_is cs _ d inside, early) in
    let sum : n.index + 2 ≡ m.index + 1 = omega (arith, index) in
    record {
      passed = rw index (rw (take_more cs n.index d inside) (All-push (λ (c : Change). c.tick < to) (take n.index cs)
          (get_or cs n.index d) is.passed here));
      not_earlier = omega (arith, is.not_earlier, is.tick, is.following_tick, tick, rising width cs _ rise known);
      tick = tick ∙ is.following_tick ∙ ap (tick_at cs) (sym index);
      following_tick = following_tick ∙ ap (tick_at cs) sum;
    }

-- before a later tick
pub goes_to : (from to : ℕ) (cs : List Change) (n : Cursor) → from ≤ to → IsNext from from cs n → IsNext from to cs n
goes_to from to cs n up is = grind arith

-- ---- a window of one wave

-- the changes before the next one are not in it
pub begins : (from to position : ℕ) (cs : List Change) (index : ℕ) → All (λ c. c.tick < from) (take index cs)
    → window_of_signal from to position cs ≡ window_of_signal from to position (drop index cs)
begins from to position cs zero passed = refl
begins from to position [] (suc index) passed = refl
begins from to position (c ∷ cs) (suc index) passed =
    let early = All-head (λ (x : Change). x.tick < from) c (take index cs) passed in
    let rest = begins from to position cs index (All-tail (λ (x : Change). x.tick < from) c (take index cs) passed) in
    grind (arith, before_window, early, rest)

-- the next change is in it
pub steps : (from to position : ℕ) (cs : List Change) (n : Cursor) → IsNext from to cs n → n.tick < to
    → to ≤ END_LIMIT + 1 → window_of_signal from to position (drop n.index cs)
    ≡ transition_of n.tick position ∷ window_of_signal from to position (drop (n.index + 1) cs)
steps from to position cs n is early end =
    let d = change 0 [] in
    let inside = tick_inside cs n.index (omega (arith, is.tick, early, end)) in
    let at : (get_or cs n.index d).tick ≡ n.tick = sym (tick_is cs n.index d inside) ∙ sym is.tick in
    let split = drop_more cs n.index d inside in
    let here = in_window from to n.tick is.not_earlier early in
    grind (arith, at, split, here)

none_in : (from to position floor : ℕ) (before : List Bit) (cs : List Change) → AreChangesFrom floor before cs
    → to ≤ floor → window_of_signal from to position cs ≡ []
none_in from to position floor before [] rise late = refl
none_in from to position floor before (c ∷ cs) (low, other, wide, rest) late =
    grind (arith, after_window, none_in from to position (c.tick + 1) c.value cs rest (omega arith))

-- from a late change on none is
ends : (from to position floor : ℕ) (before : List Bit) (cs : List Change) (k : ℕ) → AreChangesFrom floor before cs
    → to ≤ tick_at cs k → window_of_signal from to position (drop k cs) ≡ []
ends from to position floor before [] zero rise late = refl
ends from to position floor before [] (suc k) rise late = refl
ends from to position floor before (c ∷ cs) zero (low, other, wide, rest) late = grind (arith, none_in)
ends from to position floor before (c ∷ cs) (suc k) (low, other, wide, rest) late =
    ends from to position (c.tick + 1) c.value cs k rest late

pub stops : (width from to position : ℕ) (cs : List Change) (n : Cursor) → IsWave width cs → IsNext from to cs n
    → to ≤ n.tick → window_of_signal from to position (drop n.index cs) ≡ []
stops width from to position cs n rise is late = grind (arith, ends)

-- ---- signal by signal

-- the signals before a position, and one more
pub passed_next : (from p : ℕ) (signals : List Signal) (cursors : List Cursor) (there : Signal)
    (next : Cursor) → p < length signals → length cursors ≡ length signals → there ≡ get_or signals p there
    → IsNext from from there.wave.changes next → ((k : ℕ) (s : Signal) (n : Cursor) → k < p
    → IsNext from from (get_or signals k s).wave.changes (get_or cursors k n))
    → (k : ℕ) (s : Signal) (n : Cursor) → k < p + 1
    → IsNext from from (get_or signals k s).wave.changes (get_or (set cursors p next) k n)
passed_next from p signals cursors there next inside all is holds before k s n less =
    elim (cases_eq k p) [
      | inl at ↦ (grind (arith, get_or_default, get_or-set_same))
      | inr apart ↦ rw (get_or-set_other cursors p k next n apart) (before k s n (omega arith))
    ]

pub ruleset first_change_steps = (goes_on, rising)

pub ruleset window_steps = (goes_to, begins, tick_inside, stops, append-nil)
