-- The transitions of ticks are written as the items of these ticks.
use Rattle.std.proofs.Common.{◌≡◌, ◌<◌, ◌≤◌, ◌+◌, ◌-◌, ℕ, zero, suc, true, false, List, [], ◌∷◌, ◌++◌, map, get_or}
use Rattle.std.proofs.Common.{refl, sym, ap, ◌∙◌, arith, All, append_assoc, eq-eqb}
use Rattle.std.specs.List.{flat_map, enumerate_from}
use Rattle.std.proofs.lemmas.Bool.{ne_eqb}
use Rattle.std.proofs.lemmas.Grind.{flat_map-append}
use Rattle.std.proofs.lemmas.List.{append-nil, get_or_default}
use Rattle.std.proofs.lemmas.List.Elements.{All-filter, All-head, All-tail}
use Rattle.std.proofs.lemmas.List.FromFn.{get_or-enumerate_from, length-enumerate_from}
use Rattle.vcd_core.specs.Contents.{SignalContents, no_signal}
use Rattle.vcd_text.specs.Items.{Item}
use Rattle.vcd_text.specs.inside.writing.Transitions.{Transition, transition_of, last_tick, new_stamp, transition_items}
use Rattle.vcd_text.specs.inside.writing.Transitions.{transitions_from, items_of_ticks}
use Rattle.vcd_text.specs.Text.{differing, differs_at, item_line, with_stamp, value_items}
use Rattle.vcd_text.proofs.shared.EmittedParts.{prefix_begun}

-- the items of transitions after the stamp of a tick, and the stamp of the end
abbrev pub items_left : List SignalContents → ℕ → ℕ → List Transition → List Item
items_left signals end last ms = transition_items signals last ms ++ new_stamp (last_tick last ms) end

-- ---- one tick

-- the transitions of a list of signals at a tick
abbrev at_tick : ℕ → List (ℕ × SignalContents) → List Transition
at_tick t positioned = map (λ p. transition_of t p.0) positioned

-- a signal is at its position
abbrev IsAtPosition : List SignalContents → ℕ × SignalContents → Type 0
IsAtPosition signals p = get_or signals p.0 no_signal ≡ p.1

all_at_positions : (signals : List SignalContents) → All (IsAtPosition signals) (enumerate_from 0 signals)
all_at_positions signals k d within = grind (arith, length-enumerate_from, get_or-enumerate_from, get_or_default)

all_differing : (signals : List SignalContents) (t : ℕ) → All (IsAtPosition signals) (differing signals t)
all_differing signals t =
    All-filter (λ p. differs_at t p.1) (IsAtPosition signals) (enumerate_from 0 signals) (all_at_positions signals)

-- transitions at the tick of the last stamp
same_tick : (signals : List SignalContents) (end t : ℕ) (positioned : List (ℕ × SignalContents)) (ms : List Transition)
    → All (IsAtPosition signals) positioned
    → items_left signals end t (at_tick t positioned ++ ms) ≡ value_items t positioned ++ items_left signals end t ms
unfolding transition_items last_tick
same_tick signals end t [] ms all = refl
same_tick signals end t (p ∷ ps) ms all =
    let here = All-head (IsAtPosition signals) p ps all in
    let rest = same_tick signals end t ps ms (All-tail (IsAtPosition signals) p ps all) in
    grind (arith, eq-eqb, here, rest)

-- those at a later tick, before the end
inner_tick : (signals : List SignalContents) (end last t : ℕ) (positioned : List (ℕ × SignalContents))
    (ms : List Transition) (rest : List Item) → last < t → All (IsAtPosition signals) positioned
    → items_left signals end last ms ≡ rest → items_left signals end t ms ≡ rest
    → items_left signals end last (at_tick t positioned ++ ms) ≡ with_stamp false t (value_items t positioned) ++ rest
unfolding transition_items last_tick
inner_tick signals end last t [] ms rest later all still now = still
inner_tick signals end last t (p ∷ ps) ms rest later all still now =
    let here = All-head (IsAtPosition signals) p ps all in
    let more = same_tick signals end t ps ms (All-tail (IsAtPosition signals) p ps all) in
    grind (arith, ne_eqb, here, more)

-- and at the end
end_tick : (signals : List SignalContents) (last t : ℕ) (positioned : List (ℕ × SignalContents)) → last < t
    → All (IsAtPosition signals) positioned
    → items_left signals t last (at_tick t positioned ++ []) ≡ with_stamp true t (value_items t positioned) ++ []
unfolding transition_items last_tick
end_tick signals last t [] later all = grind (arith, ne_eqb)
end_tick signals last t (p ∷ ps) later all =
    let here = All-head (IsAtPosition signals) p ps all in
    let more = same_tick signals t t ps [] (All-tail (IsAtPosition signals) p ps all) in
    grind (arith, ne_eqb, eq-eqb, here, more)

-- ---- all ticks

ticks_left : (signals : List SignalContents) (n end last t : ℕ) → last < t → t + n ≡ end
    → items_left signals end last (transitions_from 0 signals t (suc n)) ≡ items_of_ticks signals end t (suc n)
unfolding transitions_from items_of_ticks
ticks_left signals zero end last t later at =
    let here : t ≡ end = omega arith in
    let stamp = eq-eqb t end here in
    grind (arith, here, stamp, end_tick, all_differing)
ticks_left signals (suc n) end last t later at =
    let stamp = ne_eqb t end (omega arith) in
    inner_tick signals end last t (differing signals t) (transitions_from 0 signals (suc t) (suc n)) _ later
    (all_differing signals t) (ticks_left signals n end last (suc t) (omega arith) (omega arith))
    (ticks_left signals n end t (suc t) (omega arith) (omega arith))
    ∙ ap (λ b. with_stamp b t (value_items t (differing signals t)) ++ items_of_ticks signals end (suc t) (suc n))
    (sym stamp)

ticks_from_one : (signals : List SignalContents) (end : ℕ)
    → items_left signals end 0 (transitions_from 0 signals 1 end) ≡ items_of_ticks signals end 1 end
unfolding transitions_from items_of_ticks transition_items last_tick
ticks_from_one signals zero = refl
ticks_from_one signals (suc n) = ticks_left signals n (suc n) 0 1 (omega arith) (omega arith)

-- the lines of all ticks past 0
pub all_left : (signals : List SignalContents) (end : ℕ)
    → flat_map item_line (items_left signals end 0 (transitions_from 0 signals 1 (end + 1 - 1)))
    ≡ flat_map item_line (items_of_ticks signals end 1 end)
all_left signals end = grind (arith, ticks_from_one)

-- ---- windows one after another

transitions_split : (j : ℕ) (signals : List SignalContents) (t n m : ℕ)
    → transitions_from j signals t (n + m) ≡ transitions_from j signals t n ++ transitions_from j signals (t + n) m
unfolding transitions_from
transitions_split j signals t zero m = grind arith
transitions_split j signals t (suc n) m =
    let there : suc t + n ≡ t + suc n = omega arith in
    let sum : suc n + m ≡ suc (n + m) = omega arith in
    let rest = transitions_split j signals (suc t) n m in
    grind (arith, there, sum, rest, append_assoc)

items_split : (signals : List SignalContents) (end last : ℕ) (ms later : List Transition)
    → items_left signals end last (ms ++ later) ≡ transition_items signals last ms
    ++ items_left signals end (last_tick last ms) later
unfolding transition_items last_tick
items_split signals end last [] later = refl
items_split signals end last (m ∷ ms) later = grind (arith, append_assoc, items_split signals end m.tick ms later)

-- the lines of a window, and those of the ticks after it
pub window_written : (signals : List SignalContents) (end last next from count : ℕ) (ms : List Transition)
    → ms ≡ transitions_from 0 signals from count → next ≡ last_tick last ms → from + count ≤ end + 1
    → flat_map item_line (items_left signals end last (transitions_from 0 signals from (end + 1 - from)))
    ≡ flat_map item_line (transition_items signals last ms) ++ flat_map item_line
    (items_left signals end next (transitions_from 0 signals (from + count) (end + 1 - (from + count))))
window_written signals end last next from count ms all at within =
    let left : ℕ = end + 1 - (from + count) in
    let sum : end + 1 - from ≡ count + left = omega arith in
    let parts = transitions_split 0 signals from count left in
    let items = items_split signals end last ms (transitions_from 0 signals (from + count) left) in
    grind (arith, sum, parts, items, flat_map-append)

-- only the end is left
pub end_left : (signals : List SignalContents) (end last from : ℕ) → end < from
    → flat_map item_line (items_left signals end last (transitions_from 0 signals from (end + 1 - from)))
    ≡ flat_map item_line (new_stamp last end) ++ []
unfolding transition_items transitions_from last_tick
end_left signals end last from past = grind (arith, append-nil)

pub ruleset first_steps = (prefix_begun, all_left)
