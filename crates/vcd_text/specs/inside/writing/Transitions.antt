-- The changes in a window of ticks, in two orders: by tick, as in the text, and signal by signal,
-- as in waves.
use Rattle.std.specs.Prelude.{ℕ, zero, suc, ◌+◌, ◌==◌, if◌then◌else◌, List, [], ◌∷◌, ◌++◌, map}
use Rattle.std.specs.Prelude.{◌&&◌, Bool, nat_le}
use Rattle.std.specs.Prelude.{nat_lt, slice_index_or}
use Rattle.std.specs.List.{filter, enumerate_from}
use Rattle.std.specs.Prelude.{decimal}
use Rattle.vcd_core.specs.declared.bit.Bit.{Bit}
use Rattle.vcd_core.specs.declared.wave.Change.{Change}
use Rattle.vcd_core.specs.Contents.{SignalContents, no_signal, signal_value}
use Rattle.vcd_text.specs.Items.{Item, stamp}
use Rattle.vcd_text.specs.Text.{code_of, differs_at, tick_items, value_item}

-- a signal changes at a tick
pub record Transition : Type 0 where
  pub tick : ℕ
  pub position : ℕ

-- the signal at this position changes at this tick
abbrev pub transition_of : ℕ → ℕ → Transition
transition_of tick position = record { tick = tick; position = position }

-- the signals that differ at a tick from the tick before, each with its position, in order
abbrev pub transitions_at : ℕ → List (ℕ × SignalContents) → List Transition
transitions_at t positioned = map (λ p. transition_of t p.0) (filter (λ p. differs_at t p.1)
    positioned)

-- the signals that differ, the first at this position, at n ticks from t on
unfoldable pub transitions_from : ℕ → List SignalContents → ℕ → ℕ → List Transition
transitions_from position signals t zero = []
transitions_from position signals t (suc n) =
    transitions_at t (enumerate_from position signals)
    ++ transitions_from position signals (suc t) n

-- whether a tick is in a window of ticks: from the first to before the other
abbrev pub is_in_window : ℕ → ℕ → ℕ → Bool
is_in_window from to t = nat_le from t && nat_lt t to

-- the changes in a window of the signal at a position
abbrev pub window_of_signal : ℕ → ℕ → ℕ → List Change → List Transition
window_of_signal from to position changes =
    map (λ c. transition_of c.tick position) (filter (λ c. is_in_window from to c.tick) changes)

-- the changes in a window of signals, the first at this position, signal by signal
unfoldable pub unsorted_window : ℕ → ℕ → ℕ → List SignalContents → List Transition
unsorted_window from to position [] = []
unsorted_window from to position (s ∷ ss) =
    window_of_signal from to position s.changes ++ unsorted_window from to (position + 1) ss

-- the value that a signal changes to
abbrev pub transition_value : List SignalContents → Transition → List Bit
transition_value signals m = signal_value (slice_index_or signals m.position no_signal) m.tick

-- the stamp of a tick
abbrev pub stamp_of : ℕ → Item
stamp_of t = stamp (decimal t)

-- the values that differ at each of n ticks, from t on
unfoldable pub items_of_ticks : List SignalContents → (end : ℕ) → ℕ → ℕ → List Item
items_of_ticks signals end t zero = []
items_of_ticks signals end t (suc n) =
    tick_items signals end t ++ items_of_ticks signals end (suc t) n

-- the stamp of a tick, if it differs from the one before
abbrev pub new_stamp : ℕ → ℕ → List Item
new_stamp last tick = if tick == last then [] else stamp_of tick ∷ []

-- transitions with their values and new stamps
unfoldable pub transition_items : List SignalContents → ℕ → List Transition → List Item
transition_items signals last [] = []
transition_items signals last (m ∷ ms) =
    new_stamp last m.tick
    ++ value_item (code_of m.position) (transition_value signals m)
    ∷ transition_items signals m.tick ms

-- the tick of the last of them, or the one before them
unfoldable pub last_tick : ℕ → List Transition → ℕ
last_tick last [] = last
last_tick last (m ∷ ms) = last_tick m.tick ms
