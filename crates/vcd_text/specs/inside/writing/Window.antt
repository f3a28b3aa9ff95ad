-- A window of ticks, and the keys of the changes in it.
use Rattle.std.specs.Prelude.{◌≡◌, ◌<◌, ◌≤◌, ◌+◌, ◌/◌, ◌%◌, ℕ, List, length, map, All, vec_capacity}
use Rattle.vcd_core.specs.CaptureContents.{signal_contents}
use Rattle.vcd_core.specs.Sound.{IsSoundSignal}
use Rattle.vcd_core.specs.declared.capture.Signal.{Signal}
use Rattle.vcd_core.specs.declared.capture.TheConstants.{END_LIMIT, SIGNAL_LIMIT}
use Rattle.vcd_text.specs.declared.writing.window.Window.{Window}
use Rattle.vcd_text.specs.declared.writing.window.TheConstants.{POSITIONS}
use Rattle.vcd_text.specs.inside.writing.Cursors.{AreNext}
use Rattle.vcd_text.specs.inside.writing.Transitions.{Transition, transition_of}

-- the transition of a key in the window from a tick on: the ticks after it, then the position
abbrev pub transition_of_key : ℕ → ℕ → Transition
transition_of_key from key = transition_of (from + key / POSITIONS) (key % POSITIONS)

-- the transitions of keys
abbrev pub transitions_of : ℕ → List ℕ → List Transition
transitions_of from keys = map (transition_of_key from) keys

-- a key of one of this number of signals
pub record IsKey (from count key : ℕ) : Type 0 where
  pub position : key % POSITIONS < count
  pub tick : from + key / POSITIONS ≤ END_LIMIT

-- a window that can be filled with the ticks from a tick on
pub record IsReady (end from : ℕ) (signals : List Signal) (window : Window) : Type 0 where
  pub few : length signals ≤ SIGNAL_LIMIT
  pub sound : All (IsSoundSignal end) (map signal_contents signals)
  pub some : 1 ≤ from
  pub room : length signals ≤ vec_capacity window.keys
  pub next : AreNext from signals window.cursors.items
  pub start_cursors : length window.start_cursors.items ≡ length signals
