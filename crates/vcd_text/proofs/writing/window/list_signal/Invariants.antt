-- The keys of the changes before the next one are listed.
use Rattle.std.proofs.Common.{◌≡◌, ◌<◌, ◌≤◌, ◌-◌, ◌++◌, ℕ, length, drop, All, vec_capacity}
use Rattle.vcd_text.specs.inside.writing.Cursors.{IsNext}
use Rattle.vcd_text.specs.inside.writing.Transitions.{window_of_signal}
use Rattle.vcd_text.specs.inside.writing.Window.{IsKey, transitions_of}
use Rattle.vcd_text.proofs.writing.window.list_signal.Given as goal

abbrev pub invariant-loop-next : goal.invariant-loop-next
invariant-loop-next l =
    record {
      next : IsNext l.ticks.start l.ticks.end l.wave.changes l.next;
      all : transitions_of l.ticks.start l.keys.items
          ++ window_of_signal l.ticks.start l.ticks.end l.position (drop l.next.index l.wave.changes)
          ≡ transitions_of l.ticks.start l.initial.keys.items
          ++ window_of_signal l.ticks.start l.ticks.end l.position l.wave.changes;
      keys : (count : ℕ) → l.position < count → All (IsKey l.ticks.start count) l.initial.keys.items
          → All (IsKey l.ticks.start count) l.keys.items;
      room : vec_capacity l.initial.keys ≤ vec_capacity l.keys;
    }

abbrev pub decreases-loop-next : goal.decreases-loop-next
decreases-loop-next l = length l.wave.changes - l.next.index
