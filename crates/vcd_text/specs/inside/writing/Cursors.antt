-- The next change of each signal from a tick on.
use Rattle.std.specs.Prelude.{◌≡◌, ◌<◌, ◌≤◌, ◌+◌, ◌-◌, ◌^◌, ℕ, List, length, map, take}
use Rattle.std.specs.Prelude.{slice_index_or, All}
use Rattle.vcd_core.specs.declared.capture.Signal.{Signal}
use Rattle.vcd_core.specs.declared.wave.Change.{Change}
use Rattle.vcd_text.specs.declared.writing.cursors.Cursor.{Cursor}

-- the tick of the change at an index, past all ticks if there is none
abbrev pub tick_at : List Change → ℕ → ℕ
tick_at changes index = slice_index_or (map (λ c. c.tick) changes) index (2 ^ 64 - 1)

-- `next` is at or after `from`; all changes before it are before `to`
pub record IsNext (from to : ℕ) (changes : List Change) (next : Cursor) : Type 0 where
  pub passed : All (λ c. c.tick < to) (take next.index changes)
  pub not_earlier : from ≤ next.tick
  pub tick : next.tick ≡ tick_at changes next.index
  pub following_tick : next.following_tick ≡ tick_at changes (next.index + 1)

-- each signal has its next change
pub record AreNext (from : ℕ) (signals : List Signal) (cursors : List Cursor) : Type 0 where
  pub all : length cursors ≡ length signals
  pub each : (k : ℕ) (s : Signal) (n : Cursor) → k < length signals
      → IsNext from from (slice_index_or signals k s).wave.changes (slice_index_or cursors k n)
