-- The changes that waves do not have yet, and the waves with these changes.
use Rattle.std.specs.Prelude.{◌≡◌, ℕ, ◌+◌, ◌%◌, ◌<◌, ◌≤◌, ◌==◌, if◌then◌else◌, nat_le, List, []}
use Rattle.std.specs.Prelude.{◌∷◌, ◌++◌, length, set}
use Rattle.std.specs.Prelude.{◌-◌, ◌^◌, ◌&&◌, min, max, slice_get, All, Some, false}
use Rattle.std.specs.List.{filter}
use Rattle.std.specs.Option.{option_map_or}
use Rattle.std.specs.Global.{Vec}
use Rattle.vcd_core.specs.declared.bit.Bit.{Bit}
use Rattle.vcd_core.specs.declared.wave.Change.{Change}
use Rattle.vcd_core.specs.Wave.{value_at}
use Rattle.vcd_core.specs.BlockRows.{letters_of}
use Rattle.vcd_text.specs.declared.reading.log.LoggedChange.{LoggedChange}
use Rattle.vcd_text.specs.declared.reading.log.ExpectedRoom.{ExpectedRoom}
use Rattle.vcd_text.specs.declared.reading.log.TheConstants.{GROUPS}
use Rattle.vcd_text.specs.declared.reading.variables.Variable.{Variable}

-- ---- the values

-- the letters that a change of the log gives a variable of this width
abbrev pub logged_letters : ℕ → LoggedChange → List Bit
logged_letters width e = letters_of width (e.block ∷ [])

-- the value at a tick, if these changes come after a value
abbrev pub value_after_changes : ℕ → ℕ → List Bit → List LoggedChange → List Bit
value_after_changes width t before [] = before
value_after_changes width t before (e ∷ es) =
    value_after_changes width t (if nat_le e.tick t then logged_letters width e else before) es

-- the ticks do not fall, from `floor` to `tick`
abbrev pub RisesTo : (floor tick : ℕ) → List LoggedChange → Type 0
RisesTo floor tick [] = floor ≤ tick
RisesTo floor tick (e ∷ es) = (floor ≤ e.tick) × RisesTo e.tick tick es

-- a wave followed by changes of the log has the values of f, and no change is past the tick
pub record GivesLoggedValues (width tick : ℕ) (f : ℕ → List Bit) (changes : List Change)
    (following : List LoggedChange) : Type 0 where
  pub floor : ℕ
  pub ticks : All (λ (c : Change). c.tick ≤ floor) changes
  pub rises : RisesTo floor tick following
  pub narrow : 0 < length following → width ≤ 64
  pub values : (t : ℕ) → value_after_changes width t (value_at width changes t) following ≡ f t

-- ---- groups

-- the changes of the variable at a position
abbrev pub changes_of_position : ℕ → List LoggedChange → List LoggedChange
changes_of_position position group = filter (λ (e : LoggedChange). e.position == position) group

-- the same for all groups
abbrev pub logged : List (Vec LoggedChange) → ℕ → List LoggedChange
logged [] position = []
logged (g ∷ gs) position = changes_of_position position g.items ++ logged gs position

-- each group has changes of positions with one remainder alone
abbrev pub AreGrouped : ℕ → List (Vec LoggedChange) → Type 0
AreGrouped index [] = Unit {0}
AreGrouped index (g ∷ gs) = All (λ (e : LoggedChange). e.position % GROUPS ≡ index) g.items
    × AreGrouped (index + 1) gs

-- ---- the changes that waves take from the log

-- a change of the log can be applied to its variable
pub record CanApplyLogged (kept : List Variable) (e : LoggedChange) : Type 0 where
  pub before : Variable
  pub at_position : slice_get kept e.position ≡ Some before
  pub narrow : before.wave.width ≤ 64
  pub none_later : All (λ (c : Change). c.tick ≤ e.tick) before.wave.changes

-- two variables are the same but for the changes of their waves
pub record IsSameVariable (old new : Variable) : Type 0 where
  pub place : new.place ≡ old.place
  pub kind : new.kind ≡ old.kind
  pub words : new.words ≡ old.words
  pub width : new.wave.width ≡ old.wave.width
  pub first : new.first ≡ old.first

-- the variable with a change of the log applied
pub record AppliesToVariable (e : LoggedChange) (old new : Variable) : Type 0 where
  pub same : IsSameVariable old new
  pub last : All (λ (c : Change). c.tick ≤ e.tick) new.wave.changes
  pub values : (t : ℕ) → value_at new.wave.width new.wave.changes t
      ≡ (if nat_le e.tick t then logged_letters old.wave.width e
      else value_at old.wave.width
      old.wave.changes t)

-- the variables with a change of the log applied to one
pub record AppliesLogged (e : LoggedChange) (old new : List Variable) : Type 0 where
  pub before : Variable
  pub after : Variable
  pub at_position : slice_get old e.position ≡ Some before
  pub takes : AppliesToVariable e before after
  pub others : new ≡ set old e.position after

-- ---- the room that waves get for the log

-- the expected room after one more change; a repeated block is not counted
abbrev pub room_with : ExpectedRoom → LoggedChange → ExpectedRoom
room_with h e = record {
  count = if h.last.low == e.block.low && h.last.high == e.block.high then h.count
      else min (h.count + 1) (2 ^ 64 - 1);
  last = e.block;
}

-- the variable with one more change in its expected room
abbrev pub counted_variable : Variable → LoggedChange → Variable
counted_variable v e = record v { expected_room = room_with v.expected_room e }

-- the variables with one more change in the expected room of its variable
abbrev pub counted : List Variable → LoggedChange → List Variable
counted vs e = option_map_or (λ (v : Variable). set vs e.position (counted_variable v e))
    (slice_get vs e.position) vs

-- a wave's own list gets just the room for as many changes as were counted, or keeps what it has
pub record HasExactRoom (old new : Variable) : Type 0 where
  pub exact : 1 ≤ old.expected_room.count → old.wave.is_shared ≡ false
      → new.wave.capacity
      ≡ max old.wave.capacity (length old.wave.changes + old.expected_room.count)
  pub kept : old.wave.is_shared ≡ false
      → length old.wave.changes + 1 ≤ old.wave.capacity
      → length old.wave.changes + old.expected_room.count ≤ old.wave.capacity
      → new.wave.capacity ≡ old.wave.capacity

-- ---- the variables with the changes of the log

-- the variables can take their changes of the log
abbrev pub CanMoveLog : List Variable → (ℕ → List LoggedChange) → Type 0
CanMoveLog kept log =
    (position : ℕ) → 0 < length (log position)
    → (v : Variable) × (slice_get kept position ≡ Some v) × (tick : ℕ) × (f : ℕ → List Bit)
    × GivesLoggedValues v.wave.width tick f v.wave.changes (log position)

-- the variable is the same, and its wave with the rest of the log has the same values
pub record MovesChanges (old new : Variable) (log rest : List LoggedChange) : Type 0 where
  pub same : IsSameVariable old new
  pub gives : (tick : ℕ) (f : ℕ → List Bit)
      → GivesLoggedValues old.wave.width tick f old.wave.changes log
      → GivesLoggedValues new.wave.width tick f new.wave.changes rest

-- the variables have taken the changes that are no longer in the log
pub record MovesLog (old new : List Variable) (log rest : ℕ → List LoggedChange) : Type 0 where
  pub long : length new ≡ length old
  pub each : (position : ℕ) (v : Variable) → slice_get old position ≡ Some v
      → (w : Variable) × (slice_get new position ≡ Some w)
      × MovesChanges v w (log position) (rest position)
