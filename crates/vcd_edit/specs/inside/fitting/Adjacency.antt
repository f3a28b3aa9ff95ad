-- When a list of changes may come after another.
use Rattle.std.specs.Prelude.{◌≡◌, ◌≢◌, ℤ, pos, ℕ, ◌+◌, ◌≤◌, List, [], ◌∷◌, length, drop}
use Rattle.vcd_core.specs.declared.bit.Bit.{Bit}
use Rattle.vcd_core.specs.declared.wave.Change.{Change}
use Rattle.vcd_core.specs.Value.{all_x}
use Rattle.vcd_core.specs.Wave.{IsWave, AllUpTo}
use Rattle.vcd_core.specs.WavePush.{last_value}
use Rattle.vcd_core.specs.Splice.{moved_change, TickFits, AllTicksFit}
use Rattle.vcd_edit.specs.RecordView.{PieceView}
use Rattle.vcd_edit.specs.AppliedRecords.{changes_with_piece}

-- the first free tick after a list
unfoldable pub floor_after : ℕ → List Change → ℕ
floor_after floor [] = floor
floor_after floor (c ∷ cs) = floor_after (c.tick + 1) cs

-- a change, moved by some ticks, may come after a value, at a tick from `floor` up to the end
pub record MayComeNext (by : ℤ) (end floor : ℕ) (before : List Bit) (c : Change) : Type 0 where
  pub fits : TickFits by c
  pub from : floor ≤ (moved_change by c).tick
  pub upto : (moved_change by c).tick ≤ end
  pub other : c.value ≢ before
  pub wide : length c.value ≡ length before

-- so may changes, one after another
unfoldable pub MayFollow : ℤ → ℕ → ℕ → List Bit → List Change → Type 0
MayFollow by end floor before [] = Unit {0}
MayFollow by end floor before (c ∷ cs) = MayComeNext by end floor before c
    × MayFollow by end ((moved_change by c).tick + 1) c.value cs

-- the first changes of a wave, then a list, then later changes that are moved, join to a wave up to
-- the end
abbrev pub JoinToWave : ℕ → ℕ → List Change → List Change → List Change → ℤ → Type 0
JoinToWave width end prefix list later by =
    let floor = floor_after 0 prefix in
    let before = last_value (all_x width) prefix in
    AllUpTo end prefix × MayFollow (pos 0) end floor before list
    × MayFollow by end (floor_after floor list) (last_value before list) later

-- what a record must hold to fit: the piece's range lies within the changes, and the result is a
-- wave up to the end
pub record IsValidPiece (width end : ℕ) (cs : List Change) (p : PieceView) : Type 0 where
  pub ordered : p.from ≤ p.to
  pub within : p.to ≤ length cs
  pub ticks : AllTicksFit p.by (drop p.to cs)
  pub form : IsWave width (changes_with_piece p cs)
  pub upto : AllUpTo end (changes_with_piece p cs)
