-- The changes of a function over a range of ticks.
use Rattle.std.specs.Prelude.{◌≡◌, ℕ, zero, suc, ◌≤◌, List, length, drop}
use Rattle.vcd_core.specs.declared.bit.Bit.{Bit}
use Rattle.vcd_core.specs.declared.wave.Change.{Change}
use Rattle.vcd_core.specs.Value.{all_x}
use Rattle.vcd_core.specs.Wave.{changes_from, changes_of}
use Rattle.vcd_core.specs.Splice.{AllTicksFit}
use Rattle.vcd_edit.specs.RecordView.{PieceView}
use Rattle.vcd_edit.specs.AppliedRecords.{changes_with_piece}

-- the value one tick earlier: all x before tick 0
abbrev pub value_just_before : ℕ → (ℕ → List Bit) → ℕ → List Bit
value_just_before width f zero = all_x width
value_just_before width f (suc t) = f t

-- the changes of f at n ticks from t on
abbrev pub changes_in : ℕ → (ℕ → List Bit) → ℕ → ℕ → List Change
changes_in width f t n = changes_from (value_just_before width f t) t n f

-- a piece that changes a list into the changes of f from tick 0 to `stop`
pub record GivesChanges (p : PieceView) (cs : List Change) (width stop : ℕ) (f : ℕ → List Bit)
    : Type 0 where
  pub ordered : p.from ≤ p.to
  pub within : p.to ≤ length cs
  pub ticks : AllTicksFit p.by (drop p.to cs)
  pub is : changes_with_piece p cs ≡ changes_of width stop f
