-- The view that contracts have of a wave.
use Rattle.std.specs.Prelude.{ℕ, Bool, List}
use Rattle.vcd_core.specs.declared.wave.Change.{Change}

-- a wave as contracts see it: its width in bits, its changes, whether it shares their list with
-- other waves, and the capacity of its own list
pub record WaveView : Type 0 where
  pub width : ℕ
  pub changes : List Change
  pub is_shared : Bool
  pub capacity : ℕ
