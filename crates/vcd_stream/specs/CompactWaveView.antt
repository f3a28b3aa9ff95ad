-- The view that contracts have of a compact wave.
use Rattle.std.specs.Prelude.{ℕ, List}
use Rattle.vcd_core.specs.declared.wave.Change.{Change}

-- a compact wave as contracts see it: its width in bits, and its changes
pub record CompactWaveView : Type 0 where
  pub width : ℕ
  pub changes : List Change
