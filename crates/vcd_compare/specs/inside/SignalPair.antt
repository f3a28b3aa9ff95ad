-- A pair of variables, as contracts see it.
use Rattle.std.specs.Prelude.{ℕ, List}
use Rattle.vcd_core.specs.declared.bit.Bit.{Bit}
use Rattle.vcd_compare.specs.declared.wave_pair.WavePair.{WavePair}

-- two waves, of letters or of words
pub data PairWaves : Type 0 where
  letters : WavePair (List Bit) → PairWaves
  words : WavePair (List ℕ) → PairWaves

-- two variables that are compared: their positions, the first variable with the code of each, the
-- width of both, and their waves
pub record PairContents : Type 0 where
  pub first : ℕ
  pub second : ℕ
  pub first_variable : ℕ
  pub second_variable : ℕ
  pub width : ℕ
  pub waves : PairWaves
