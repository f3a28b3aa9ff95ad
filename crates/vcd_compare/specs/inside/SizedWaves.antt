-- Two waves in the room that their values need, alone and in a pair of variables.
use Rattle.std.specs.Prelude.{ℕ, ◌≤◌}
use Rattle.vcd_core.specs.declared.value.TheConstants.{WIDTH_LIMIT}
use Rattle.vcd_compare.specs.declared.sized_waves.SizedWaves.{SizedWaves}
use Rattle.vcd_compare.specs.declared.sized_waves.SizedWaves.TheVariants.{Narrow, Wide, Words}
use Rattle.vcd_compare.specs.declared.pairs.SignalPair.TheInside.{Inside}
use Rattle.vcd_compare.specs.inside.SignalPair.{PairContents, PairWaves, letters, words}

-- the two waves
abbrev pub waves_in : SizedWaves → PairWaves
waves_in (Narrow waves) = letters waves.value
waves_in (Wide waves) = letters waves.value
waves_in (Words waves) = words waves.value

-- they have room for values of this width; words need none
abbrev pub IsSized : (width : ℕ) → SizedWaves → Type 0
IsSized width (Narrow waves) = (1 ≤ width) × (width ≤ 64)
IsSized width (Wide waves) = (1 ≤ width) × (width ≤ WIDTH_LIMIT)
IsSized width (Words waves) = Unit {0}

-- a pair of variables, by its fields
abbrev pub view_pair : Inside → PairContents
view_pair p = record {
  first = p.first;
  second = p.second;
  first_variable = p.first_variable;
  second_variable = p.second_variable;
  width = p.width;
  waves = waves_in p.waves;
}

-- its waves have room for values of its width
pub record IsSizedPair (p : Inside) : Type 0 where
  pub sized : IsSized p.width p.waves
