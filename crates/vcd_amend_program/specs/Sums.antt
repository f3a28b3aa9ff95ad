-- The sums of the passes over a file: the project's own.
use Rattle.std.specs.Prelude.{◌≡◌, ◌≢◌, ◌⊎◌, ℕ}
use Rattle.vcd_amend_run.specs.declared.running.Passes.{Passes}
use Rattle.vcd_devices.specs.Sums.{HasSum, HasOtherSum}
use Rattle.vcd_devices.specs.declared.summed.Summed.{Summed}
use Rattle.vcd_amend_program.specs.declared.again.Readings.{Readings}
use Rattle.vcd_amend_program.specs.declared.again.Readings.TheVariants.{NoneBegun, OneSum, TwoSums}
use Rattle.vcd_amend_program.specs.declared.again.Readings.TheVariants.{Unread}
use Rattle.vcd_amend_program.specs.declared.again.SummedAgain.{SummedAgain}

-- all readings that were begun have this sum of the whole file
abbrev pub HaveSum : (sum : ℕ) → Readings → Type 0
HaveSum sum NoneBegun = Unit {0}
HaveSum sum (OneSum found) = found ≡ sum
HaveSum sum TwoSums = ⊥
HaveSum sum Unread = ⊥

-- one of the readings has another sum of the whole file
abbrev pub HaveOtherSum : (sum : ℕ) → Readings → Type 0
HaveOtherSum sum (OneSum found) = found ≢ sum
HaveOtherSum sum TwoSums = Unit {0}
HaveOtherSum sum readings = ⊥

-- all passes that were begun have one sum of the whole file
pub record HaveOneSum {S A : Type 0} (passes : Passes (Summed S) (SummedAgain A)) : Type 0 where
  pub declarations : HasSum passes.declarations.sum passes.declarations
  pub outline : HasSum passes.declarations.sum passes.outline
  pub changes : HasSum passes.declarations.sum passes.changes
  pub copy : HasSum passes.declarations.sum passes.copy
  pub again : HaveSum passes.declarations.sum passes.again.readings

-- one of the passes has another sum of the whole file than the first one
abbrev pub HaveTwoSums : {S A : Type 0} → Passes (Summed S) (SummedAgain A) → Type 0
HaveTwoSums passes = HasOtherSum passes.declarations.sum passes.outline
    ⊎ HasOtherSum passes.declarations.sum passes.changes
    ⊎ HasOtherSum passes.declarations.sum passes.copy
    ⊎ HaveOtherSum passes.declarations.sum passes.again.readings
