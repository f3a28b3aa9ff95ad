-- Tests one after another, and the fault of the first that fails: the project's own.
use Rattle.std.specs.Prelude.{Bool, if◌then◌else◌, List, [], ◌∷◌, Option, Some, None}

-- a test: whether it holds, and the fault if it does not
pub record Test (E : Type 0) : Type 0 where
  pub fault : E
  pub holds : Bool

-- a test: the first operand is its fault, unless the second holds
infix 5 ◌unless◌
abbrev pub ◌unless◌ : {E : Type 0} → E → Bool → Test E
fault unless holds = record { fault = fault; holds = holds }

-- the fault of the first test that fails
abbrev pub first_fault : {E : Type 0} → List (Test E) → Option E
first_fault [] = None
first_fault (test ∷ tests) = if test.holds then first_fault tests else Some test.fault
