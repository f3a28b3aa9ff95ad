-- What a check of an edit answers, and why an edit may be refused, by its fault. The project's own.
use Rattle.std.specs.Prelude.{◌≡◌, ◌⊎◌, Option, Some, None, Result, MatchResult}
use Rattle.vcd_edit.specs.declared.fault.EditError.{EditError}
use Rattle.vcd_edit.specs.declared.fault.EditError.TheVariants.{NoMemory}

-- a check answers with the fault, or Ok if there is none
abbrev pub FaultIs : {T : Type 0} → Result T EditError → Option EditError → Type 0
FaultIs answer found =
    MatchResult answer (λ _. found ≡ None) (λ refusal. found ≡ Some refusal)

-- an edit is refused by its fault, or, without a fault, because memory runs out
abbrev pub MayRefuse : Option EditError → EditError → Type 0
MayRefuse found refusal = (found ≡ Some refusal) ⊎ ((found ≡ None) × (refusal ≡ NoMemory))
