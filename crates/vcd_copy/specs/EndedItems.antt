-- An item that has ended, as an amender is given it.
use Rattle.std.specs.Prelude.{ℕ, List}
use Rattle.vcd_copy.specs.Pieces.{Piece}
use Rattle.vcd_copy.specs.Copied.{IsTakenNext}
use Rattle.vcd_copy.specs.declared.copying.amender.EndedItem.{EndedItem}

-- after these pieces comes this one, which is given so
abbrev pub IsGivenNext : (limit : ℕ) → (before : List Piece) → Piece → EndedItem → Type 0
IsGivenNext limit before p e =
    IsTakenNext limit before p e.item e.code.now e.scopes.now e.space.now e.body.now
