-- The end of a list of changes: the value after all, and a push at the end.
use Rattle.std.specs.Prelude.{ℕ, if◌then◌else◌, nat_lt, List, [], ◌∷◌, ◌++◌, take_while}
use Rattle.vcd_core.specs.declared.bit.Bit.{Bit}
use Rattle.vcd_core.specs.declared.wave.Change.{Change}
use Rattle.vcd_core.specs.Value.{all_x, same_letters}
use Rattle.vcd_core.specs.Wave.{change}

-- the value after all changes
unfoldable pub last_value : List Bit → List Change → List Bit
last_value before [] = before
last_value before (c ∷ cs) = last_value c.value cs

-- the changes before a tick
abbrev pub changes_before : ℕ → List Change → List Change
changes_before tick changes = take_while (λ c. nat_lt c.tick tick) changes

-- the list after a push at its end: the value is added if it differs from the one before it
unfoldable pub changes_after_push : ℕ → List Change → ℕ → List Bit → List Change
changes_after_push width changes tick value =
    let kept = changes_before tick changes in
    if same_letters value (last_value (all_x width) kept) then kept
    else kept ++ change tick value ∷ []
