-- The scopes so far are appended.
use Rattle.std.proofs.Common.{◌≡◌, ◌++◌, ◌∷◌, take}
use Rattle.std.specs.List.{flat_map}
use Rattle.vcd_core.specs.Names.{scope_text}
use Rattle.vcd_part.proofs.scope_paths.append_inner.Given as goal

abbrev pub invariant-loop-scope : goal.invariant-loop-scope
invariant-loop-scope l = l.path.items
    ≡ l.initial.path.items ++ flat_map (λ scope. 46 ∷ scope_text scope) (take l.scope-index l.scopes)
