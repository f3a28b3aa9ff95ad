-- The lists of scope paths.
use Rattle.std.specs.Prelude.{List}
use Rattle.vcd_core.specs.declared.capture.ScopeName.{ScopeName}
use Rattle.vcd_core.specs.declared.names.scope_path.ScopeList.{ScopeList}
use Rattle.vcd_core.specs.declared.names.scope_path.ScopeList.TheVariants.{Own, Shared}

-- the scopes of a list
abbrev pub scopes_of_list : ScopeList → List ScopeName
scopes_of_list (Own scopes) = scopes.items
scopes_of_list (Shared scopes) = scopes.items.value.items
