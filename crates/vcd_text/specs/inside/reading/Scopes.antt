-- The scopes of the parser, in chains: each scope is in the one before it.
use Rattle.std.specs.Prelude.{◌≡◌, ◌<◌, ◌≤◌, List, length, take}
use Rattle.vcd_core.specs.declared.capture.ScopeName.{ScopeName}
use Rattle.vcd_text.specs.declared.reading.scopes.ScopePlace.{ScopePlace}
use Rattle.vcd_text.specs.declared.reading.scopes.Scopes.{Scopes}
use Rattle.vcd_text.specs.inside.reading.Chains.{chain_at, chains_of}

-- the open scopes, outermost first
abbrev pub open_scopes : Scopes → List ScopeName
open_scopes s = take s.depth s.chain.items

-- the place is in one of these chains
pub record IsWithin (chains : List (List ScopeName)) (p : ScopePlace) : Type 0 where
  pub chain : p.chain < length chains
  pub count : p.count ≤ length (chain_at chains p.chain)

-- the place has these scopes, and the last chain is not cut below it
pub record IsPlaced (s : Scopes) (p : ScopePlace) (scopes : List ScopeName) : Type 0 where
  pub within : IsWithin (chains_of s) p
  pub reached : p.chain ≡ length s.chains.items → p.count ≤ s.reach
  pub scopes_are : take p.count (chain_at (chains_of s) p.chain) ≡ scopes

-- each place keeps its scopes
abbrev pub KeepsPlaces : (old new : Scopes) → Type 0
KeepsPlaces old new = (p : ScopePlace) (scopes : List ScopeName) → IsPlaced old p scopes
    → IsPlaced new p scopes
