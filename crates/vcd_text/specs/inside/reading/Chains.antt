-- The scopes that a file has opened so far, in chains: each scope is in the one before it.
use Rattle.std.specs.Prelude.{ℕ, List, [], ◌∷◌, ◌++◌, slice_index_or}
use Rattle.vcd_core.specs.declared.capture.ScopeName.{ScopeName}
use Rattle.vcd_text.specs.declared.reading.scopes.Scopes.{Scopes}

-- all chains, with that of the open scopes last
abbrev pub chains_of : Scopes → List (List ScopeName)
chains_of s = s.chains.items ++ s.chain.items ∷ []

-- the chain of this number
abbrev pub chain_at : List (List ScopeName) → ℕ → List ScopeName
chain_at chains k = slice_index_or chains k []
