-- The places of variables, as a scope is opened.
use Rattle.std.proofs.Common.{◌≡◌, ℕ, List, [], ◌∷◌, ◌++◌, length, arith, refl}
use Rattle.std.proofs.lemmas.Bool.{cases_lt}
use Rattle.std.proofs.lemmas.List.{length_push, take-append-le, get_or_append_left}
use Rattle.std.proofs.Math.Seq.{get_or-append_seam}
use Rattle.vcd_core.specs.declared.capture.ScopeName.{ScopeName}
use Rattle.vcd_text.specs.inside.reading.Chains.{chain_at}
use Rattle.vcd_text.specs.inside.reading.Scopes.{KeepsPlaces}
use Rattle.vcd_text.specs.declared.reading.scopes.Scopes.{Scopes}
use Rattle.vcd_text.proofs.reading.scopes.Scopes.enter.Goals as goal

last_chain : (cs : List (List ScopeName)) (c : List ScopeName) (k : ℕ) → k ≡ length cs → chain_at (cs ++ c ∷ []) k ≡ c
last_chain cs c k is = grind (arith, get_or-append_seam)

-- a scope more at the end of the last chain
scope_pushed : (old new : Scopes) (s : ScopeName) → new.chains.items ≡ old.chains.items
    → new.chain.items ≡ old.chain.items ++ s ∷ [] → new.reach ≡ old.reach → KeepsPlaces old new
scope_pushed old new s chains chain reach p scopes h =
    let place = cases_lt p.chain (length old.chains.items) in
    grind (arith, place, get_or_append_left, length_push, last_chain, take-append-le)

pub returns-clause-places : goal.returns-clause-places
returns-clause-places c = λ p scopes h. scope_pushed c.go_to_end.new.self _ c.args.scope refl c.in_ok-push.ensures.items
    refl p scopes (c.in_ok-go_to_end.ensures.places p scopes h)
