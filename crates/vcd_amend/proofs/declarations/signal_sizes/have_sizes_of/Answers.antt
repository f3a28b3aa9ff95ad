use Rattle.std.proofs.Common.{◌≡◌, ◌+◌, ◌<◌, ◌↔◌, ℕ, List, ◌∷◌, map, drop, get_or, length, sym, subst, ◌∙◌}
use Rattle.std.proofs.Common.{add-one, drop-cons}
use Rattle.vcd_core.specs.CaptureContents.{signal_contents}
use Rattle.vcd_core.specs.declared.capture.Signal.{Signal}
use Rattle.vcd_amend.specs.DeclaredVariables.{declaration_of_variable, HaveSizesOf}
use Rattle.vcd_amend.specs.declared.declarations.DeclaredVariable.{DeclaredVariable}
use Rattle.vcd_amend.proofs.declarations.signal_sizes.have_sizes_of.Goals as goal

one_more : (vs : List DeclaredVariable) (v : DeclaredVariable) (i : ℕ) → i < length vs → v ≡ get_or vs i v
    → drop i vs ≡ v ∷ drop (i + 1) vs
one_more vs v i within is = drop-cons vs i v within ∙ λ k. sym is k ∷ drop (sym (add-one i) k) vs

-- with the next variable, of all that are left
with_next : (vs : List DeclaredVariable) (v : DeclaredVariable) (i : ℕ) (all left : List Signal) → i < length vs
    → v ≡ get_or vs i v
    → HaveSizesOf (map signal_contents all) (map declaration_of_variable vs)
    ↔ HaveSizesOf (map signal_contents left) (map declaration_of_variable (drop i vs))
    → HaveSizesOf (map signal_contents all) (map declaration_of_variable vs)
    ↔ HaveSizesOf (map signal_contents left)
    (declaration_of_variable v ∷ map declaration_of_variable (drop (i + 1) vs))
with_next vs v i all left within is =
    subst (λ (ws : List DeclaredVariable). HaveSizesOf (map signal_contents all) (map declaration_of_variable vs)
    ↔ HaveSizesOf (map signal_contents left) (map declaration_of_variable ws)) (one_more vs v i within is)

pub returns-in-None-clause-others : goal.returns-in-None-clause-others
returns-in-None-clause-others c = λ _ have.
    c.in-None.ensures (map declaration_of_variable (drop (c.loop-variable.variable-index + 1) c.args.variables.now))
    ((with_next c.args.variables.now c.variable-item.result c.loop-variable.variable-index c.args.signals.now
    c.loop-variable.left.now c.loop-variable-test.true c.variable-item.is c.loop-variable.invariant).0 have)

pub loop-variable-preserved : goal.loop-variable-preserved
loop-variable-preserved c =
    let whole = with_next c.args.variables.now c.variable-item.result c.loop-variable.variable-index
    c.args.signals.now c.loop-variable.left.now c.loop-variable-test.true c.variable-item.is
    c.loop-variable.invariant in
    let next = c.in-Some.ensures (map declaration_of_variable
    (drop (c.loop-variable.variable-index + 1) c.args.variables.now)) in
    (λ have. next.0 (whole.0 have), λ have. whole.1 (next.1 have))
