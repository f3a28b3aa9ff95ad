use Rattle.std.proofs.Common.{◌≡◌, ◌++◌, ◌∷◌, ◌∙◌, arith}
use Rattle.std.proofs.lemmas.List.{append_assoc}
use Rattle.vcd_text.proofs.reading.variables.SignalsOfVariables.{next_finishes, finished, own_position}
use Rattle.vcd_text.proofs.reading.variables.Variables.finished_signals.Goals as goal

pub push_signal-requires : goal.push_signal-requires
push_signal-requires c =
    let (state, k) = c.requires.known in
    let all : c.args.self.kept.items ≡ c.loop-variable.yielded ++ c.in-Some.variable ∷ c.next.new.self.rest.items =
    grind arith in
    rw (c.deref.ensures.value ∙ c.in_ok-chains.ensures)
    (own_position c.args.self state c.loop-variable.yielded _ c.in-Some.variable k all).within

pub loop-variable-preserved : goal.loop-variable-preserved
loop-variable-preserved c = grind (arith, append_assoc, next_finishes)

pub returns : goal.returns
returns c = λ state k. finished c.args.self state c.loop-variable.yielded c.loop-variable.variable-iterator.rest.items
    c.loop-variable.signals.items k c.loop-variable.invariant.0
    (omega (arith, c.in-None.ensures.steps.0, c.loop-variable.variable-iterator.rest.ok.0))
    (c.loop-variable.invariant.1 state k)
