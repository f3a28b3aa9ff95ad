use Rattle.std.proofs.Common.{map, sym, ap, ◌∙◌}
use Rattle.std.specs.Prelude.{slice_get}
use Rattle.vcd_text.proofs.reading.variables.SignalsOfVariables.{placed_variables, listed_signal, declared_as_undriven}
use Rattle.vcd_text.proofs.reading.variables.Variables.declared_signals.Goals as goal

pub invariant_of-result : goal.invariant_of-result
invariant_of-result c = let (d, k) = c.requires in record {
  placed = λ position v at. placed_variables c.args.self.now d k position v
      (ap (λ vs. slice_get vs position) (sym c.as_slice.ensures.value) ∙ at);
}

pub returns : goal.returns
returns c = λ d k. ap (map (listed_signal c.args.self.now)) c.as_slice.ensures.value
    ∙ declared_as_undriven c.args.self.now d k
