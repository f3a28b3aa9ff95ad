use Rattle.vcd_edit.proofs.exchange.reservations.coming_wave.Given as goal

abbrev pub invariant-loop-index : goal.invariant-loop-index
invariant-loop-index l = Unit {0}
