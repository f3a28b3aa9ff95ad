use Rattle.std.proofs.Common.{[], ◌∷◌}
use Rattle.vcd_remarks.specs.inside.BusFindings.{with_events}
use Rattle.vcd_remarks.specs.inside.FoundTicks.{with_ticks}
use Rattle.vcd_remarks.proofs.bus_finder.BusFinder.findings.Goals as goal

pub returns : goal.returns
unfolding with_events with_ticks
returns c = λ i. c.of_kind.ensures i ∷ c.of_kind-2.ensures i ∷ c.of_kind-3.ensures i ∷ c.of_kind-4.ensures i
    ∷ c.of_kind-5.ensures i ∷ c.of_kind-6.ensures i ∷ []
