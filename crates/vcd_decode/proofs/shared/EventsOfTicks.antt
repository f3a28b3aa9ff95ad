-- The events on a bus are no more than the ticks.
use Rattle.std.proofs.Common.{ℕ, zero, suc, ◌+◌, ◌≤◌, Option, Some, None, List, length, arith}
use Rattle.std.specs.List.{filter_map, cons_option, range_with_len}
use Rattle.vcd_core.specs.declared.bit.Bit.{Bit}
use Rattle.vcd_decode.specs.BusEvents.{bus_event_at, bus_events}
use Rattle.vcd_decode.specs.declared.i2c_bus.events.BusEvent.{BusEvent}

one_more : (o : Option BusEvent) (es : List BusEvent) → length (cons_option o es) ≤ suc (length es)
one_more None es = omega arith
one_more (Some e) es = omega arith

events_of_ticks : (scl sda : ℕ → Bit) (t n : ℕ)
    → length (filter_map (bus_event_at scl sda) (range_with_len t n)) ≤ n
events_of_ticks scl sda t zero = omega arith
events_of_ticks scl sda t (suc n) = omega (
  arith,
  one_more (bus_event_at scl sda t) (filter_map (bus_event_at scl sda) (range_with_len (t + 1) n)),
  events_of_ticks scl sda (t + 1) n,
)

-- at tick 0 there is none
pub events_are_few : (scl sda : ℕ → Bit) (end : ℕ) → length (bus_events scl sda end) ≤ end
unfolding bus_events
events_are_few scl sda end = events_of_ticks scl sda 1 end
