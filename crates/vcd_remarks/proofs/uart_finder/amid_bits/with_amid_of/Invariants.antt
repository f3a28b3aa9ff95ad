-- With the ticks that are left all are found.
use Rattle.std.proofs.Common.{◌≡◌, drop}
use Rattle.std.specs.List.{filter}
use Rattle.vcd_remarks.specs.UartEdges.{is_amid_bit_of}
use Rattle.vcd_remarks.specs.inside.FoundTicks.{with_ticks}
use Rattle.vcd_remarks.proofs.uart_finder.amid_bits.with_amid_of.Given as goal

abbrev pub invariant-loop-index : goal.invariant-loop-index
invariant-loop-index l =
    with_ticks l.found (filter (λ t. is_amid_bit_of l.setup t l.frame) (drop l.index l.held.items))
    ≡ with_ticks l.fn.found (filter (λ t. is_amid_bit_of l.setup t l.frame) l.held.items)
