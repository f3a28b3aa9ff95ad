-- Runs under each power of two that is greater than their ticks, as the code notes them.
use Rattle.std.specs.Prelude.{ℕ, zero, suc, ◌+◌, ◌-◌, ◌^◌, nat_lt, min, Bool, get_or, List, []}
use Rattle.std.specs.Prelude.{replicate}
use Rattle.vcd_remarks.specs.declared.clock_runs.runs_below.RunsBelow.{RunsBelow}
use Rattle.vcd_remarks.specs.declared.findings.found_ticks.FoundTicks.{FoundTicks}
use Rattle.vcd_remarks.specs.declared.findings.found_ticks.TheConstants.{SHOWN_TICKS}
use Rattle.vcd_remarks.specs.FoundTicks.{first_ticks}

-- whether so many ticks are fewer than 2 ^ power
abbrev pub is_below : (ticks power : ℕ) → Bool
is_below ticks power = nat_lt ticks (2 ^ power)

-- how many runs have fewer than so many bits, given how many have each, as far as a `u64` goes
unfoldable pub count_to : (of_bits : List ℕ) → (bits : ℕ) → ℕ
count_to of_bits zero = 0
count_to of_bits (suc bits) = min (count_to of_bits bits + get_or of_bits bits 0) (2 ^ 64 - 1)

-- those below a power, by how many have so many bits and the first ticks below each power
abbrev pub found_below : (of_bits : List ℕ) → (first : List (List ℕ)) → (power : ℕ) → FoundTicks
found_below of_bits first power =
    record { count = count_to of_bits (power + 1); first = get_or first power [] }

abbrev pub at_power : RunsBelow → (power : ℕ) → FoundTicks
at_power runs power = found_below runs.of_bits runs.first power

-- no run
abbrev pub none_below : RunsBelow
none_below =
    record { of_bits = replicate 65 0; first = replicate 65 (first_ticks SHOWN_TICKS []) }
