-- The result of making a setup.
use Rattle.std.specs.Prelude.{ℕ, ◌≡◌, ◌≤◌, ◌*◌, Option, Some, None, Result, MatchResult}
use Rattle.vcd_decode.specs.declared.uart_setup.TheConstants.{RATIO_LIMIT}
use Rattle.vcd_decode.specs.declared.setup_error.SetupError.{SetupError}

-- the result of making a setup, by its fault
abbrev pub SetupFaultIs : {T : Type 0} → Result T SetupError → Option SetupError → Type 0
SetupFaultIs answer found = MatchResult answer (λ _. found ≡ None) (λ fault. found ≡ Some fault)

-- the numbers of a setup without a fault
abbrev pub IsUartSetup : ℕ → ℕ → ℕ → ℕ → Type 0
IsUartSetup numerator denominator data_bits stop_bits =
    (numerator ≤ RATIO_LIMIT) × (1 ≤ denominator) × (denominator ≤ RATIO_LIMIT)
    × (2 * denominator ≤ numerator)
    × (5 ≤ data_bits) × (data_bits ≤ 9) × (1 ≤ stop_bits) × (stop_bits ≤ 2)
