-- What a word of a line that decodes signals says, or the fault of the line: the project's own.
use Rattle.std.specs.Prelude.{ℕ, ◌+◌, ◌==◌, if◌then◌else◌, List, take, drop, Option, Some, None}
use Rattle.std.specs.Prelude.{Result, Ok, Err, codes}
use Rattle.std.specs.List.{position}
use Rattle.std.specs.Option.{option_map_or}
use Rattle.std.specs.Str.{bytes_eq}
use Rattle.vcd_core.specs.Contents.{Contents}
use Rattle.vcd_decode.specs.declared.setup_error.SetupError.{SetupError}
use Rattle.vcd_decode.specs.declared.spi_setup.BitOrder.{BitOrder}
use Rattle.vcd_decode.specs.declared.spi_setup.BitOrder.TheVariants.{Msb, Lsb}
use Rattle.vcd_decode.specs.declared.uart_setup.Parity.{Parity}
use Rattle.vcd_decode.specs.declared.uart_setup.Parity.TheVariants as parities
use Rattle.vcd_edit.specs.EditFaults.{is_scalar}
use Rattle.vcd_script.specs.declared.script.line_error.LineError.{LineError}
use Rattle.vcd_script.specs.declared.script.line_error.LineError.TheVariants.{BadOption, NotScalar}
use Rattle.vcd_script.specs.declared.script.line_error.LineError.TheVariants.{Setup}
use Rattle.vcd_script.specs.ScriptWords.{◌>>=◌, signal_of_name, number_of_word}

-- the numbers of a ratio, given the index of the first `/`; without one the second number is 1
abbrev pub ratio_at : List ℕ → Option ℕ → Result (ℕ × ℕ) LineError
ratio_at word None = do
  numerator ← number_of_word word
  Ok (numerator, 1)
ratio_at word (Some index) = do
  numerator ← number_of_word (take index word)
  denominator ← number_of_word (drop (index + 1) word)
  Ok (numerator, denominator)

-- the ratio that a word writes: `N/D`, or `N` without a `/` (47)
abbrev pub ratio_of_word : List ℕ → Result (ℕ × ℕ) LineError
ratio_of_word word = ratio_at word (position (λ b. b == 47) word)

-- the parity bit that a word names
abbrev pub parity_of_word : List ℕ → Result Parity LineError
parity_of_word word =
    if bytes_eq word (codes "none") then Ok parities.None
    else (if bytes_eq word (codes "even") then Ok parities.Even
    else (if bytes_eq word (codes "odd") then Ok parities.Odd
    else Err BadOption))

-- the order of bits that a word names
abbrev pub order_of_word : List ℕ → Result BitOrder LineError
order_of_word word =
    if bytes_eq word (codes "msb") then Ok Msb
    else (if bytes_eq word (codes "lsb") then Ok Lsb
    else Err BadOption)

-- the position of the signal that a word names; `-` means that the line is absent
abbrev pub signal_or_absent : Contents → List ℕ → Result (Option ℕ) LineError
signal_or_absent c word =
    if bytes_eq word (codes "-") then Ok None
    else (signal_of_name c word >>= λ k. Ok (Some k))

-- a decoder's signal, which must have one bit
abbrev pub one_bit_signal : Contents → ℕ → Result ℕ LineError
one_bit_signal c k = if is_scalar c k then Ok k else Err NotScalar

-- the same for a line that may be absent
abbrev pub one_bit_signal_or_absent : Contents → Option ℕ → Result (Option ℕ) LineError
one_bit_signal_or_absent c None = Ok None
one_bit_signal_or_absent c (Some k) = do
  there ← one_bit_signal c k
  Ok (Some there)

-- a setup, or the fault that this finds in it
abbrev pub faultless : {S : Type 0} → (S → Option SetupError) → S → Result S LineError
faultless fault_of setup = option_map_or (λ e. Err (Setup e)) (fault_of setup) (Ok setup)
