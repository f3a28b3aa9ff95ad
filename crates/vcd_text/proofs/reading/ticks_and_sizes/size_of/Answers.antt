-- Decimal numbers up to a greatest one.
use Rattle.std.proofs.Common.{arith, ◌≡◌, ℕ, min, true, false, List, Option, MatchOption, ◌+◌}
use Rattle.vcd_core.specs.Decimal.{is_number, number_of}
use Rattle.vcd_core.specs.BoundedNumber.{number_up_to}
use Rattle.vcd_core.specs.declared.value.TheConstants.{WIDTH_LIMIT}
use Rattle.vcd_text.proofs.reading.ticks_and_sizes.size_of.Goals as goal

-- the result is a number if there is one, and none if there is none
number_cases : (text : List ℕ) (most : ℕ) (r : Option ℕ) → r ≡ number_up_to text most
    → MatchOption r (is_number text ≡ false) (λ n. (is_number text ≡ true) × (n ≡ min (number_of text) most))
number_cases text most r is = grind arith

pub returns : goal.returns
returns c = number_cases c.args.digits.now (WIDTH_LIMIT + 1) _ c.number_up_to.ensures
