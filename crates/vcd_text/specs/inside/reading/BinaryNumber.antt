-- The value of a width that digits write, and the reasons why they write none.
use Rattle.std.specs.Prelude.{◌≡◌, ◌⊎◌, ℕ, ◌<◌, ◌≤◌, List, length, IsTrue, IsFalse}
use Rattle.vcd_core.specs.declared.bit.Bit.{Bit}
use Rattle.vcd_text.specs.Letters.{letters_of_digits, extension}
use Rattle.vcd_text.specs.inside.reading.DigitTests.{is_binary_number}
use Rattle.vcd_text.specs.declared.fault.Fault.{Fault}
use Rattle.vcd_text.specs.declared.fault.Fault.TheVariants as faults

-- the digits are binary digits, at most as many as the width, and the value is their extension
abbrev pub WritesValue : ℕ → List ℕ → List Bit → Type 0
WritesValue width digits value = IsTrue (is_binary_number digits) × (length digits ≤ width)
    × (value ≡ extension width (letters_of_digits digits))

-- a variable of this width refuses the digits: they are tested first, and then their number
abbrev pub RefusesBinaryNumber : (width : ℕ) → List ℕ → Fault → Type 0
RefusesBinaryNumber width digits fault =
    (IsFalse (is_binary_number digits) × (fault ≡ faults.BadChange))
    ⊎ (IsTrue (is_binary_number digits) × (width < length digits) × (fault ≡ faults.ValueTooLong))
