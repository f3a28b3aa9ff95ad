use Rattle.std.proofs.Common.{◌≡◌, true, take}
use Rattle.std.specs.List.{list_all}
use Rattle.std.specs.Char.{is_ascii_digit}
use Rattle.vcd_core.specs.Decimal.{number_of}
use Rattle.vcd_core.proofs.decimal.short_number.Given as goal

abbrev pub invariant-loop-byte : goal.invariant-loop-byte
invariant-loop-byte l =
    (list_all is_ascii_digit (take l.byte-index l.text) ≡ true) × (l.number ≡ number_of (take l.byte-index l.text))
