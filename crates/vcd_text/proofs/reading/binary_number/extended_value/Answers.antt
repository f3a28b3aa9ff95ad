use Rattle.std.proofs.Common.{◌≡◌, ◌-◌, [], ℕ, List, length, drop, ap, arith}
use Rattle.std.specs.List.{list_all}
use Rattle.std.proofs.lemmas.List.{drop_all}
use Rattle.vcd_text.specs.Letters.{is_binary_digit}
use Rattle.vcd_text.proofs.reading.binary_number.extended_value.Goals as goal

-- after the last digit there is none
none_after : (digits : List ℕ) → list_all is_binary_digit (drop (length digits - 0) digits)
    ≡ list_all is_binary_digit []
none_after digits = ap (list_all is_binary_digit) (drop_all (length digits - 0) digits (omega arith))

pub loop-k-init : goal.loop-k-init
loop-k-init c = grind (arith, none_after)
