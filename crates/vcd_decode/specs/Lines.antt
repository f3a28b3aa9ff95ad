-- A line of one bit as a function of the tick, and annotations: shared by the three decoders.
use Rattle.std.specs.Prelude.{ℕ, zero, suc, ◌+◌, ◌*◌, ◌||◌, Bool, true, false, not, List, ◌∷◌, []}
use Rattle.std.specs.Prelude.{if◌then◌else◌}
use Rattle.vcd_core.specs.declared.bit.Bit.{Bit}
use Rattle.vcd_core.specs.declared.bit.Bit.TheVariants.{Zero, One, X}
use Rattle.vcd_decode.specs.declared.annotation.Annotation.{Annotation}
use Rattle.vcd_decode.specs.declared.annotation.Kind.{Kind}

-- the letter of a line just before a tick: x before tick 0
abbrev pub letter_before : (ℕ → Bit) → ℕ → Bit
letter_before f zero = X
letter_before f (suc t) = f t

-- whether a letter is 0
abbrev pub is_zero : Bit → Bool
is_zero Zero = true
is_zero b = false

-- whether a letter is 1
abbrev pub is_one : Bit → Bool
is_one One = true
is_one b = false

-- whether a letter is x or z
abbrev pub is_unclear : Bit → Bool
is_unclear b = not (is_zero b || is_one b)

-- the number that letters give, least significant first
abbrev pub number_from_letters : List Bit → ℕ
number_from_letters [] = 0
number_from_letters (b ∷ bs) = (if is_one b then 1 else 0) + 2 * number_from_letters bs

-- an annotation: from the tick `start` to the tick `end`, both included
abbrev pub annotation : ℕ → ℕ → Kind → Annotation
annotation start end kind = record { start = start; end = end; kind = kind }
