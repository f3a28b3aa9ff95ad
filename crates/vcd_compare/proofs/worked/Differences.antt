-- Worked cases: two waves of one bit, and which of their differences stand.
use Rattle.std.proofs.Common.{◌≡◌, refl}
use Rattle.std.specs.Prelude.{ℕ, List, [], ◌∷◌, get_or}
use Rattle.vcd_core.specs.declared.bit.Bit.{Bit}
use Rattle.vcd_core.specs.declared.bit.Bit.TheVariants.{Zero, One, X}
use Rattle.vcd_core.specs.Value.{same_letters}
use Rattle.vcd_text.specs.declared.reading.choice.TickRange.{TickRange}
use Rattle.vcd_compare.specs.Differences.{WaveByTicks, ticks_between, differ_at, differences, standing}
use Rattle.vcd_compare.specs.Differences.{differences_from}

-- a wave of one bit, from tick 0 on
abbrev wave : List Bit → WaveByTicks (List Bit)
wave bits t = get_or bits t X ∷ []

-- an edge at 3 that comes at 5 in the other, and a pulse at 8 that the other has not
abbrev a : WaveByTicks (List Bit)
a = wave (Zero ∷ Zero ∷ Zero ∷ One ∷ One ∷ One ∷ One ∷ One ∷ Zero ∷ One ∷ One ∷ One ∷ [])

abbrev b : WaveByTicks (List Bit)
b = wave (Zero ∷ Zero ∷ Zero ∷ Zero ∷ Zero ∷ One ∷ One ∷ One ∷ One ∷ One ∷ One ∷ Zero ∷ [])

abbrev standing_within : ℕ → WaveByTicks (List Bit) → WaveByTicks (List Bit) → TickRange → List TickRange
standing_within = standing same_letters

all : differences (differ_at same_letters a b) (ticks_between 0 11)
    ≡ ticks_between 3 4 ∷ ticks_between 8 8 ∷ ticks_between 11 11 ∷ []
unfolding differences_from
all = refl

-- without tolerance all stand
none_forgiven : standing_within 0 a b (ticks_between 0 11)
    ≡ ticks_between 3 4 ∷ ticks_between 8 8 ∷ ticks_between 11 11 ∷ []
unfolding differences_from
none_forgiven = refl

-- an edge that is two ticks late is forgiven with a tolerance of two, but neither the pulse nor what ends with the
-- window
late_edge : standing_within 2 a b (ticks_between 0 11) ≡ ticks_between 8 8 ∷ ticks_between 11 11 ∷ []
unfolding differences_from
late_edge = refl

-- with one tick it is not
too_late : standing_within 1 a b (ticks_between 0 11)
    ≡ ticks_between 3 4 ∷ ticks_between 8 8 ∷ ticks_between 11 11 ∷ []
unfolding differences_from
too_late = refl

-- a window that begins within the difference cuts it, and nothing says that it is an edge
cut : standing_within 9 a b (ticks_between 4 7) ≡ ticks_between 4 4 ∷ []
unfolding differences_from
cut = refl

-- a pulse that comes later by more than its length stays two differences
pulse : standing_within 4 (wave (Zero ∷ Zero ∷ One ∷ Zero ∷ Zero ∷ Zero ∷ []))
    (wave (Zero ∷ Zero ∷ Zero ∷ Zero ∷ One ∷ Zero ∷ [])) (ticks_between 0 5)
    ≡ ticks_between 2 2 ∷ ticks_between 4 4 ∷ []
unfolding differences_from
pulse = refl
