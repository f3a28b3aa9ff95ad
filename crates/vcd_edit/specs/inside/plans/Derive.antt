-- How a derived signal is made from the changes of its operands.
use Rattle.std.specs.Prelude.{◌≡◌, ℕ, ◌<◌, ◌≤◌, List, [], ◌∷◌, Option, Some}
use Rattle.std.specs.Prelude.{None, All, length}
use Rattle.vcd_core.specs.declared.bit.Bit.{Bit}
use Rattle.vcd_core.specs.declared.bit.Bit.TheVariants.{X}
use Rattle.vcd_core.specs.declared.bit_edges.BitEdge.{BitEdge}
use Rattle.vcd_core.specs.declared.wave.Change.{Change}
use Rattle.vcd_core.specs.Value.{all_x, letter_at}
use Rattle.vcd_core.specs.Wave.{change, changes_of, value_from, value_at, AllUpTo}
use Rattle.vcd_core.specs.WaveView.{WaveView}
use Rattle.vcd_core.specs.Contents.{Contents, signal_at}
use Rattle.vcd_edit.specs.declared.edit.Operator.{Operator}
use Rattle.vcd_edit.specs.declared.edit.Formula.{Formula}
use Rattle.vcd_edit.specs.declared.edit.Formula.TheVariants.{Negation, Pair, BitSelect}
use Rattle.vcd_edit.specs.Operators.{not_bit, operator_bit}
use Rattle.vcd_edit.specs.declared.plans.derive.Polarity.{Polarity}
use Rattle.vcd_edit.specs.declared.plans.derive.Polarity.TheVariants.{AsIs, Negated}
use Rattle.vcd_edit.specs.inside.plans.RemainingChanges.{TicksRise}

-- bit k of a value, negated or as it is
abbrev pub selected_bit : ℕ → Polarity → List Bit → Bit
selected_bit k AsIs v = letter_at v k
selected_bit k Negated v = not_bit (letter_at v k)

-- the change of the derived signal at a change of its one operand
abbrev pub selected_change : ℕ → Polarity → Change → Change
selected_change k polarity c = change c.tick (selected_bit k polarity c.value ∷ [])

-- an edge has the bits of two waves
abbrev pub HasBits : BitEdge → Type 0
HasBits e = (x y : Bit) × (e.at ≡ Some x ∷ Some y ∷ None ∷ None ∷ [])

-- the bit that an operator gives for the bits at an edge
abbrev pub edge_bit : Operator → List (Option Bit) → Bit
edge_bit operator (Some x ∷ Some y ∷ others) = operator_bit operator x y
edge_bit operator bits = X

-- the change of the derived signal at an edge of its two operands
abbrev pub edge_change : Operator → BitEdge → Change
edge_change operator e = change e.tick (edge_bit operator e.at ∷ [])

-- the operands exist, those of an operator have one bit, and a chosen bit is below the width
abbrev pub HasOperands : Contents → Formula → Type 0
HasOperands c (Negation a) = a < length c.signals
HasOperands c (Pair operator a b) =
    (a < length c.signals) × (b < length c.signals)
    × ((signal_at c a).width ≡ 1) × ((signal_at c b).width ≡ 1)
HasOperands c (BitSelect a k) = (a < length c.signals) × (k < (signal_at c a).width)

-- a wave has the bits of a function at all ticks up to the end
abbrev pub HasBitsUpTo : ℕ → (ℕ → Bit) → WaveView → Type 0
HasBitsUpTo end f w = (w.width ≡ 1) × (w.changes ≡ changes_of 1 end (λ t. f t ∷ []))

-- the changes of the wave, followed by the changes that remain, give the values of all changes
pub record DerivedSoFar (all left : List Change) (w : WaveView) : Type 0 where
  pub width : w.width ≡ 1
  pub values : (t : ℕ) → value_from (value_at 1 w.changes t) left t ≡ value_from (all_x 1) all t
  pub rise : (floor : ℕ) × TicksRise 1 floor left × All (λ c. c.tick ≤ floor) w.changes
  pub upto : (end : ℕ) → AllUpTo end all → AllUpTo end w.changes × AllUpTo end left
