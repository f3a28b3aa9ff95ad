-- What the edits are for, in the subject's own words: each is the contract of a function of `laws`.
use Rattle.std.specs.Prelude.{ℕ, ◌+◌, ◌-◌, ◌≡◌, ◌⊎◌, ◌<◌, ◌≤◌, ℤ, pos, ◌+ℤ◌, neg_ℤ, IsTrue, not}
use Rattle.std.specs.Prelude.{List, [], ◌∷◌, length, map, None, Some}
use Rattle.std.specs.List.{All, list_all}
use Rattle.std.specs.Borrow.{Bor}
use Rattle.vcd_core.specs.declared.bit.Bit.{Bit}
use Rattle.vcd_core.specs.declared.bit.Bit.TheVariants.{X, Z}
use Rattle.vcd_core.specs.Value.{all_x, same_letter}
use Rattle.vcd_core.specs.Contents.{Contents, signal_at, signal_value}
use Rattle.vcd_core.specs.Sound.{IsSound}
use Rattle.vcd_edit.specs.declared.edit.Edit.TheVariants.{Rename, Remove, Invert, Shift, Cut, Force}
use Rattle.vcd_edit.specs.declared.edit.Edit.TheVariants.{Derive}
use Rattle.vcd_edit.specs.declared.edit.Rule.TheVariants.{Not, And, Or, Xor, BitOf}
use Rattle.vcd_edit.specs.AppliedRecords.{apply_record}
use Rattle.vcd_edit.specs.Effect.{effect}

-- the value of the signal at a position, at a tick
abbrev pub value_of : Contents → ℕ → ℕ → List Bit
value_of c k t = signal_value (signal_at c k) t

-- ---- invert

-- a bit, with x in place of z
abbrev pub x_for_z : Bit → Bit
x_for_z Z = X
x_for_z b = b

-- a signal that is inverted twice has its values again, with x in place of z
abbrev pub InvertTwice : Type 0
InvertTwice =
    (c : Contents) (k t : ℕ) → k < length c.signals → t ≤ c.end
    → value_of (effect (Invert k) (effect (Invert k) c)) k t ≡ map x_for_z (value_of c k t)

-- if it has no z, the capture is as it was
abbrev pub InvertTwiceWithoutZ : Type 0
InvertTwiceWithoutZ =
    (c : Contents) (k : ℕ) → IsSound c → k < length c.signals
    → ((t : ℕ) → t ≤ c.end → IsTrue (list_all (λ b. not (same_letter b Z)) (value_of c k t)))
    → effect (Invert k) (effect (Invert k) c) ≡ c

-- ---- cut

-- the ticks before a cut keep their values; the values from its end on come earlier by the ticks
-- cut out
abbrev pub CutKeepsOtherTicks : Type 0
CutKeepsOtherTicks =
    (c : Contents) (from to k t : ℕ) → from ≤ to → to ≤ c.end → k < length c.signals
    → (t < from → value_of (effect (Cut from to) c) k t ≡ value_of c k t)
    × (to ≤ t → t ≤ c.end → value_of (effect (Cut from to) c) k (t - (to - from)) ≡ value_of c k t)
    × ((effect (Cut from to) c).end + (to - from) ≡ c.end)

-- of two cuts that share no tick either may come first; the first cut then moves the ticks of the
-- other
abbrev pub CutsCommute : Type 0
CutsCommute =
    (c : Contents) (from to later last : ℕ) → from ≤ to → to ≤ later → later ≤ last → last ≤ c.end
    → effect (Cut (later - (to - from)) (last - (to - from))) (effect (Cut from to) c)
    ≡ effect (Cut from to) (effect (Cut later last) c)

-- ---- shift

-- a signal that is shifted and shifted back has its value at each tick that stayed within the
-- capture
abbrev pub ShiftAndBack : Type 0
ShiftAndBack =
    (c : Contents) (k t moved : ℕ) (by : ℤ) → k < length c.signals → t ≤ c.end → moved ≤ c.end
    → pos t +ℤ by ≡ pos moved
    → value_of (effect (Shift k (neg_ℤ by)) (effect (Shift k by) c)) k t ≡ value_of c k t

-- a signal that is shifted later is x at the ticks of the gap at the front; in the gap of one that
-- is shifted earlier the last value goes on
abbrev pub ShiftFillsGaps : Type 0
ShiftFillsGaps =
    (c : Contents) (k t by : ℕ) → k < length c.signals → t ≤ c.end
    → (t < by → value_of (effect (Shift k (pos by)) c) k t ≡ all_x (signal_at c k).width)
    × (c.end < t + by → value_of (effect (Shift k (neg_ℤ (pos by))) c) k t ≡ value_of c k c.end)

-- ---- force

-- a forced signal has the value inside the range, and its own outside
abbrev pub ForceIsLocal : Type 0
ForceIsLocal =
    (c : Contents) (k from to t : ℕ) (value : List Bit) → k < length c.signals → t ≤ c.end
    → (from ≤ t → t < to → value_of (effect (Force k from to value) c) k t ≡ value)
    × ((t < from) ⊎ (to ≤ t) → value_of (effect (Force k from to value) c) k t ≡ value_of c k t)

-- the last of two forces of one range counts
abbrev pub LastForceCounts : Type 0
LastForceCounts =
    (c : Contents) (k from to : ℕ) (first last : List Bit) → k < length c.signals
    → effect (Force k from to last) (effect (Force k from to first) c)
    ≡ effect (Force k from to last) c

-- ---- derive

-- a derived signal is in the scopes of the first operand
abbrev pub DerivedBesideFirstOperand : Type 0
DerivedBesideFirstOperand =
    (c : Contents) (word : Bor (List ℕ)) (a b k : ℕ)
    → All (λ rule. (signal_at (effect (Derive word rule) c) (length c.signals)).scopes
    ≡ (signal_at c a).scopes) (Not a ∷ And a b ∷ Or a b ∷ Xor a b ∷ BitOf a k ∷ [])

-- bit 0 of a signal of one bit is its wave
abbrev pub BitOfOneBit : Type 0
BitOfOneBit =
    (c : Contents) (word : Bor (List ℕ)) (a : ℕ) → IsSound c → a < length c.signals
    → (signal_at c a).width ≡ 1
    → (signal_at (effect (Derive word (BitOf a 0)) c) (length c.signals)).changes
    ≡ (signal_at c a).changes

-- ---- names and order

-- a signal that is renamed, and then gets its old name, is as it was
abbrev pub RenameAndBack : Type 0
RenameAndBack =
    (c : Contents) (k : ℕ) (old new : Bor (List ℕ)) (others : List (List ℕ))
    → k < length c.signals → (signal_at c k).words ≡ old.now ∷ others
    → effect (Rename k old) (effect (Rename k new) c) ≡ c

-- a remove leaves the signals before and after in their order, and the signal, put in again, gives
-- the capture back
abbrev pub RemoveAndBack : Type 0
RemoveAndBack =
    (c : Contents) (k j : ℕ) → k < length c.signals
    → (j < k → signal_at (effect (Remove k) c) j ≡ signal_at c j)
    × (k ≤ j → signal_at (effect (Remove k) c) j ≡ signal_at c (j + 1))
    × (apply_record
    (record { pieces = []; word = None; signal = Some (k, Some (signal_at c k)); other_end = None })
    (effect (Remove k) c) ≡ c)
