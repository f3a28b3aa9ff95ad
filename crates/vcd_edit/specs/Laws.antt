-- The laws of edits: each is the contract of a function of `laws`.
use Rattle.std.specs.Prelude.{ℕ, suc, ◌+◌, ◌-◌, ◌≡◌, ◌≢◌, ◌⊎◌, ◌<◌, ◌≤◌, None, List}
use Rattle.vcd_core.specs.declared.bit.Bit.{Bit}
use Rattle.vcd_core.specs.Contents.{Contents}
use Rattle.vcd_core.specs.Sound.{IsSound}
use Rattle.vcd_edit.specs.declared.edit.Edit.{Edit}
use Rattle.vcd_edit.specs.declared.edit.Edit.TheVariants.{Deglitch}
use Rattle.vcd_edit.specs.Effect.{effect}
use Rattle.vcd_edit.specs.EditFaults.{edit_fault}
use Rattle.vcd_edit.specs.EffectLaws.{value_of}

-- an edit with no fault keeps a sound capture sound
abbrev pub EffectIsSound : Type 0
EffectIsSound = (e : Edit) (c : Contents) → IsSound c → edit_fault e c ≡ None → IsSound (effect e c)

-- ---- deglitch

-- a run of one value at the ticks `first` to `last`: neither the tick before nor the one after has
-- the value
abbrev pub IsRunOfOneValue : (ℕ → List Bit) → ℕ → ℕ → Type 0
IsRunOfOneValue f first last =
    (first ≤ last) × ((t : ℕ) → first ≤ t → t ≤ last → f t ≡ f first) × (f (first - 1) ≢ f first)
    × (f (suc last) ≢ f last)

-- each run that holds neither tick 0 nor the end has at least `ticks` ticks
abbrev pub HasNoShortRun : ℕ → ℕ → (ℕ → List Bit) → Type 0
HasNoShortRun ticks end f =
    (first last : ℕ) → 0 < first → last < end → IsRunOfOneValue f first last
    → ticks ≤ last - first + 1

-- a deglitch leaves no short run
abbrev pub DeglitchLeavesNoShortRun : Type 0
DeglitchLeavesNoShortRun =
    (k ticks : ℕ) (c : Contents) → IsSound c → edit_fault (Deglitch k ticks) c ≡ None
    → HasNoShortRun ticks (effect (Deglitch k ticks) c).end
    (value_of (effect (Deglitch k ticks) c) k)

-- a value that lasts from tick 0, or to the end, or for at least `ticks` ticks stays
abbrev pub DeglitchKeepsLongRuns : Type 0
DeglitchKeepsLongRuns =
    (k ticks : ℕ) (c : Contents) → IsSound c → edit_fault (Deglitch k ticks) c ≡ None
    → (first last t : ℕ)
    → last ≤ c.end
    → ((s : ℕ) → first ≤ s → s ≤ last → value_of c k s ≡ value_of c k first)
    → (first ≡ 0) ⊎ (last ≡ c.end) ⊎ (ticks ≤ last - first + 1)
    → first ≤ t → t ≤ last
    → value_of (effect (Deglitch k ticks) c) k t ≡ value_of c k t

-- any other run gets the value that the signal then has just before it
abbrev pub DeglitchFillsShortRuns : Type 0
DeglitchFillsShortRuns =
    (k ticks : ℕ) (c : Contents) → IsSound c → edit_fault (Deglitch k ticks) c ≡ None
    → (first last t : ℕ)
    → 0 < first → last < c.end → IsRunOfOneValue (value_of c k) first last
    → last - first + 1 < ticks
    → first ≤ t → t ≤ last
    → value_of (effect (Deglitch k ticks) c) k t
    ≡ value_of (effect (Deglitch k ticks) c) k (first - 1)

-- a capture whose signal has no short run is unchanged
abbrev pub DeglitchWithoutShortRuns : Type 0
DeglitchWithoutShortRuns =
    (k ticks : ℕ) (c : Contents) → IsSound c → edit_fault (Deglitch k ticks) c ≡ None
    → HasNoShortRun ticks c.end (value_of c k) → effect (Deglitch k ticks) c ≡ c

-- a second deglitch changes nothing
abbrev pub DeglitchTwice : Type 0
DeglitchTwice =
    (k ticks : ℕ) (c : Contents) → IsSound c → edit_fault (Deglitch k ticks) c ≡ None
    → effect (Deglitch k ticks) (effect (Deglitch k ticks) c) ≡ effect (Deglitch k ticks) c
