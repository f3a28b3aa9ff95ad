-- A capture without the waves of silent signals, from its declarations and a part of it. The
-- project's own.
use Rattle.std.specs.Prelude.{◌≡◌, ◌≤◌, ◌<◌, ℕ, Bool, not, if◌then◌else◌, List, [], ◌∷◌, length}
use Rattle.std.specs.Prelude.{drop, slice_index_or, All}
use Rattle.vcd_core.specs.Contents.{Contents, SignalContents, signal_at}
use Rattle.vcd_core.specs.Sound.{IsSoundSignal}
use Rattle.vcd_core.specs.Outline.{without_changes, outline}
use Rattle.vcd_text.specs.Parts.{part_of}
use Rattle.vcd_text.specs.declared.reading.choice.TickRange.{TickRange}
use Rattle.vcd_hollow.specs.Hollow.{hollow}

-- the signals as they are declared; in place of those that a test takes there are these, one after
-- another
abbrev pub with_taken : (SignalContents → Bool) → (declared taken : List SignalContents)
    → List SignalContents
with_taken takes [] taken = []
with_taken takes (s ∷ declared) taken =
    if takes s then slice_index_or taken 0 s ∷ with_taken takes declared (drop 1 taken)
    else s ∷ with_taken takes declared taken

-- a signal is silent if it is not taken, as it is declared
abbrev pub AreTaken : (takes : SignalContents → Bool) → (silent : ℕ → Bool) → Contents → Type 0
AreTaken takes silent c =
    (k : ℕ) → k < length c.signals → silent k ≡ not (takes (without_changes (signal_at c k)))

-- the part of all ticks, put into the declarations, is the capture without the changes of the
-- signals that are not taken
abbrev pub HollowIsPart : Type 0
HollowIsPart =
    (takes : SignalContents → Bool) (silent : ℕ → Bool) (ticks : TickRange) (c : Contents)
    → All (IsSoundSignal c.end) c.signals → ticks.first ≡ 0 → c.end ≤ ticks.last
    → AreTaken takes silent c
    → hollow silent c
    ≡ record c { signals = with_taken takes (outline c).signals (part_of takes ticks c).signals }
