-- The laws of parts: a part of a part is a part, and all of a capture is a part.
use Rattle.std.specs.Prelude.{◌≡◌, ◌+◌, ◌-◌, ◌≤◌, min, Bool, true, ◌&&◌, All}
use Rattle.vcd_core.specs.Contents.{Contents, SignalContents}
use Rattle.vcd_core.specs.Sound.{IsSoundSignal}
use Rattle.vcd_text.specs.declared.reading.choice.TickRange.{TickRange}
use Rattle.vcd_text.specs.Parts.{part_of}

-- a part of a part is a part, by both tests, if its first tick is one of the part
abbrev pub PartOfPartIsPart : Type 0
PartOfPartIsPart = (takes also : SignalContents → Bool) (a b : TickRange) (c : Contents)
    → All (IsSoundSignal c.end) c.signals → b.first ≤ a.last - a.first
    → part_of also b (part_of takes a c)
    ≡ part_of (λ s. takes s && also s)
    (record { first = a.first + b.first; last = min a.last (a.first + b.last) }) c

-- the part of all signals, from tick 0 to the end or further, is the capture
abbrev pub AllIsPart : Type 0
AllIsPart = (ticks : TickRange) (c : Contents) → All (IsSoundSignal c.end) c.signals
    → ticks.first ≡ 0 → c.end ≤ ticks.last → part_of (λ _. true) ticks c ≡ c
