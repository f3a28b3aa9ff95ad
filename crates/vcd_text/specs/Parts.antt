-- A part of a capture: some of its signals, and some of its time. The project's own.
use Rattle.std.specs.Prelude.{◌≡◌, ℕ, ◌+◌, ◌-◌, min, length, Bool, List, map, filter}
use Rattle.vcd_core.specs.Wave.{changes_of}
use Rattle.vcd_core.specs.Contents.{Contents, SignalContents, signal_value}
use Rattle.vcd_core.specs.CaptureContents.{contents}
use Rattle.vcd_core.specs.Outline.{without_changes}
use Rattle.vcd_text.specs.declared.reading.Loaded.{Loaded}
use Rattle.vcd_text.specs.declared.reading.choice.TickRange.{TickRange}
use Rattle.vcd_text.specs.Meaning.{FileMeans}

-- a signal from the tick `first` on, with the end as many ticks later
abbrev pub part_of_signal : (first end : ℕ) → SignalContents → SignalContents
part_of_signal first end s =
    record s { changes = changes_of s.width end (λ t. signal_value s (first + t)) }

-- the part of a capture: the signals that a test takes as they are declared, each with its values
-- from the first tick to the last one; the ticks count from the first
abbrev pub part_of : (takes : SignalContents → Bool) → TickRange → Contents → Contents
part_of takes ticks c = record c {
  end = min ticks.last c.end - ticks.first;
  signals = map (part_of_signal ticks.first (min ticks.last c.end - ticks.first))
      (filter (λ s. takes (without_changes s)) c.signals);
}

-- the file is accepted, and what is loaded is this part of what it means
pub record PartMeans (limit : ℕ) (takes : SignalContents → Bool) (ticks : TickRange)
    (bytes : List ℕ) (loaded : Loaded) : Type 0 where
  pub whole : Contents
  pub means : FileMeans limit bytes whole loaded.skipped
  pub is : contents loaded.capture ≡ part_of takes ticks whole
  pub end : loaded.end ≡ whole.end
  pub count : loaded.signals ≡ length whole.signals
