-- Pipelines of stages: the signal that a pipeline gives, and the changes of a code as a file has
-- them.
use Rattle.std.specs.Prelude.{◌≡◌, ℕ, ◌<◌, ◌≤◌, List, [], ◌∷◌, length}
use Rattle.vcd_core.specs.declared.bit.Bit.{Bit}
use Rattle.vcd_core.specs.declared.wave.Change.{Change}
use Rattle.vcd_core.specs.Wave.{changes_of, value_at, AllUpTo}
use Rattle.vcd_core.specs.Contents.{Contents, signal_at}
use Rattle.vcd_stream.specs.declared.pipeline.Pipeline.{Pipeline}
use Rattle.vcd_stream.specs.declared.stage.Stage.{Stage}
use Rattle.vcd_stream.specs.Stages.{given, given_by_all}

-- a pipeline has the width of the signal at a position of a capture, and the capture's end
pub record FitsSignal {V : Type 0} (pipeline : Pipeline V) (c : Contents) (k : ℕ) : Type 0 where
  pub within : k < length c.signals
  pub width : (signal_at c k).width ≡ pipeline.width
  pub end : c.end ≡ pipeline.end

-- and, fed with changes, gives those of that signal
pub record GivesSignal {V : Type 0} (letters : ℕ → V → List Bit) (pipeline : Pipeline V)
    (fed : List Change) (c : Contents) (k : ℕ) : Type 0 where
  pub fits : FitsSignal pipeline c k
  pub gives : given_by_all (letters pipeline.width) pipeline.stages.items fed
      ≡ (signal_at c k).changes

-- ticks do not fall, and values have one width
abbrev pub TicksStay : ℕ → ℕ → List Change → Type 0
TicksStay width floor [] = Unit {0}
TicksStay width floor (c ∷ cs) =
    (floor ≤ c.tick) × (length c.value ≡ width) × TicksStay width c.tick cs

-- the signal at a position has the values of these changes of its code, in their order in a file
pub record HasFileChanges (fed : List Change) (c : Contents) (k : ℕ) : Type 0 where
  pub within : k < length c.signals
  pub stay : TicksStay (signal_at c k).width 0 fed
  pub upto : AllUpTo c.end fed
  pub changes : (signal_at c k).changes
      ≡ changes_of (signal_at c k).width c.end (value_at (signal_at c k).width fed)

-- fed with the changes of a code as a file has them, a stage gives those of the wave
abbrev pub IsFileStage : {V : Type 0} → (V → List Bit) → (width : ℕ) → Stage V → Type 0
IsFileStage letters width stage =
    (end : ℕ) (fed : List Change) → TicksStay width 0 fed → AllUpTo end fed
    → given letters stage fed ≡ changes_of width end (value_at width fed)
