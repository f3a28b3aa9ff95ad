-- What a capture holds, and its signals by position: the project's own.
use Rattle.std.specs.Prelude.{ℕ, List, [], slice_index_or, slice_set, Option}
use Rattle.vcd_core.specs.declared.capture.Header.{Header}
use Rattle.vcd_core.specs.declared.capture.Timescale.{Timescale}
use Rattle.vcd_core.specs.declared.capture.ScopeName.{ScopeName}
use Rattle.vcd_core.specs.declared.wave.Change.{Change}
use Rattle.vcd_core.specs.declared.bit.Bit.{Bit}
use Rattle.vcd_core.specs.Wave.{value_at}

-- the contents of a signal, without the room of its wave
pub record SignalContents : Type 0 where
  pub scopes : List ScopeName
  pub kind : List ℕ
  pub words : List (List ℕ)
  pub width : ℕ
  pub changes : List Change

-- the contents of a capture
pub record Contents : Type 0 where
  pub header : List Header
  pub timescale : Option Timescale
  pub end : ℕ
  pub signals : List SignalContents

-- the default if there is no signal
abbrev pub no_signal : SignalContents
no_signal = record { scopes = []; kind = []; words = []; width = 1; changes = [] }

-- the signal at a position
abbrev pub signal_at : Contents → ℕ → SignalContents
signal_at c k = slice_index_or c.signals k no_signal

-- the capture with another signal at a position
abbrev pub with_signal : Contents → ℕ → SignalContents → Contents
with_signal c k s = record c { signals = slice_set c.signals k s }

-- the value of a signal at a tick
abbrev pub signal_value : SignalContents → ℕ → List Bit
signal_value s t = value_at s.width s.changes t
