-- What is left of a capture without its changes. The project's own.
use Rattle.std.specs.Prelude.{[], map}
use Rattle.vcd_core.specs.Contents.{Contents, SignalContents}
use Rattle.vcd_core.specs.Sound.{IsSound}

-- a signal as it is declared: it has no changes
abbrev pub without_changes : SignalContents → SignalContents
without_changes s = record s { changes = [] }

-- a capture as it is declared, with its end: no signal has a change
abbrev pub outline : Contents → Contents
outline c = record c { signals = map without_changes c.signals }

-- the outline of a sound capture is sound
abbrev pub OutlineIsSound : Type 0
OutlineIsSound = (c : Contents) → IsSound c → IsSound (outline c)
