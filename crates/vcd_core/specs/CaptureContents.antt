-- What contracts see of a signal and of a capture: their contents.
use Rattle.std.specs.Prelude.{map}
use Rattle.vcd_core.specs.declared.capture.Signal.{Signal}
use Rattle.vcd_core.specs.declared.capture.Capture.{Capture}
use Rattle.vcd_core.specs.Contents.{SignalContents, Contents}

-- the contents of a signal
abbrev pub signal_contents : Signal → SignalContents
signal_contents s = record {
  scopes = s.scopes;
  kind = s.kind;
  words = s.words;
  width = s.wave.width;
  changes = s.wave.changes;
}

-- the contents of a capture
abbrev pub contents : Capture → Contents
contents c = record {
  header = c.header;
  timescale = c.timescale;
  end = c.end;
  signals = map signal_contents c.signals;
}
