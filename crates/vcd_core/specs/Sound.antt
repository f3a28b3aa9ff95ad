-- The captures that a file can represent: the project's own, after the format (IEEE 1364-2005,
-- 18.2).
use Rattle.std.specs.Prelude.{ℕ, Bool, not, ◌&&◌, ◌||◌, ◌==◌, ◌<◌, ◌≤◌, length, All, IfSome, IsTrue}
use Rattle.std.specs.List.{list_all}
use Rattle.vcd_core.specs.declared.capture.Header.{Header}
use Rattle.vcd_core.specs.declared.capture.Timescale.{Timescale}
use Rattle.vcd_core.specs.declared.capture.ScopeName.{ScopeName}
use Rattle.vcd_core.specs.declared.value.TheConstants.{WIDTH_LIMIT}
use Rattle.vcd_core.specs.declared.capture.TheConstants.{END_LIMIT, SIGNAL_LIMIT}
use Rattle.vcd_core.specs.Word.{is_word, is_skipped_kind}
use Rattle.vcd_core.specs.Wave.{IsWave, AllUpTo}
use Rattle.vcd_core.specs.Contents.{Contents, SignalContents}

-- a header entry that a file can represent: words alone
abbrev pub is_sound_header : Header → Bool
is_sound_header h = list_all is_word h.words

-- a scope that a file can represent: its kind and its name are words
abbrev pub is_sound_scope : ScopeName → Bool
is_sound_scope s = is_word s.kind && list_all is_word s.words

-- a timescale that a file can represent: a tick is 1, 10 or 100 of the unit (IEEE 1364-2005, 18.2)
abbrev pub is_sound_timescale : Timescale → Bool
is_sound_timescale t = t.count == 1 || t.count == 10 || t.count == 100

-- a signal that a file can represent: a kept kind, a name, a width within the limit, and no change
-- past the end
pub record IsSoundSignal (end : ℕ) (s : SignalContents) : Type 0 where
  pub scopes : IsTrue (list_all is_sound_scope s.scopes)
  pub kind : IsTrue (is_word s.kind)
  pub kept : IsTrue (not (is_skipped_kind s.kind))
  pub named : 0 < length s.words
  pub words : IsTrue (list_all is_word s.words)
  pub least : 1 ≤ s.width
  pub most : s.width ≤ WIDTH_LIMIT
  pub wave : IsWave s.width s.changes
  pub ticks : AllUpTo end s.changes

-- a capture that a file can represent
pub record IsSound (c : Contents) : Type 0 where
  pub header : IsTrue (list_all is_sound_header c.header)
  pub timescale : IfSome c.timescale (λ t. IsTrue (is_sound_timescale t))
  pub end : c.end ≤ END_LIMIT
  pub few : length c.signals ≤ SIGNAL_LIMIT
  pub signals : All (IsSoundSignal c.end) c.signals
