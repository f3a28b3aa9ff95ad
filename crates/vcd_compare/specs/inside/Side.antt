-- A capture file while it is compared: the state to which it has come, and which of its changes
-- were taken.
use Rattle.std.specs.Prelude.{◌≡◌, ℕ, suc, ◌*◌, ◌≤◌, Bool, true, false, not, ◌&&◌, nat_le, List, []}
use Rattle.std.specs.Prelude.{◌∷◌, ◌++◌, length, drop, Option, Some, None, IfSome, IsTrue}
use Rattle.std.specs.Prelude.{if◌then◌else◌}
use Rattle.vcd_core.specs.declared.capture.TheConstants.{SIGNAL_LIMIT}
use Rattle.vcd_text.specs.Grammar.{ParseState, initial_state}
use Rattle.vcd_text.specs.HeardChanges.{HeardChange, AreHeard, FileIsHeard}
use Rattle.vcd_text.specs.inside.reading.ChangeStream.{HasStreamed, IsStreamAt, heard_by}
use Rattle.vcd_text.specs.inside.reading.ChangeStream.{bytes_to_come}
use Rattle.vcd_text.specs.declared.reading.TheConstants.{LONG_FILE_LIMIT}
use Rattle.vcd_compare.specs.inside.LeftOut.{HasCounted}
use Rattle.vcd_compare.specs.declared.side.Side.{Side}

-- the changes at hand: those of the last chunk that were not taken
abbrev pub at_hand : Side → List HeardChange
at_hand s = drop s.taken (heard_by s.stream)

-- whether none is at hand, and the file goes on
abbrev pub needs_chunk : Side → Bool
needs_chunk s = not s.is_ended && nat_le (length (heard_by s.stream)) s.taken

-- how often the file can still be read
abbrev pub reads_to_come : Side → ℕ
reads_to_come s = if s.is_ended then 0 else suc (bytes_to_come s.stream)

-- the tick of the first of some changes, in ticks of the comparison
abbrev pub first_tick : (factor : ℕ) → List HeardChange → Option ℕ
first_tick factor [] = None
first_tick factor (h ∷ hs) = Some (h.tick * factor)

-- the file is accepted with this state, and this was heard of it, if its source shows it
abbrev pub IsHeardWhole : (coming : Option (List ℕ)) → ParseState → List HeardChange → Type 0
IsHeardWhole coming state heard = IfSome coming (λ file. (length file ≤ LONG_FILE_LIMIT)
    × FileIsHeard SIGNAL_LIMIT file state heard)

-- the source had `coming`, and now has `left`; the file has come to this state, and `given` were
-- taken of its changes
pub record IsSideAt (coming left : Option (List ℕ)) (state : ParseState) (given : List HeardChange)
    (s : Side) : Type 0 where
  pub at : IsStreamAt s.stream state
  pub heard : AreHeard (initial_state SIGNAL_LIMIT) state (given ++ at_hand s)
  pub goes_on : s.is_ended ≡ false → HasStreamed coming left state (given ++ at_hand s) s.stream
  pub ended : s.is_ended ≡ true → IsHeardWhole coming state (given ++ at_hand s)
  pub counted : HasCounted (given ++ at_hand s) s.left_out s.last_ticks

-- a file was read on, from a state up to which `heard` was heard; `given` were taken
pub record ReadsOn (coming left : Option (List ℕ)) (state : ParseState)
    (heard given : List HeardChange) (s : Side) : Type 0 where
  pub later : ParseState
  pub more : List HeardChange
  pub heard_more : AreHeard state later more
  pub at : IsSideAt coming left later given s
  pub all : given ++ at_hand s ≡ heard ++ more

-- a file was read to its end
pub record ReadsToEnd (coming : Option (List ℕ)) (state : ParseState) (heard : List HeardChange)
    (old new : Side) : Type 0 where
  pub later : ParseState
  pub more : List HeardChange
  pub heard_more : AreHeard state later more
  pub at : IsStreamAt new.stream later
  pub whole : IsHeardWhole coming later (heard ++ more)
  pub counted : HasCounted (heard ++ more) new.left_out new.last_ticks
  pub stays : old.is_ended ≡ true → (later ≡ state) × (more ≡ [])

-- a file that was opened: its declarations have ended
pub record IsOpened (coming left : Option (List ℕ)) (s : Side) : Type 0 where
  pub state : ParseState
  pub at : IsSideAt coming left state [] s
  pub declared : IfSome coming (λ file. IsTrue state.in_body)
