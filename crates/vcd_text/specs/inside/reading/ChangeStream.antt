-- A file that is read change by change: the state to which its words have led, and what was heard.
use Rattle.std.specs.Prelude.{◌≡◌, ℕ, ◌≤◌, Bool, true, false, List, [], ◌∷◌, ◌++◌, length}
use Rattle.std.specs.Prelude.{Option, IfSome, IsTrue}
use Rattle.std.specs.Io.KnownBytes.{Consumes}
use Rattle.vcd_core.specs.declared.capture.TheConstants.{SIGNAL_LIMIT}
use Rattle.vcd_text.specs.Words.{words_of}
use Rattle.vcd_text.specs.Grammar.{ParseState, initial_state, word_texts}
use Rattle.vcd_text.specs.HeardChanges.{HeardChange, heard_all, AreHeard, FileIsHeard}
use Rattle.vcd_text.specs.inside.Words.{ComesBefore}
use Rattle.vcd_text.specs.inside.reading.ChangeListener.{awaits_code}
use Rattle.vcd_text.specs.inside.reading.FileReader.{HasReadBytes}
use Rattle.vcd_text.specs.inside.reading.Part.{Asked, unheard}
use Rattle.vcd_text.specs.inside.reading.Parser.{ParserMatches, HasTakenWords}
use Rattle.vcd_text.specs.inside.reading.SkippedVariables.{HasSkipped, KnowsSize}
use Rattle.vcd_text.specs.declared.reading.TheConstants.{LONG_FILE_LIMIT}
use Rattle.vcd_text.specs.declared.reading.change_stream.ChangeStream.{ChangeStream}

-- what the last chunk gave
abbrev pub heard_by : ChangeStream → List HeardChange
heard_by s = s.listener.heard

-- how many bytes the file may still have
abbrev pub bytes_to_come : ChangeStream → ℕ
bytes_to_come s = s.reader.bytes_left

-- the stream has come to this state of its file
abbrev pub IsStreamAt : ChangeStream → ParseState → Type 0
IsStreamAt s state = (asked : Asked) × ParserMatches asked s.reader.parser state
    × HasSkipped s.listener.skipped state.declared

-- the source had `coming`, now has `left`; the bytes between were read. The items of their complete
-- words lead to this state, and this was heard of them
pub record HasStreamed (coming left : Option (List ℕ)) (state : ParseState)
    (heard : List HeardChange) (s : ChangeStream) : Type 0 where
  pub bytes : List ℕ
  pub consumed : Consumes coming left bytes
  pub reads : HasReadBytes SIGNAL_LIMIT LONG_FILE_LIMIT unheard s.reader bytes
  pub before : List ℕ
  pub all : bytes ≡ before ++ s.reader.buffer.bytes
  pub ends : ComesBefore before s.reader.line_feeds
  pub asked : Asked
  pub taken : HasTakenWords SIGNAL_LIMIT asked s.reader.parser (words_of before)
  pub state_is : taken.state ≡ state
  pub heard_is : heard ≡ heard_all (initial_state SIGNAL_LIMIT) taken.items
  pub first : IsTrue (awaits_code s.reader.parser.item)
      → word_texts taken.begun ≡ s.listener.first_word.items ∷ []
  pub skipped : HasSkipped s.listener.skipped taken.state.declared
  pub size : KnowsSize s.reader.parser.item (word_texts taken.begun) s.listener.skipped

-- from this state on, up to which `heard` was heard, the stream has come to a later one; `more`
-- tells whether the file may go on, or has ended and is accepted
pub record StreamsOn (more : Bool) (coming left : Option (List ℕ)) (state : ParseState)
    (heard : List HeardChange) (s : ChangeStream) : Type 0 where
  pub later : ParseState
  pub at : IsStreamAt s later
  pub heard_now : AreHeard state later (heard_by s)
  pub goes_on : more ≡ true → HasStreamed coming left later (heard ++ heard_by s) s
  pub ended : more ≡ false → IfSome coming (λ file. (length file ≤ LONG_FILE_LIMIT)
      × FileIsHeard SIGNAL_LIMIT file later (heard ++ heard_by s))
