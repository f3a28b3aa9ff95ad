-- The progress of reading a file in chunks: a listener has heard the complete words, and a word
-- that can go on is kept.
use Rattle.std.specs.Prelude.{◌≡◌, ◌⊎◌, ℕ, ◌+◌, ◌<◌, ◌≤◌, ◌^◌, Bool, true, not, List, [], ◌++◌}
use Rattle.std.specs.Prelude.{length, Option, Result, Ok, Err}
use Rattle.std.specs.List.{list_all}
use Rattle.std.specs.Io.KnownBytes.{Consumes}
use Rattle.vcd_core.specs.Word.{is_white_space}
use Rattle.vcd_text.specs.declared.fault.ReadError.{ReadError}
use Rattle.vcd_text.specs.declared.reading.file_reader.FileReader.{FileReader}
use Rattle.vcd_text.specs.declared.reading.listener.Listener as listeners
use Rattle.vcd_text.specs.declared.reading.parser.Parser.{Parser}
use Rattle.vcd_text.specs.Words.{complete_words, words_of, last_line}
use Rattle.vcd_text.specs.FoundFaults.{IsFoundFault}
use Rattle.vcd_text.specs.MemoryErrors.{memory_error}
use Rattle.vcd_text.specs.inside.Words.{words_from, ComesBefore}
use Rattle.vcd_text.specs.inside.reading.Part.{Asked}
use Rattle.vcd_text.specs.inside.reading.Parser.{HasTakenWords, RefusesWords, is_complete}

-- the complete words of these bytes have been taken; `word` is the unfinished rest
pub record HasTaken (limit most : ℕ) (asked : Asked) (m : Parser) (word : List ℕ)
    (line_feeds bytes_left : ℕ) (bytes : List ℕ)
    : Type 0 where
  pub taken_words : HasTakenWords limit asked m (complete_words bytes)
  pub words : (end_counts : Bool) (rest : List ℕ)
      → words_from end_counts [] 1 (bytes ++ rest)
      ≡ complete_words bytes ++ words_from end_counts [] (line_feeds + 1) (word ++ rest)
  pub no_space : list_all (λ b. not (is_white_space b)) word ≡ true
  pub short : length word ≤ length bytes
  pub lines : last_line bytes ≡ line_feeds + 1
  pub size : length bytes + bytes_left ≡ most
  pub small : most < 2 ^ 62

-- these bytes have been read so far
abbrev pub HasReadBytes : (limit most : ℕ) → Asked → FileReader → List ℕ → Type 0
HasReadBytes limit most asked p bytes =
    HasTaken limit most asked p.parser p.buffer.bytes p.line_feeds p.bytes_left bytes

-- since its start a listener has heard the bytes before the buffer's, which end in white space
pub record HasHeard {L : Type 0} (l : listeners.Ghosts L) (limit : ℕ) (start now : L)
    (p : FileReader) (bytes : List ℕ)
    : Type 0 where
  pub before : List ℕ
  pub all : bytes ≡ before ++ p.buffer.bytes
  pub ends : ComesBefore before p.line_feeds
  pub heard : l.has_heard limit start now p.parser before

-- a listener can begin: it has heard nothing of a file of which no word is taken
abbrev pub CanBegin : {L : Type 0} → listeners.Ghosts L → (limit : ℕ) → (start : L) → Type 0
CanBegin l limit start = (m : Parser) → HasTakenWords limit (l.asked start) m (complete_words [])
    → l.has_heard limit start start m []

-- these bytes have been read so far, and a listener has heard their complete words
abbrev pub HasHeardBytes : {L : Type 0} → listeners.Ghosts L → (limit most : ℕ) → (start now : L)
    → FileReader → List ℕ → Type 0
HasHeardBytes l limit most start now p bytes =
    HasReadBytes limit most (l.asked start) p bytes × HasHeard l limit start now p bytes

-- the source had `coming`, now has `coming_now`; the bytes between were read
abbrev pub FileReaderMatches : {L : Type 0} → listeners.Ghosts L → (limit most : ℕ) → (start : L)
    → (coming coming_now : Option (List ℕ)) → (now : L) → FileReader → Type 0
FileReaderMatches l limit most start coming coming_now now p = (bytes : List ℕ)
    × Consumes coming coming_now bytes
    × HasHeardBytes l limit most start now p bytes

-- the buffer holds an unfinished word, then a chunk whose words are not taken; `bytes` are all
-- bytes so far
pub record HasUntakenChunk (limit most : ℕ) (asked : Asked) (p : FileReader)
    (unfinished_len : ℕ) (bytes : List ℕ) : Type 0 where
  pub before : List ℕ
  pub word : List ℕ
  pub chunk : List ℕ
  pub taken : HasTaken limit most asked p.parser word p.line_feeds (p.bytes_left + length chunk)
      before
  pub text : p.buffer.bytes ≡ word ++ chunk
  pub len : unfinished_len ≡ length word
  pub all : bytes ≡ before ++ chunk

-- the words that are now complete have been taken, or one is refused
abbrev pub TakesChunk : {L : Type 0} → listeners.Ghosts L → (limit most : ℕ) → (start : L)
    → List ℕ → Result (Unit {0}) ReadError → (now : L) → FileReader → Type 0
TakesChunk l limit most start bytes (Ok x) now new =
    HasHeardBytes l limit most start now new bytes
TakesChunk l limit most start bytes (Err e) now new = RefusesWords limit (complete_words bytes) e

-- why a file is not read: it has a fault, or memory has run out
abbrev pub RefusesFile : ℕ → List ℕ → ReadError → Type 0
RefusesFile limit bytes e = (e ≡ memory_error) ⊎ IsFoundFault limit bytes e.line e.fault

-- a listener has heard a whole file, and the parser has taken its words
pub record HasHeardFile {L : Type 0} (l : listeners.Ghosts L) (limit : ℕ) (start now : L)
    (m : Parser) (file : List ℕ)
    : Type 0 where
  pub taken_words : HasTakenWords limit (l.asked start) m (words_of file)
  pub complete : is_complete m ≡ true
  pub heard : l.has_heard limit start now m file
