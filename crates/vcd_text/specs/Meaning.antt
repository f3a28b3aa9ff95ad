-- The meaning of a file: its signals, each with its value at every tick (IEEE 1364-2005, 18.2).
use Rattle.std.specs.Prelude.{◌≡◌, ℕ, List, map, filter, count_by, bytes_eq}
use Rattle.vcd_core.specs.declared.wave.Change.{Change}
use Rattle.vcd_core.specs.Wave.{change, value_at, changes_of}
use Rattle.vcd_core.specs.Contents.{Contents, SignalContents}
use Rattle.vcd_text.specs.Words.{words_of}
use Rattle.vcd_text.specs.Letters.{extension}
use Rattle.vcd_text.specs.Grammar.{VariableDeclaration, ValueChange, ParseState, Accepts}
use Rattle.vcd_text.specs.Grammar.{is_skipped, kept_variables}

-- the changes of a code: its value changes, in their order, each extended to the width
unfoldable pub changes_of_code : ℕ → List ℕ → List ValueChange → List Change
changes_of_code width code value_changes =
    map (λ v. change v.tick (extension width v.letters))
    (filter (λ v. bytes_eq v.code code) value_changes)

-- the signal of a variable, up to the tick `end`: all x before its first value change
abbrev pub declared_signal : List ValueChange → ℕ → VariableDeclaration → SignalContents
declared_signal value_changes end d = record {
  scopes = d.scopes;
  kind = d.kind;
  words = d.words;
  width = d.size;
  changes = changes_of d.size end (value_at d.size (changes_of_code d.size d.code value_changes));
}

-- the meaning of a file with this state: its kept variables are the signals, in their order; the
-- end is the last stamp, or 0
abbrev pub meaning : ParseState → Contents
meaning s = record {
  header = s.header;
  timescale = s.timescale;
  end = s.tick;
  signals = map (declared_signal s.value_changes s.tick) (kept_variables s.declared);
}

-- the file is accepted and means these contents, with this number of skipped variables
pub record FileMeans (limit : ℕ) (bytes : List ℕ) (contents : Contents) (skipped : ℕ) : Type 0 where
  pub state : ParseState
  pub accepted : Accepts limit (words_of bytes) state
  pub means : contents ≡ meaning state
  pub left_out : skipped ≡ count_by is_skipped state.declared

-- the file has a meaning
abbrev pub HasMeaning : (limit : ℕ) → (bytes : List ℕ) → Type 0
HasMeaning limit bytes = (c : Contents) × (skipped : ℕ) × FileMeans limit bytes c skipped
