-- What there is to say of the names in a line: which of them several signals have. The first of
-- these is meant. The project's own.
use Rattle.std.specs.Prelude.{ℕ, ◌+◌, ◌&&◌, not, nat_le, Bool, if◌then◌else◌, List, [], ◌∷◌, ◌++◌}
use Rattle.std.specs.Prelude.{map, take, drop, codes, bytes_eq, slice_index_or}
use Rattle.std.specs.List.{list_any, count_by, flat_map}
use Rattle.std.specs.Fmt.{decimal}
use Rattle.vcd_core.specs.Contents.{Contents}
use Rattle.vcd_core.specs.Names.{full_names}
use Rattle.vcd_text.specs.Words.{words_of}
use Rattle.vcd_text.specs.Grammar.{word_texts}
use Rattle.vcd_script.specs.declared.script.command.Command.{Command}
use Rattle.vcd_remarks.specs.NamedSignals.{signals_of_command}

-- a byte of a name as a remark shows it: `?` (63), unless it is a visible ASCII character or a
-- space (32 to 126)
abbrev pub shown_byte : ℕ → ℕ
shown_byte b = if nat_le 32 b && nat_le b 126 then b else 63

-- whether a line has this word, also as one that means no signal, such as a new name
abbrev pub has_word : (line word : List ℕ) → Bool
has_word line word = list_any (bytes_eq word) (word_texts (words_of line))

-- the remark on a name that so many signals have, of which the one at this position is the first
abbrev pub several_text : (count : ℕ) → (name : List ℕ) → (k : ℕ) → List ℕ
several_text count name k = decimal count ++ codes " signals are called " ++ map shown_byte name
    ++ codes ": @" ++ decimal k ++ codes " is meant"

-- by the full names of all signals
module _ (names : List (List ℕ)) where
  -- whether the signal at a position is the first of several that have this name
  abbrev pub is_first_of_several : (name : List ℕ) → ℕ → Bool
  is_first_of_several name k =
      list_any (bytes_eq name) (drop (k + 1) names) && not (list_any (bytes_eq name) (take k names))

  -- the remark on a name that a line may have for the signal at a position: none if that is not the
  -- first of several, or the line has `@K` in its place
  abbrev pub several_remark : (line name : List ℕ) → ℕ → List (List ℕ)
  several_remark line name k =
      if is_first_of_several name k && has_word line name
      then several_text (count_by (bytes_eq name) names) name k ∷ [] else []

  -- the same for the name of the signal at a position
  abbrev pub name_remark : (line : List ℕ) → ℕ → List (List ℕ)
  name_remark line k = several_remark line (slice_index_or names k []) k

-- the remarks on the names of the signals that the command of a line refers to, on a capture; a
-- signal that it refers to twice has its remark twice
unfoldable pub name_remarks : Contents → (line : List ℕ) → Command → List (List ℕ)
name_remarks c line command =
    flat_map (name_remark (full_names c.signals) line) (signals_of_command command)
