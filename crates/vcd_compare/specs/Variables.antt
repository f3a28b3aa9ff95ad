-- The variables of a capture as they are compared: its signals by their letters, and after them
-- those that are no signals, by the words of their changes. The rules are the project's own.
use Rattle.std.specs.Prelude.{ℕ, ◌*◌, ◌-◌, ◌^◌, min, ◌==◌, ◌&&◌, ◌||◌, Bool, false, nat_le, nat_lt}
use Rattle.std.specs.Prelude.{if◌then◌else◌, List, [], ◌∷◌, ◌++◌, map, filter, length, bytes_eq}
use Rattle.std.specs.Prelude.{codes, decimal, slice_index_or}
use Rattle.vcd_core.specs.Contents.{Contents, SignalContents, no_signal}
use Rattle.vcd_core.specs.Word.{is_skipped_kind}
use Rattle.vcd_text.specs.Grammar.{VariableDeclaration, ParseState}
use Rattle.vcd_text.specs.HeardChanges.{HeardChange, first_with, skipped_variables}
use Rattle.vcd_text.specs.declared.reading.heard_changes.ChangeTarget.{ChangeTarget}
use Rattle.vcd_text.specs.declared.reading.heard_changes.ChangeTarget.TheVariants.{Kept, Skipped}
use Rattle.vcd_text.specs.declared.reading.skipped_variables.SkippedVariable.{SkippedVariable}
use Rattle.vcd_compare.specs.Differences.{WaveByTicks}

-- ---- variables that are no signals

-- a variable that is no signal: its names, kind and width, whether it is an event, and the changes
-- of its code in the order of the file
pub record WordVariable : Type 0 where
  pub declared : SignalContents
  pub is_event : Bool
  pub changes : List HeardChange

-- whether a kind is that of an event
abbrev pub is_event_kind : List ℕ → Bool
is_event_kind kind = bytes_eq kind (codes "event")

-- the width by which a variable is compared: none if its kind has no letters, else its size. All
-- sizes past the greatest number of 64 bits count as this
abbrev pub compared_width : VariableDeclaration → ℕ
compared_width d = if is_skipped_kind d.kind then 0 else min d.size (2 ^ 64 - 1)

-- the same of a skipped variable of a stream
abbrev pub listed_width : SkippedVariable → ℕ
listed_width v = if is_skipped_kind v.kind then 0 else v.size

-- a variable without changes
abbrev pub word_declared : VariableDeclaration → SignalContents
word_declared d = record {
  scopes = d.scopes;
  kind = d.kind;
  words = d.words;
  width = compared_width d;
  changes = [];
}

-- whether a target is the skipped variable at a position
abbrev pub is_of_skipped : (position : ℕ) → ChangeTarget → Bool
is_of_skipped position (Kept k) = false
is_of_skipped position (Skipped k) = k == position

-- one of some skipped variables of a file of which this was heard. Several with one code are events
-- if the first of them is
abbrev pub word_variable : List VariableDeclaration → List HeardChange → VariableDeclaration
    → WordVariable
word_variable skipped heard d = record {
  declared = word_declared d;
  is_event = is_event_kind (slice_index_or skipped (first_with d.code skipped) d).kind;
  changes = filter (λ h. is_of_skipped (first_with d.code skipped) h.target) heard;
}

-- those of a file with this state
abbrev pub word_variables : ParseState → List HeardChange → List WordVariable
word_variables s heard =
    map (word_variable (skipped_variables s.declared) heard) (skipped_variables s.declared)

-- ---- their waves

-- the last of some values at or before a tick, or else `before`
unfoldable pub last_value : {V : Type 0} → (before : V) → List (ℕ × V) → ℕ → V
last_value before [] t = before
last_value before ((tick, value) ∷ changes) t =
    last_value (if nat_le tick t then value else before) changes t

-- whether a digit says nothing before another one: 0 before 0 or 1, x before x, z before z, as
-- a value is extended to the left (IEEE 1364-2005, 18.2)
abbrev pub is_implied : (digit next : ℕ) → Bool
is_implied digit next =
    digit == 48 && (next == 48 || next == 49) || digit == next && (next == 120 || next == 122)

-- a word without such digits at its beginning
unfoldable pub shortest_word : List ℕ → List ℕ
shortest_word [] = []
shortest_word (digit ∷ []) = digit ∷ []
shortest_word (digit ∷ next ∷ rest) =
    if is_implied digit next then shortest_word (next ∷ rest) else digit ∷ next ∷ rest

-- what a change is compared by: its shortest word, or of an event its tick
abbrev pub word_of : (is_event : Bool) → (tick : ℕ) → (text : List ℕ) → List ℕ
word_of is_event tick text = if is_event then decimal tick else shortest_word text

-- the changes of a variable, by ticks of the comparison
abbrev pub word_changes : (factor : ℕ) → WordVariable → List (ℕ × List ℕ)
word_changes factor v =
    map (λ h. (h.tick * factor, word_of v.is_event (h.tick * factor) h.text)) v.changes

-- its wave by ticks of the comparison: the last word, which is empty before the first change; of an
-- event the tick at which it was last
abbrev pub word_by_tick : (factor : ℕ) → WordVariable → WaveByTicks (List ℕ)
word_by_tick factor v = last_value [] (word_changes factor v)

-- ---- captures

-- a capture: what its file means, and its variables that are no signals
pub record ComparedContents : Type 0 where
  pub meant : Contents
  pub words : List WordVariable

-- the capture with all variables: the signals, and after them the others
abbrev pub with_all : ComparedContents → Contents
with_all c = record c.meant { signals = c.meant.signals ++ map (λ v. v.declared) c.words }

-- a variable that is none
abbrev pub no_word_variable : WordVariable
no_word_variable = record { declared = no_signal; is_event = false; changes = [] }

-- the variable at a position after the signals
abbrev pub word_variable_at : ComparedContents → ℕ → WordVariable
word_variable_at c k = slice_index_or c.words (k - length c.meant.signals) no_word_variable

-- whether the variable at a position is a signal
abbrev pub is_signal_at : ComparedContents → ℕ → Bool
is_signal_at c k = nat_lt k (length c.meant.signals)
