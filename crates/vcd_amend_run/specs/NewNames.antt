-- The new names of signals, and whether one of them is that of a skipped variable, so that a file
-- would have two variables of this name. The project's own.
use Rattle.std.specs.Prelude.{ℕ, Bool, false, if◌then◌else◌, List, ◌∷◌, map, Option, Some, None}
use Rattle.std.specs.List.{filter, list_any, slice_get}
use Rattle.std.specs.Str.{bytes_eq}
use Rattle.std.specs.Cmp.Lexicographic.{pointwise}
use Rattle.vcd_core.specs.Contents.{SignalContents}
use Rattle.vcd_core.specs.Names.{full_name, full_names}
use Rattle.vcd_text.specs.AsDeclared.{declared_name}
use Rattle.vcd_text.specs.Grammar.{VariableDeclaration, is_skipped}

-- the full names of the skipped variables among these
abbrev pub skipped_names : List VariableDeclaration → List (List ℕ)
skipped_names ds = map declared_name (filter is_skipped ds)

-- whether there is a first signal, and the last one has its words
abbrev pub has_words_of : (first : Option SignalContents) → (last : SignalContents) → Bool
has_words_of None last = false
has_words_of (Some first) last = pointwise bytes_eq first.words last.words

-- the full names of the last signals that do not have the words of the first one that they come
-- from, and of the derived ones, which stand after all that have an origin
abbrev pub new_names : (firsts : List SignalContents) → (origins : List ℕ)
    → (lasts : List SignalContents) → List (List ℕ)
new_names firsts (k ∷ origins) (s ∷ lasts) =
    if has_words_of (slice_get firsts k) s then new_names firsts origins lasts
    else full_name s ∷ new_names firsts origins lasts
new_names firsts origins lasts = full_names lasts

-- whether one of the new names is that of a skipped variable
abbrev pub takes_skipped_name : List VariableDeclaration → (firsts : List SignalContents)
    → (origins : List ℕ) → (lasts : List SignalContents) → Bool
takes_skipped_name ds firsts origins lasts =
    list_any (λ name. list_any (bytes_eq name) (skipped_names ds)) (new_names firsts origins lasts)
