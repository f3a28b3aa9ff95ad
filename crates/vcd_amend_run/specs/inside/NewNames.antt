-- Whether one signal has a new name.
use Rattle.std.specs.Prelude.{ℕ, Bool, true, not, List, [], ◌∷◌}
use Rattle.std.specs.List.{slice_get}
use Rattle.vcd_core.specs.Contents.{SignalContents}
use Rattle.vcd_amend_run.specs.NewNames.{has_words_of}

-- whether the first of last signals, which have these origins, has a new name
abbrev pub has_new_name : (firsts : List SignalContents) → (origins : List ℕ) → SignalContents
    → Bool
has_new_name firsts [] s = true
has_new_name firsts (k ∷ origins) s = not (has_words_of (slice_get firsts k) s)
