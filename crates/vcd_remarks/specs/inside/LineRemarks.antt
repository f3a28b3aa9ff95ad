-- Remarks on a line, as they are written.
use Rattle.std.specs.Prelude.{◌≡◌, ◌≤◌, ℕ, Bool, true, false, List, [], length, take, Option}
use Rattle.std.specs.Io.KnownBytes.{Appends}

-- a writer took this text, or its first bytes and no more from then on; whether it had ended
-- before, and has after
abbrev pub WritesOrEnds : (had_ended has_ended : Bool) → (before after : Option (List ℕ))
    → (text : List ℕ) → Type 0
WritesOrEnds true has_ended before after text = (has_ended ≡ true) × Appends before after []
WritesOrEnds false true before after text =
    (count : ℕ) × (count ≤ length text) × Appends before after (take count text)
WritesOrEnds false false before after text = Appends before after text
