-- The line feeds of a text, by which lines are counted.
use Rattle.std.specs.Prelude.{ℕ, ◌==◌, List, count_by}

-- the number of line feeds
abbrev pub line_feeds_in : List ℕ → ℕ
line_feeds_in bytes = count_by (λ b. b == 10) bytes
