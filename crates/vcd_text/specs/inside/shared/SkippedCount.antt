-- How many variables are skipped.
use Rattle.std.specs.Prelude.{ℕ, count_by}
use Rattle.vcd_text.specs.Grammar.{ParseState, is_skipped}

-- the number of skipped variables
abbrev pub skipped_count : ParseState → ℕ
skipped_count c = count_by is_skipped c.declared
