-- Where numbers stand in a list: the last place of each, and the place before each.
use Rattle.std.specs.Prelude.{◌≡◌, ◌≢◌, ℕ, ◌<◌, Option, Some, None, List, length, slice_index_or}
use Rattle.vcd_compare.specs.declared.occurrences.Occurrences.{Occurrences}

-- the last place of a number in a list, of those below a bound, if it stands at one
abbrev pub IsLastPlace : (numbers : List ℕ) → (bound number : ℕ) → Option ℕ → Type 0
IsLastPlace numbers bound number None =
    (j : ℕ) → j < bound → slice_index_or numbers j 0 ≢ number
IsLastPlace numbers bound number (Some i) = (i < bound) × (slice_index_or numbers i 0 ≡ number)
    × ((j : ℕ) → i < j → j < bound → slice_index_or numbers j 0 ≢ number)

-- these numbers, which are below a limit, are in the list
pub record HasOccurrences (limit : ℕ) (numbers : List ℕ) (o : Occurrences) : Type 0 where
  pub size : length o.last.items ≡ limit
  pub count : length o.before.items ≡ length numbers
  pub last_is : (number : ℕ) → number < limit
      → IsLastPlace numbers (length numbers) number (slice_index_or o.last.items number None)
  pub before_is : (place : ℕ) → place < length numbers
      → IsLastPlace numbers place (slice_index_or numbers place 0)
      (slice_index_or o.before.items place None)
