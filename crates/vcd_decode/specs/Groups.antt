-- A list cut into groups of equal length.
use Rattle.std.specs.Prelude.{ℕ, List, map, length}
use Rattle.std.specs.List.{range_with_len}
use Rattle.std.specs.Fork.{slice_chunk}
use Rattle.std.specs.Slice.Iter.{chunk_count}

-- the groups of n items, of which the last may be shorter
unfoldable pub groups_of : {X : Type 0} → ℕ → List X → List (List X)
groups_of n xs = map (slice_chunk xs n) (range_with_len 0 (chunk_count (length xs) n))
