-- The shortest run of a wave in a window: how far apart its edges are at least. The project's own.
use Rattle.std.specs.Prelude.{ℕ, suc, ◌-◌, ◌*◌, Bool, not, min, nat_le, if◌then◌else◌, Option, Some}
use Rattle.std.specs.Prelude.{None}
use Rattle.std.specs.Prelude.{List, [], ◌∷◌}
use Rattle.std.specs.List.{filter, range_with_len}
use Rattle.vcd_text.specs.declared.reading.choice.TickRange.{TickRange}
use Rattle.vcd_compare.specs.Differences.{WaveByTicks}

-- whether a wave turns to another value at a tick
abbrev pub turns_at : {V : Type 0} → (same : V → V → Bool) → WaveByTicks V → ℕ → Bool
turns_at same a t = not (same (a (t - 1)) (a t))

-- the ticks of a window after its first at which a wave turns
abbrev pub turns : {V : Type 0} → (same : V → V → Bool) → WaveByTicks V → TickRange → List ℕ
turns same a window =
    filter (turns_at same a) (range_with_len (suc window.first) (window.last - window.first))

-- the lesser of two numbers, of which the second may be absent
abbrev pub lesser : ℕ → Option ℕ → ℕ
lesser n None = n
lesser n (Some m) = min n m

-- the least distance between neighbours among some ticks
unfoldable pub least_distance : List ℕ → Option ℕ
least_distance [] = None
least_distance (t ∷ []) = None
least_distance (t ∷ u ∷ us) = Some (lesser (u - t) (least_distance (u ∷ us)))

-- how many ticks the shortest run of a wave has, of those that are whole in a window: from a turn
-- to the next
abbrev pub shortest_run : {V : Type 0} → (same : V → V → Bool) → WaveByTicks V → TickRange
    → Option ℕ
shortest_run same a window = least_distance (turns same a window)

-- a number, if it is at most another
abbrev pub at_most : (most : ℕ) → ℕ → Option ℕ
at_most most n = if nat_le n most then Some n else None

-- the lesser of the shortest runs of two waves, if it has at most twice the tolerance's ticks
abbrev pub short_of : (tolerance : ℕ) → (a b : Option ℕ) → Option ℕ
short_of tolerance None None = None
short_of tolerance (Some n) b = at_most (tolerance * 2) (lesser n b)
short_of tolerance None (Some n) = at_most (tolerance * 2) n

-- the shortest run of two waves in a window, where the tolerance is so large that more may be
-- forgiven than late edges
abbrev pub short_run : {V : Type 0} → (same : V → V → Bool) → (tolerance : ℕ)
    → (a b : WaveByTicks V) → TickRange → Option ℕ
short_run same tolerance a b window =
    short_of tolerance (shortest_run same a window) (shortest_run same b window)
