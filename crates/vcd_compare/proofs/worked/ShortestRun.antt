-- Worked cases: with a tolerance of half the shortest run, more is forgiven than late edges.
use Rattle.std.proofs.Common.{◌≡◌, refl}
use Rattle.std.specs.Prelude.{ℕ, nat_eq, List, [], ◌∷◌, get_or, Some, None}
use Rattle.vcd_compare.specs.Differences.{WaveByTicks, ticks_between, standing, differences_from}
use Rattle.vcd_compare.specs.ShortestRun.{shortest_run, turns, least_distance}

-- a wave of numbers, from tick 0 on
abbrev wave : List ℕ → WaveByTicks ℕ
wave values t = get_or values t 9

-- a clock whose runs have three ticks, and the same clock four ticks later
abbrev clock : WaveByTicks ℕ
clock = wave (0 ∷ 0 ∷ 0 ∷ 1 ∷ 1 ∷ 1 ∷ 0 ∷ 0 ∷ 0 ∷ 1 ∷ [])

abbrev late_clock : WaveByTicks ℕ
late_clock = wave (0 ∷ 1 ∷ 1 ∷ 1 ∷ 0 ∷ 0 ∷ 0 ∷ 1 ∷ 1 ∷ 1 ∷ [])

-- each difference looks like an edge that came two ticks early
all_forgiven : standing nat_eq 2 clock late_clock (ticks_between 0 9) ≡ []
unfolding differences_from
all_forgiven = refl

-- but this tells that the tolerance is too large
shortest : shortest_run nat_eq clock (ticks_between 0 9) ≡ Some 3
unfolding least_distance
shortest = refl

-- a run that the window cuts does not count
two_turns : turns nat_eq clock (ticks_between 2 7) ≡ 3 ∷ 6 ∷ []
two_turns = refl

one_turn : shortest_run nat_eq clock (ticks_between 3 8) ≡ None
unfolding least_distance
one_turn = refl
