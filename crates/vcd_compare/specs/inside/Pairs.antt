-- The pairs of variables that are compared, while changes come.
use Rattle.std.specs.Prelude.{◌≡◌, ◌≢◌, ℕ, ◌+◌, ◌≤◌, ◌<◌, max, Bool, List, [], ◌∷◌, map, length}
use Rattle.std.specs.Prelude.{slice_index_or, Option, Some, bytes_eq}
use Rattle.std.specs.List.{AllZip}
use Rattle.vcd_core.specs.declared.bit.Bit.{Bit}
use Rattle.vcd_core.specs.Value.{same_letters}
use Rattle.vcd_text.specs.Letters.{value_of_digits}
use Rattle.vcd_compare.specs.Differences.{WaveByTicks, compared, ticks_between}
use Rattle.vcd_compare.specs.ShortestRun.{short_run}
use Rattle.vcd_compare.specs.Variables.{last_value}
use Rattle.vcd_compare.specs.VariableDifferences.{VariableDifferences, by_letters, by_words}
use Rattle.vcd_compare.specs.inside.SignalPair.{PairWaves, letters, words}
use Rattle.vcd_compare.specs.inside.WavePair.{HasValueUntil, HasFoundBefore, first_after}
use Rattle.vcd_compare.specs.inside.WavePair.{second_after}
use Rattle.vcd_compare.specs.inside.Occurrences.{HasOccurrences}
use Rattle.vcd_compare.specs.declared.differences.Differences.{Differences}
use Rattle.vcd_compare.specs.declared.wave_pair.Bounds.{Bounds}
use Rattle.vcd_compare.specs.declared.wave_pair.WavePair.{WavePair}
use Rattle.vcd_compare.specs.declared.pairs.Which.{Which}
use Rattle.vcd_compare.specs.declared.pairs.Which.TheVariants.{First, Second}
use Rattle.vcd_compare.specs.declared.pairs.SignalPair.{SignalPair}
use Rattle.vcd_compare.specs.declared.pairs.ComparedPair.{ComparedPair}
use Rattle.vcd_compare.specs.declared.pairs.Pairs.{Pairs}

-- ---- which pairs a variable is in

-- the variable of a pair in one of the captures
abbrev pub variable_in : Which → SignalPair → ℕ
variable_in First p = p.first_variable
variable_in Second p = p.second_variable

-- the pairs are listed by their variables, of which the captures have so many
pub record AreListed (count others : ℕ) (pairs : Pairs) : Type 0 where
  pub first : HasOccurrences count (map (variable_in First) pairs.all.items) pairs.of_first
  pub second : HasOccurrences others (map (variable_in Second) pairs.all.items) pairs.of_second

-- what belongs to one of two captures
abbrev pub chosen : {A : Type 0} → Which → (first second : A) → A
chosen First first second = first
chosen Second first second = second

-- ---- a change

-- one of two waves has got a value at a tick
pub record HasChanged {V : Type 0} (same : V → V → Bool) (bounds : Bounds) (which : Which)
    (tick : ℕ) (value : V) (old new : WavePair V) : Type 0 where
  pub found : (wave other : WaveByTicks V)
      → HasFoundBefore same bounds.tolerance wave other bounds.first old
      → HasValueUntil wave old.tick tick old.a → HasValueUntil other old.tick tick old.b
      → HasFoundBefore same bounds.tolerance wave other bounds.first new
  pub tick_is : new.tick ≡ max old.tick tick
  pub a : new.a ≡ first_after which value old.a
  pub b : new.b ≡ second_after which value old.b

-- one of two waves has got at a tick the value of this width that a text writes, or the text itself
abbrev pub HasText : (width : ℕ) → Bounds → Which → (tick : ℕ) → (text : List ℕ)
    → (old new : PairWaves) → Type 0
HasText width bounds which tick text (letters old) (letters new) = (value : List Bit)
    → value_of_digits width text ≡ Some value
    → HasChanged same_letters bounds which tick value old new
HasText width bounds which tick text (words old) (words new) =
    HasChanged bytes_eq bounds which tick text old new
HasText width bounds which tick text (letters old) (words new) = ⊥
HasText width bounds which tick text (words old) (letters new) = ⊥

-- a variable has got a text at a tick, which is one of a pair or not
pub record IsPairAfter (bounds : Bounds) (which : Which) (variable tick : ℕ) (text : List ℕ)
    (old new : SignalPair) : Type 0 where
  pub others : new ≡ record old { waves = new.waves }
  pub changed : variable_in which old ≡ variable
      → HasText old.width bounds which tick text old.waves new.waves
  pub unchanged : variable_in which old ≢ variable → new.waves ≡ old.waves

-- the same of all pairs
pub record ArePairsAfter (bounds : Bounds) (which : Which) (variable tick : ℕ) (digits : List ℕ)
    (old new : List SignalPair) : Type 0 where
  pub count : length new ≡ length old
  pub each : (i : ℕ) (default : SignalPair) → i < length old
      → IsPairAfter bounds which variable tick digits (slice_index_or old i default)
      (slice_index_or new i default)

-- ---- what a pair knows of its waves

-- no change is before a tick
abbrev pub AllFrom : {V : Type 0} → (floor : ℕ) → List (ℕ × V) → Type 0
AllFrom floor [] = Unit {0}
AllFrom floor (c ∷ cs) = (floor ≤ c.0) × AllFrom floor cs

-- two waves have been compared up to before a tick, from which on these changes are left; the
-- window ends at `last`
pub record IsWavePairAt {V : Type 0} (same : V → V → Bool) (bounds : Bounds) (last : ℕ)
    (wave other : WaveByTicks V) (left_a left_b : List (ℕ × V)) (p : WavePair V) : Type 0 where
  pub found : HasFoundBefore same bounds.tolerance wave other bounds.first p
  pub a : (s : ℕ) → p.tick ≤ s → wave s ≡ last_value p.a left_a s
  pub b : (s : ℕ) → p.tick ≤ s → other s ≡ last_value p.b left_b s
  pub within : p.tick ≤ max bounds.first last

-- ---- the end

-- this is told of two waves, if `last` is the last tick of the window
abbrev pub AreToldOf : {V : Type 0} → (same : V → V → Bool) → Bounds → (last : ℕ) → WavePair V
    → Differences V → (short_run : Option ℕ) → Type 0
AreToldOf {V} same bounds last p differences short_run_told = (wave other : WaveByTicks V)
    → p.tick ≤ last → HasFoundBefore same bounds.tolerance wave other bounds.first p
    → HasValueUntil wave p.tick (last + 1) p.a
    → HasValueUntil other p.tick (last + 1) p.b
    → (differences ≡ compared same bounds.tolerance wave other (ticks_between bounds.first last))
    × (short_run_told
    ≡ short_run same bounds.tolerance wave other (ticks_between bounds.first last))

-- the same of waves of letters or of words
abbrev pub AreToldOfWaves : Bounds → (last : ℕ) → PairWaves → VariableDifferences
    → (short_run : Option ℕ) → Type 0
AreToldOfWaves bounds last (letters p) (by_letters ds) short =
    AreToldOf same_letters bounds last p ds short
AreToldOfWaves bounds last (words p) (by_words ds) short =
    AreToldOf bytes_eq bounds last p ds short
AreToldOfWaves bounds last (letters p) (by_words ds) short = ⊥
AreToldOfWaves bounds last (words p) (by_letters ds) short = ⊥

-- the same of a pair
pub record IsToldOf (bounds : Bounds) (last : ℕ) (p : SignalPair) (told : ComparedPair)
    : Type 0 where
  pub first : told.first ≡ p.first
  pub second : told.second ≡ p.second
  pub waves : AreToldOfWaves bounds last p.waves told.differences told.short_run

-- the same of all pairs
abbrev pub AreTold : Bounds → (last : ℕ) → List SignalPair → List ComparedPair → Type 0
AreTold bounds last = AllZip (IsToldOf bounds last)
