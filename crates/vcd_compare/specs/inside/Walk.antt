-- The walk over two files: the pairs as they are planned before it, and what they hold after it.
use Rattle.std.specs.Prelude.{◌≡◌, ℕ, ◌+◌, ◌≤◌, max, Bool, true, false, nat_lt, if◌then◌else◌}
use Rattle.std.specs.Prelude.{List, [], ◌++◌, length, Some, All, slice_get, bytes_eq}
use Rattle.std.specs.List.{AllZip}
use Rattle.vcd_core.specs.declared.bit.Bit.{Bit}
use Rattle.vcd_core.specs.Value.{same_letters, all_x}
use Rattle.vcd_text.specs.Grammar.{VariableDeclaration, ParseState, kept_variables}
use Rattle.vcd_text.specs.HeardChanges.{HeardChange, first_with, skipped_variables}
use Rattle.vcd_text.specs.Meaning.{declared_signal}
use Rattle.vcd_compare.specs.Captures.{wave_by_tick}
use Rattle.vcd_compare.specs.Differences.{WaveByTicks}
use Rattle.vcd_compare.specs.Variables.{word_variable, word_by_tick}
use Rattle.vcd_compare.specs.inside.SignalPair.{PairWaves, letters, words}
use Rattle.vcd_compare.specs.inside.WavePair.{HasFoundBefore, HasValueUntil}
use Rattle.vcd_compare.specs.declared.wave_pair.Bounds.{Bounds}
use Rattle.vcd_compare.specs.declared.wave_pair.WavePair.{WavePair}
use Rattle.vcd_compare.specs.declared.pairs.SignalPair.{SignalPair}

-- ---- the variables of a file, by their positions

-- the variables: those that are signals, and after them the skipped ones
abbrev pub all_variables : (declared : List VariableDeclaration) → List VariableDeclaration
all_variables declared = kept_variables declared ++ skipped_variables declared

-- whether the one at a position is a signal
abbrev pub is_kept_at : (declared : List VariableDeclaration) → ℕ → Bool
is_kept_at declared k = nat_lt k (length (kept_variables declared))

-- the position of the first one, kept or skipped as it is, with the code of the one at a position
abbrev pub first_position : (declared : List VariableDeclaration) → ℕ → VariableDeclaration → ℕ
first_position declared k d =
    if is_kept_at declared k then first_with d.code (kept_variables declared)
    else length (kept_variables declared) + first_with d.code (skipped_variables declared)

-- ---- the pairs before the walk

-- two waves at the first tick of the window, with one value
pub record IsBegun {V : Type 0} (bounds : Bounds) (value : V) (p : WavePair V) : Type 0 where
  pub tick : p.tick ≡ bounds.first
  pub a : p.a ≡ value
  pub b : p.b ≡ value

-- two declared variables, which are signals of one width, all x; or both are none, without a word
abbrev pub AreBegun : Bounds → (is_kept other_is_kept : Bool) → (d e : VariableDeclaration)
    → (width : ℕ) → PairWaves → Type 0
AreBegun bounds is_kept other_is_kept d e width (letters p) = (is_kept ≡ true)
    × (other_is_kept ≡ true) × (d.size ≡ width) × (e.size ≡ width)
    × IsBegun bounds (all_x width) p
AreBegun bounds is_kept other_is_kept d e width (words p) =
    (is_kept ≡ false) × (other_is_kept ≡ false) × IsBegun bounds [] p

-- a pair of two declared variables, at the first tick of the window
pub record IsPlannedPair (bounds : Bounds) (declared others : List VariableDeclaration)
    (p : SignalPair) : Type 0 where
  pub own : VariableDeclaration
  pub partner : VariableDeclaration
  pub at_first : slice_get (all_variables declared) p.first ≡ Some own
  pub at_second : slice_get (all_variables others) p.second ≡ Some partner
  pub first_variable : p.first_variable ≡ first_position declared p.first own
  pub second_variable : p.second_variable ≡ first_position others p.second partner
  pub begun : AreBegun bounds (is_kept_at declared p.first) (is_kept_at others p.second) own
      partner p.width p.waves

-- the same of all pairs
abbrev pub ArePlanned : Bounds → (declared others : List VariableDeclaration) → List SignalPair
    → Type 0
ArePlanned bounds declared others = All (IsPlannedPair bounds declared others)

-- ---- the pairs after the walk

-- a file that was read to its end: its state there, and all that was heard of it
pub record WholeFile : Type 0 where
  pub state : ParseState
  pub heard : List HeardChange

-- the wave of a kept variable of a file, by ticks of the comparison
abbrev pub wave_of : (factor : ℕ) → ParseState → VariableDeclaration → WaveByTicks (List Bit)
wave_of factor s d = wave_by_tick factor (declared_signal s.value_changes s.tick d)

-- the wave of a skipped one
abbrev pub word_wave_of : (factor : ℕ) → WholeFile → VariableDeclaration → WaveByTicks (List ℕ)
word_wave_of factor f d =
    word_by_tick factor (word_variable (skipped_variables f.state.declared) f.heard d)

-- two waves have been compared up to `last`: the pair holds their values from its tick on
pub record IsComparedUpTo {V : Type 0} (same : V → V → Bool) (bounds : Bounds) (last : ℕ)
    (wave other : WaveByTicks V) (p : WavePair V) : Type 0 where
  pub found : HasFoundBefore same bounds.tolerance wave other bounds.first p
  pub within : p.tick ≤ max bounds.first last
  pub a : HasValueUntil wave p.tick (last + 1) p.a
  pub b : HasValueUntil other p.tick (last + 1) p.b

-- the same of the waves of two declared variables
abbrev pub AreComparedUpTo : Bounds → (last factor other_factor : ℕ) → (f g : WholeFile)
    → (d e : VariableDeclaration) → PairWaves → Type 0
AreComparedUpTo bounds last factor other_factor f g d e (letters p) = IsComparedUpTo same_letters
    bounds last (wave_of factor f.state d) (wave_of other_factor g.state e) p
AreComparedUpTo bounds last factor other_factor f g d e (words p) = IsComparedUpTo bytes_eq bounds
    last (word_wave_of factor f d) (word_wave_of other_factor g e) p

-- whether waves are of letters
abbrev pub are_letters : PairWaves → Bool
are_letters (letters p) = true
are_letters (words p) = false

-- a pair before and after the walk, which has read both files to their ends
pub record IsWalkedPair (bounds : Bounds) (last factor other_factor : ℕ) (f g : WholeFile)
    (old new : SignalPair) : Type 0 where
  pub others : new ≡ record old { waves = new.waves }
  pub kind : are_letters new.waves ≡ are_letters old.waves
  pub compared : (d e : VariableDeclaration)
      → slice_get (all_variables f.state.declared) old.first ≡ Some d
      → slice_get (all_variables g.state.declared) old.second ≡ Some e
      → AreComparedUpTo bounds last factor other_factor f g d e new.waves

-- the same of all pairs
abbrev pub AreWalked : Bounds → (last factor other_factor : ℕ) → (f g : WholeFile)
    → (old new : List SignalPair) → Type 0
AreWalked bounds last factor other_factor f g =
    AllZip (IsWalkedPair bounds last factor other_factor f g)
