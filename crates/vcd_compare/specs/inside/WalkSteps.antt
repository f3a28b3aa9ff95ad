-- A walk over two files: what the pairs hold of the changes that were given to them, and what is
-- known of what is left.
use Rattle.std.specs.Prelude.{◌≡◌, ℕ, ◌+◌, ◌*◌, ◌==◌, ◌≤◌, ◌<◌, min, Bool, false, List, []}
use Rattle.std.specs.Prelude.{◌∷◌, ◌++◌, map, filter, length, slice_index_or, slice_get, bytes_eq}
use Rattle.std.specs.Prelude.{Option, Some, None, IfSome, IsTrue}
use Rattle.vcd_core.specs.declared.bit.Bit.{Bit}
use Rattle.vcd_core.specs.Value.{same_letters, all_x}
use Rattle.vcd_text.specs.Letters.{extension, letters_of_digits}
use Rattle.vcd_text.specs.Grammar.{VariableDeclaration, ParseState, kept_variables}
use Rattle.vcd_text.specs.HeardChanges.{HeardChange, AreHeard, skipped_variables}
use Rattle.vcd_text.specs.HeardLaws.{TicksRise}
use Rattle.vcd_text.specs.inside.reading.ChangeStream.{IsStreamAt}
use Rattle.vcd_text.specs.declared.reading.heard_changes.ChangeTarget.{ChangeTarget}
use Rattle.vcd_text.specs.declared.reading.heard_changes.ChangeTarget.TheVariants.{Kept, Skipped}
use Rattle.vcd_compare.specs.Comparisons.{IsCompareFault}
use Rattle.vcd_compare.specs.Differences.{WaveByTicks}
use Rattle.vcd_compare.specs.Variables.{last_value, is_event_kind, word_of}
use Rattle.vcd_compare.specs.inside.LeftOut.{HasCounted}
use Rattle.vcd_compare.specs.inside.Pairs.{IsWavePairAt, AreListed, ArePairsAfter, chosen}
use Rattle.vcd_compare.specs.inside.Side.{at_hand, needs_chunk, first_tick, IsSideAt, ReadsOn}
use Rattle.vcd_compare.specs.inside.Side.{IsHeardWhole}
use Rattle.vcd_compare.specs.inside.SignalPair.{PairWaves, letters, words}
use Rattle.vcd_compare.specs.inside.Walk.{ArePlanned, AreWalked, all_variables, are_letters}
use Rattle.vcd_compare.specs.declared.wave_pair.Bounds.{Bounds}
use Rattle.vcd_compare.specs.declared.wave_pair.WavePair.{WavePair}
use Rattle.vcd_compare.specs.declared.pairs.Pairs.{Pairs}
use Rattle.vcd_compare.specs.declared.pairs.Which.{Which}
use Rattle.vcd_compare.specs.declared.pairs.Which.TheVariants.{First, Second}
use Rattle.vcd_compare.specs.declared.pairs.SignalPair.{SignalPair}
use Rattle.vcd_compare.specs.declared.request.CompareRequest.{CompareRequest}
use Rattle.vcd_compare.specs.declared.comparison.CompareError.{CompareError}
use Rattle.vcd_compare.specs.declared.side.Side.{Side}
use Rattle.vcd_compare.specs.declared.walk.Walk.{Walk}

-- ---- the changes of a variable

-- the position among all variables of the one that a target names; so many of them are signals
abbrev pub target_position : (signals : ℕ) → ChangeTarget → ℕ
target_position signals (Kept position) = position
target_position signals (Skipped position) = signals + position

-- whether a declaration is there, and is that of an event
abbrev pub declares_event : Option VariableDeclaration → Bool
declares_event None = false
declares_event (Some d) = is_event_kind d.kind

-- what the pairs are given of a text of a target at a tick of the comparison: of a signal the text,
-- of a skipped variable what it is compared by. The first one with its code says whether it is an
-- event
abbrev pub text_of_target : (skipped : List VariableDeclaration) → ChangeTarget → (tick : ℕ)
    → (text : List ℕ) → List ℕ
text_of_target skipped (Kept position) tick text = text
text_of_target skipped (Skipped position) tick text =
    word_of (declares_event (slice_get skipped position)) tick text

-- the same of a change
abbrev pub given_text : (skipped : List VariableDeclaration) → (tick : ℕ) → HeardChange → List ℕ
given_text skipped tick h = text_of_target skipped h.target tick h.text

-- a variable of a file, as it is heard: how many ticks of the comparison a tick of the file has,
-- the position of the variable among all, of which so many are signals, its value before the first
-- change, and the value of a change
pub record HeardVariable (V : Type 0) : Type 0 where
  pub factor : ℕ
  pub signals : ℕ
  pub position : ℕ
  pub before : V
  pub value : HeardChange → V

-- its changes, by ticks of the comparison
abbrev pub own_changes : {V : Type 0} → HeardVariable V → List HeardChange → List (ℕ × V)
own_changes v heard = map (λ h. (h.tick * v.factor, v.value h))
    (filter (λ h. target_position v.signals h.target == v.position) heard)

-- its wave, if these are all changes of the file
abbrev pub wave_heard : {V : Type 0} → HeardVariable V → List HeardChange → WaveByTicks V
wave_heard v heard = last_value v.before (own_changes v heard)

-- the ticks of some changes, in ticks of the comparison
abbrev pub scaled_ticks : (factor : ℕ) → List HeardChange → List ℕ
scaled_ticks factor heard = map (λ h. h.tick * factor) heard

-- no change is before a tick of the comparison
abbrev pub AllHeardFrom : (factor floor : ℕ) → List HeardChange → Type 0
AllHeardFrom factor floor [] = Unit {0}
AllHeardFrom factor floor (h ∷ hs) = (floor ≤ h.tick * factor) × AllHeardFrom factor floor hs

-- ---- the pairs

-- a file of which these changes were given to the pairs
pub record GivenFile : Type 0 where
  pub factor : ℕ
  pub declared : List VariableDeclaration
  pub given : List HeardChange

-- the signal of a width at a position, by its letters
abbrev pub signal_heard : GivenFile → (width position : ℕ) → HeardVariable (List Bit)
signal_heard f width position = record {
  factor = f.factor;
  signals = length (kept_variables f.declared);
  position = position;
  before = all_x width;
  value = λ h. extension width (letters_of_digits h.text);
}

-- the skipped variable at a position, by its words
abbrev pub skipped_heard : GivenFile → (position : ℕ) → HeardVariable (List ℕ)
skipped_heard f position = record {
  factor = f.factor;
  signals = length (kept_variables f.declared);
  position = position;
  before = [];
  value = λ h. given_text (skipped_variables f.declared) (h.tick * f.factor) h;
}

-- two waves after these changes of both files; the others that they will get are from a tick on
abbrev pub IsWavePairSince : {V : Type 0} → (same : V → V → Bool) → Bounds → (floor : ℕ)
    → (v w : HeardVariable V) → (given other_given : List HeardChange) → WavePair V → Type 0
IsWavePairSince same bounds floor v w given other_given p =
    (last : ℕ) (left other_left : List HeardChange) → floor ≤ last
    → AllHeardFrom v.factor floor left → AllHeardFrom w.factor floor other_left
    → IsWavePairAt same bounds last (wave_heard v (given ++ left))
    (wave_heard w (other_given ++ other_left)) (own_changes v left) (own_changes w other_left) p

-- the waves of a pair after the changes that were given of both files
abbrev pub ArePairWavesAt : Bounds → (floor : ℕ) → (f g : GivenFile) → SignalPair → PairWaves
    → Type 0
ArePairWavesAt bounds floor f g p (letters waves) = IsWavePairSince same_letters bounds floor
    (signal_heard f p.width p.first_variable) (signal_heard g p.width p.second_variable) f.given
    g.given waves
ArePairWavesAt bounds floor f g p (words waves) = IsWavePairSince bytes_eq bounds floor
    (skipped_heard f p.first_variable) (skipped_heard g p.second_variable) f.given g.given waves

-- a pair before the walk, and after the changes that were given of both files
pub record IsPairAt (bounds : Bounds) (floor : ℕ) (f g : GivenFile) (old new : SignalPair) : Type 0
  where
    pub others : new ≡ record old { waves = new.waves }
    pub kind : are_letters new.waves ≡ are_letters old.waves
    pub compared : ArePairWavesAt bounds floor f g old new.waves

-- the same of all pairs
pub record ArePairsAt (bounds : Bounds) (floor : ℕ) (f g : GivenFile) (old new : List SignalPair)
    : Type 0 where
  pub count : length new ≡ length old
  pub each : (i : ℕ) (default : SignalPair) → i < length old → IsPairAt bounds floor f g
      (slice_index_or old i default) (slice_index_or new i default)

-- ---- the walk

-- the pairs are planned by the declarations of both files, whose states these are
pub record IsPlan (s t : ParseState) (w : Walk) : Type 0 where
  pub declared : IsTrue s.in_body
  pub other_declared : IsTrue t.in_body
  pub factor : 1 ≤ w.first.factor
  pub other_factor : 1 ≤ w.second.factor
  pub planned : ArePlanned w.pairs.bounds s.declared t.declared w.pairs.all.items
  pub listed : AreListed (length (all_variables s.declared)) (length (all_variables t.declared))
      w.pairs

-- both files were opened, and nothing was given to the pairs
pub record IsWalkStart (coming other_coming left other_left : Option (List ℕ)) (s t : ParseState)
    (w : Walk) : Type 0 where
  pub first : IsSideAt coming left s [] w.first
  pub second : IsSideAt other_coming other_left t [] w.second

-- a side of a walk, since its start: `given` were taken, and what is at hand is from a tick on
pub record IsSideSince (coming left : Option (List ℕ)) (s : ParseState) (given : List HeardChange)
    (floor : ℕ) (start side : Side) : Type 0 where
  pub on : ReadsOn coming left s (at_hand start) given side
  pub rise : TicksRise floor (on.later.tick * side.factor)
      (scaled_ticks side.factor (at_hand side))
  pub factor : side.factor ≡ start.factor

-- a side of a walk, as a file of which these changes were given to the pairs
abbrev pub given_file : ParseState → Side → (given : List HeardChange) → GivenFile
given_file s side given = record { factor = side.factor; declared = s.declared; given = given }

-- a walk, since its start: these changes were given to the pairs
pub record IsWalkAt (most : ℕ) (coming other_coming left other_left : Option (List ℕ))
    (s t : ParseState) (start w : Walk) : Type 0 where
  pub given : List HeardChange
  pub other_given : List HeardChange
  pub floor : ℕ
  pub by : floor ≤ most
  pub first : IsSideSince coming left s given floor start.first w.first
  pub second : IsSideSince other_coming other_left t other_given floor start.second w.second
  pub bounds : w.pairs.bounds ≡ start.pairs.bounds
  pub listed : IsPlan s t start → AreListed (length (all_variables s.declared))
      (length (all_variables t.declared)) w.pairs
  pub pairs : IsPlan s t start → ArePairsAt start.pairs.bounds floor
      (given_file s w.first given) (given_file t w.second other_given)
      start.pairs.all.items w.pairs.all.items

-- what the pairs do with a change of a variable to a text
pub record AreGiven (which : Which) (variable tick : ℕ) (text : List ℕ) (old new : Pairs) : Type 0
  where
    pub bounds : new.bounds ≡ old.bounds
    pub listed : (count others : ℕ) → AreListed count others old
        → variable < chosen which count others → AreListed count others new
    pub changed : (count others : ℕ) → AreListed count others old
        → variable < chosen which count others
        → ArePairsAfter old.bounds which variable tick text old.all.items new.all.items

-- a file with this state was heard, and the pairs were given this change of it
abbrev pub IsGiven : ParseState → Which → (tick : ℕ) → HeardChange → (old new : Pairs) → Type 0
IsGiven s which tick h =
    AreGiven which (target_position (length (kept_variables s.declared)) h.target) tick
    (given_text (skipped_variables s.declared) tick h)

-- the earlier one of two ticks
abbrev pub earlier_tick : (tick other : Option ℕ) → Option ℕ
earlier_tick None other = other
earlier_tick (Some tick) None = Some tick
earlier_tick (Some tick) (Some other) = Some (min tick other)

-- the tick of the first change at hand
abbrev pub next_of : Walk → Option ℕ
next_of w = earlier_tick (first_tick w.first.factor (at_hand w.first))
    (first_tick w.second.factor (at_hand w.second))

-- the last tick that both files have so far, or `most` if that is less
abbrev pub last_of : (most : ℕ) → (s t : ParseState) → Walk → ℕ
last_of most s t w = min most (min (s.tick * w.first.factor) (t.tick * w.second.factor))

-- this is that tick, whatever the states are
abbrev pub IsLast : (most last : ℕ) → Walk → Type 0
IsLast most last w = (s t : ParseState) → IsStreamAt w.first.stream s
    → IsStreamAt w.second.stream t → last ≡ last_of most s t w

-- a side of the walk
abbrev pub side_of : Which → Walk → Side
side_of First w = w.first
side_of Second w = w.second

-- no other change is given: the next one is past the last tick that both files have
pub record IsWalkOver (most : ℕ) (w : Walk) : Type 0 where
  pub first : needs_chunk w.first ≡ false
  pub second : needs_chunk w.second ≡ false
  pub late : IfSome (next_of w) (λ tick. (s t : ParseState) → IsStreamAt w.first.stream s
      → IsStreamAt w.second.stream t → last_of most s t w < tick)

-- the next change that is given
pub record IsNextChange (most : ℕ) (which : Which) (tick : ℕ) (w : Walk) : Type 0 where
  pub is : next_of w ≡ Some tick
  pub of : first_tick (side_of which w).factor (at_hand (side_of which w)) ≡ Some tick
  pub by : (s t : ParseState) → IsStreamAt w.first.stream s → IsStreamAt w.second.stream t
      → tick ≤ last_of most s t w

-- both files were read to their ends, and this is what the pairs hold
pub record HasWalked (coming other_coming : Option (List ℕ)) (s t : ParseState) (most last : ℕ)
    (start w : Walk) : Type 0 where
  pub state : ParseState
  pub other_state : ParseState
  pub more : List HeardChange
  pub other_more : List HeardChange
  pub heard : AreHeard s state more
  pub other_heard : AreHeard t other_state other_more
  pub at : IsStreamAt w.first.stream state
  pub other_at : IsStreamAt w.second.stream other_state
  pub whole : IsHeardWhole coming state (at_hand start.first ++ more)
  pub other_whole : IsHeardWhole other_coming other_state (at_hand start.second ++ other_more)
  pub counted : HasCounted (at_hand start.first ++ more) w.first.left_out w.first.last_ticks
  pub other_counted : HasCounted (at_hand start.second ++ other_more) w.second.left_out
      w.second.last_ticks
  pub last_is : last ≡ last_of most state other_state start
  pub bounds : w.pairs.bounds ≡ start.pairs.bounds
  pub walked : IsPlan s t start → AreWalked start.pairs.bounds last start.first.factor
      start.second.factor (record { state = state; heard = at_hand start.first ++ more })
      (record { state = other_state; heard = at_hand start.second ++ other_more })
      start.pairs.all.items w.pairs.all.items

-- why there is no comparison, whatever the request is, if the sources have these bytes left, and
-- have failed or not
abbrev pub FailsWith : (coming other_coming left : Option (List ℕ)) → (failed : Bool)
    → (other_left : Option (List ℕ)) → (other_failed : Bool) → CompareError → Type 0
FailsWith coming other_coming left failed other_left other_failed e = (r : CompareRequest)
    → IfSome coming (λ file. IfSome other_coming (λ other. IsCompareFault r file other
    (record { before = coming; after = left; has_failed = failed })
    (record { before = other_coming; after = other_left; has_failed = other_failed }) e))
