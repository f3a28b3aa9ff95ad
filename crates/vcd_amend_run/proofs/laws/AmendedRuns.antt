-- What a run leaves of a file's signals, and the amendment by which the file means the last capture.
use Rattle.std.proofs.Common.{◌≡◌, ◌≤◌, ◌<◌, ℕ, zero, suc, ◌+◌, Bool, true, false, if◌then◌else◌, List, [], ◌∷◌, ◌++◌}
use Rattle.std.proofs.Common.{length, map, take, drop, get_or, Option, Some, None, refl, sym, ap, subst, ◌∙◌, arith}
use Rattle.std.specs.Prelude.{nat_eq, option_map, count_by, IsTrue}
use Rattle.std.specs.List.{AllByRecursion, range_with_len}
use Rattle.std.proofs.lemmas.Bool.Decides.{nat_tests}
use Rattle.std.proofs.lemmas.List.{append_assoc, length-append, length-map, take-append-drop}
use Rattle.std.proofs.lemmas.List.Elements.{recursion_from_All, All-from_recursion}
use Rattle.std.proofs.lemmas.Option.{same_Some}
use Rattle.vcd_core.specs.declared.capture.TheConstants.{SIGNAL_LIMIT}
use Rattle.vcd_core.specs.Contents.{Contents, SignalContents, no_signal, signal_at}
use Rattle.vcd_core.specs.Sound.{IsSound, IsSoundSignal}
use Rattle.vcd_text.specs.Grammar.{ParseState, VariableDeclaration, initial_state, kept_variables, is_skipped}
use Rattle.vcd_text.specs.Grammar.{AllowsAll}
use Rattle.vcd_text.specs.Meaning.{declared_signal, meaning, FileMeans}
use Rattle.vcd_copy.specs.Pieces.{Piece, IsCut, state_of_pieces}
use Rattle.vcd_amend.specs.Amendment.{Amendment}
use Rattle.vcd_amend.specs.AmendedText.{amended_text}
use Rattle.vcd_amend.specs.WhatStands.{ItemsStand}
use Rattle.vcd_amend.specs.GivenCodes.{IsSignalOf, AreSignalsOf, signals_left, amendment_for}
use Rattle.vcd_amend.proofs.what_stands.Whole.{untouched_items_stand}
use Rattle.vcd_edit.specs.declared.edit.Edit.{Edit}
use Rattle.vcd_edit.specs.declared.edit.Edit.TheVariants.{Cut}
use Rattle.vcd_edit.specs.Effect.{cut_contents, effect}
use Rattle.vcd_hollow.specs.OtherWaves.{OtherChanges, with_other, signals_with_others}
use Rattle.vcd_journal.specs.History.{replay}
use Rattle.vcd_hollow.specs.Origins.{origins}
use Rattle.vcd_core.specs.SignalOrigins.{RiseWithin, HaveSamePlace, ComeFrom}
use Rattle.vcd_hollow.specs.Cuts.{cuts}
use Rattle.vcd_hollow.specs.Hollow.{filled, hollow}
use Rattle.vcd_hollow.proofs.shared.Origins.{origins_rise, origins_fit, come_again, signals_come_from_origins}
use Rattle.vcd_hollow.proofs.shared.Cuts.{same_place_after_cuts, count_after_cuts}
use Rattle.vcd_hollow.specs.HollowRun.{last_edits, last_capture}
use Rattle.vcd_amend_run.specs.AmendedRun.{signals_remaining, signals_derived, RemainingThenDerived}
use Rattle.vcd_core.specs.SignalOrigins.{signal_from}
use Rattle.vcd_amend_run.specs.AmendedRun.{IsAfterCuts, RemainingAreOfVariables, RemainingByHollow}
use Rattle.vcd_script.proofs.shared.LawsOfRun.{laws}

-- ---- the signal with an origin

differs : (k j : ℕ) → k < j → nat_eq k j ≡ false
differs k j less = grind (arith, nat_tests)

differs_back : (k j : ℕ) → j < k → nat_eq k j ≡ false
differs_back k j less = grind (arith, nat_tests)

same_number : (k j : ℕ) → nat_eq k j ≡ true → k ≡ j
same_number k j same = grind (arith, nat_tests)

other_number : (k j : ℕ) → nat_eq k j ≡ false → k ≤ j → k < j
other_number k j other upto = grind (arith, nat_tests)

none_below : (floor count k : ℕ) (ks : List ℕ) (ss : List SignalContents) → RiseWithin floor count ks → k < floor
    → signal_from k ks ss ≡ None
none_below floor count k [] ss rise less = refl
none_below floor count k (j ∷ ks) [] rise less = refl
none_below floor count k (j ∷ ks) (s ∷ ss) rise less =
    (λ i. if differs k j (omega (arith, rise.0, less)) i then Some s else signal_from k ks ss)
    ∙ none_below (suc j) count k ks ss rise.2 (omega (arith, rise.0, less))

-- later numbers are not the first origin
not_first : (from n j : ℕ) (ks : List ℕ) (s : SignalContents) (ss : List SignalContents) → j < from
    → map (λ k. signal_from k (j ∷ ks) (s ∷ ss)) (range_with_len from n)
    ≡ map (λ k. signal_from k ks ss) (range_with_len from n)
not_first from zero j ks s ss less = refl
not_first from (suc n) j ks s ss less = λ i.
    (if differs_back from j less i then Some s else signal_from from ks ss)
    ∷ not_first (from + 1) n j ks s ss (omega (arith, less)) i

-- the first origin is this number, or a later one
first_left : (from n count j : ℕ) (ks : List ℕ) (s : SignalContents) (ss : List SignalContents) (b : Bool)
    → nat_eq from j ≡ b → from ≤ j → RiseWithin (suc j) count ks
    → (from ≡ j → signals_left (map (λ k. signal_from k ks ss) (range_with_len (from + 1) n)) ≡ take (length ks) ss)
    → (from < j → signals_left (map (λ k. signal_from k (j ∷ ks) (s ∷ ss)) (range_with_len (from + 1) n))
    ≡ s ∷ take (length ks) ss)
    → signals_left (map (λ k. signal_from k (j ∷ ks) (s ∷ ss)) (range_with_len from (suc n))) ≡ s ∷ take (length ks) ss
first_left from n count j ks s ss true is upto rise here later =
    let same : from ≡ j = same_number from j is in
    (λ i. signals_left (
    (if is i then Some s else signal_from from ks ss) ∷ not_first (from + 1) n j ks s ss (omega (arith, same)) i))
    ∙ ap (λ (rest : List SignalContents). s ∷ rest) (here same)
first_left from n count j ks s ss false is upto rise here later =
    let less : from < j = other_number from j is upto in
    (λ i. signals_left (
    (if is i then Some s else none_below (suc j) count from ks ss rise (omega (arith, less)) i)
    ∷ map (λ k. signal_from k (j ∷ ks) (s ∷ ss)) (range_with_len (from + 1) n)))
    ∙ later less

-- all of them, in their order
all_left : (from n count : ℕ) (ks : List ℕ) (ss : List SignalContents) → RiseWithin from count ks → count ≤ from + n
    → length ks ≤ length ss
    → signals_left (map (λ k. signal_from k ks ss) (range_with_len from n)) ≡ take (length ks) ss
all_left from zero count [] ss rise within fits = refl
all_left from zero count (j ∷ ks) ss rise within fits = absurd (omega (arith, rise.0, rise.1, within))
all_left from (suc n) count [] ss rise within fits =
    all_left (from + 1) n count [] ss tt (omega (arith, within)) fits
all_left from (suc n) count (j ∷ ks) [] rise within fits = absurd (omega (arith, fits))
all_left from (suc n) count (j ∷ ks) (s ∷ ss) rise within fits =
    first_left from n count j ks s ss (nat_eq from j) refl rise.0 rise.2
    (λ here. all_left (from + 1) n count ks ss
    (subst (λ floor. RiseWithin floor count ks) {x = suc j} {y = from + 1} (omega (arith, here)) rise.2)
    (omega (arith, within)) (omega (arith, fits)))
    (λ less. all_left (from + 1) n count (j ∷ ks) (s ∷ ss) (omega (arith, less), rise.1, rise.2)
    (omega (arith, within)) fits)

pub remaining_then_derived : RemainingThenDerived
remaining_then_derived c es =
    let count : ℕ = length c.signals in
    let ks : List ℕ = origins count es in
    let ss : List SignalContents = (replay c es).signals in
    ap (λ (first : List SignalContents). first ++ drop (length ks) ss)
    (all_left 0 count count ks ss (origins_rise count es) (omega arith) (origins_fit c es))
    ∙ take-append-drop (length ks) ss

-- ---- signals of variables

module _ (c : Contents) (end : ℕ) where
  -- a sound signal from that at a position of the capture
  abbrev IsSoundFrom : ℕ → SignalContents → Type 0
  IsSoundFrom k n = HaveSamePlace n (signal_at c k) × IsSoundSignal end n

  first_is : (k j : ℕ) (s n : SignalContents) (rest : Option SignalContents) (b : Bool) → nat_eq k j ≡ b
      → IsSoundFrom j s → (rest ≡ Some n → IsSoundFrom k n) → (if b then Some s else rest) ≡ Some n → IsSoundFrom k n
  first_is k j s n rest true is first later found =
      subst (IsSoundFrom k) (same_Some s n found)
      (subst (λ i. IsSoundFrom i s) (sym (same_number k j is)) first)
  first_is k j s n rest false is first later found = later found

  found_is : (k : ℕ) (ks : List ℕ) (ss : List SignalContents) (n : SignalContents) → ComeFrom c ks ss
      → AllByRecursion (IsSoundSignal end) ss → signal_from k ks ss ≡ Some n → IsSoundFrom k n
  found_is k [] ss n come sound found = absurd (cc)
  found_is k (j ∷ ks) [] n come sound found = absurd come
  found_is k (j ∷ ks) (s ∷ ss) n come sound found =
      first_is k j s n (signal_from k ks ss) (nat_eq k j) refl (come.0, sound.0)
      (λ this. found_is k ks ss n come.1 sound.1 this) found

one_more : (s : ParseState) (d : VariableDeclaration) (ds : List VariableDeclaration) (o : Option SignalContents)
    (ns : List (Option SignalContents)) → ((n : SignalContents) → o ≡ Some n → IsSignalOf s d n) → AreSignalsOf s ds ns
    → AreSignalsOf s (d ∷ ds) (o ∷ ns)
one_more s d ds None ns each rest = rest
one_more s d ds (Some n) ns each rest = (each n refl, rest)

-- the signal of a variable, by its position
pub at_variable : (s : ParseState) (before : List VariableDeclaration) (d : VariableDeclaration)
    (ds : List VariableDeclaration)
    → get_or (map (declared_signal s.value_changes s.tick) (before ++ d ∷ ds)) (length before) no_signal
    ≡ declared_signal s.value_changes s.tick d
at_variable s [] d ds = refl
at_variable s (e ∷ before) d ds = at_variable s before d ds

module _ (t : ParseState) (ks : List ℕ) (ss : List SignalContents) (come : ComeFrom (meaning t) ks ss)
    (sound : AllByRecursion (IsSoundSignal t.tick) ss) where
  are_signals : (before ds : List VariableDeclaration) → kept_variables t.declared ≡ before ++ ds
      → AreSignalsOf t ds (map (λ k. signal_from k ks ss) (range_with_len (length before) (length ds)))
  are_signals before [] is = tt
  are_signals before (d ∷ ds) is =
      let k : ℕ = length before in
      let here : signal_at (meaning t) k ≡ declared_signal t.value_changes t.tick d =
      ap (λ (all : List VariableDeclaration). get_or (map (declared_signal t.value_changes t.tick) all) k no_signal) is
      ∙ at_variable t before d ds in
      let rest = subst (λ n. AreSignalsOf t ds (map (λ k. signal_from k ks ss) (range_with_len n (length ds))))
      (length-append before (d ∷ []))
      (are_signals (before ++ d ∷ []) ds (is ∙ sym (append_assoc before (d ∷ []) ds))) in
      one_more t d ds (signal_from k ks ss) _
      (λ n found.
      let it = found_is (meaning t) t.tick k ks ss n come sound found in
      record {
        scopes = it.0.0 ∙ ap (λ (r : SignalContents). r.scopes) here;
        kind = it.0.1 ∙ ap (λ (r : SignalContents). r.kind) here;
        width = it.0.2 ∙ ap (λ (r : SignalContents). r.width) here;
        sound = it.1;
      })
      rest

all_drop : {X : Type 0} (P : X → Type 0) (n : ℕ) (xs : List X) → AllByRecursion P xs → AllByRecursion P (drop n xs)
all_drop P zero xs all = all
all_drop P (suc n) [] all = tt
all_drop P (suc n) (x ∷ xs) all = all_drop P n xs all.1

-- edits change the end by cuts alone, and otherwise signals
pub all_but_signals : (c : Contents) (es : List Edit)
    → replay c es ≡ record (replay c (cuts es)) { signals = (replay c es).signals }
unfolding replay effect cuts
all_but_signals c [] = refl
all_but_signals c (Cut from to ∷ es) =
    ap (λ (d : Contents). record (cut_contents from to d) { signals = (replay c (Cut from to ∷ es)).signals })
    (all_but_signals c es)
all_but_signals c (e ∷ es) =
    ap (λ (d : Contents). record d { signals = (replay c (e ∷ es)).signals }) (all_but_signals c es)

-- so a replay is known but for its signals
replay_after_cuts : (s t : ParseState) (es : List Edit) → IsAfterCuts s t es
    → record (replay (meaning s) es) { header = t.header }
    ≡ record (meaning t) { signals = (replay (meaning s) es).signals }
replay_after_cuts s t es after =
    ap (λ (d : Contents). record d { header = t.header }) (all_but_signals (meaning s) es)
    ∙ ap (λ (d : Contents). record d { signals = (replay (meaning s) es).signals }) (sym after.means)

pub remaining_are_of_variables : RemainingAreOfVariables
remaining_are_of_variables s t es whole_sound after_cuts =
    let c : Contents = meaning s in
    let count : ℕ = length c.signals in
    let after : Contents = replay c es in
    let ks : List ℕ = origins count es in
    let same_end : after.end ≡ t.tick = ap (λ (d : Contents). d.end) (replay_after_cuts s t es after_cuts) in
    let sound : AllByRecursion (IsSoundSignal t.tick) after.signals =
    subst (λ end. AllByRecursion (IsSoundSignal end) after.signals) same_end
    (recursion_from_All (IsSoundSignal after.end) after.signals whole_sound.signals) in
    let come : ComeFrom (meaning t) ks after.signals =
    come_again c (meaning t)
    (λ k. subst (λ (d : Contents). HaveSamePlace (signal_at c k) (signal_at d k)) (sym after_cuts.means)
    (same_place_after_cuts c es k)) ks after.signals (signals_come_from_origins c es) in
    let kept : List VariableDeclaration = kept_variables t.declared in
    let as_many : length kept ≡ count =
    sym (length-map kept (declared_signal t.value_changes t.tick))
    ∙ ap (λ (d : Contents). length d.signals) after_cuts.means ∙ count_after_cuts c es in (
      subst (λ n. AreSignalsOf t kept (map (λ k. signal_from k ks after.signals) (range_with_len 0 n))) as_many
          (are_signals t ks after.signals come sound [] kept refl),
      All-from_recursion (IsSoundSignal t.tick) (drop (length ks) after.signals)
          (all_drop (IsSoundSignal t.tick) (length ks) after.signals sound),
    )

-- ---- by the hollow capture

first_with_other : (f : ℕ → OtherChanges) (k j : ℕ) (s : SignalContents) (others rest : Option SignalContents)
    (b : Bool) → nat_eq k j ≡ b → others ≡ option_map (with_other (f k)) rest →
    (if b then Some (with_other (f j) s) else others) ≡ option_map (with_other (f k)) (if b then Some s else rest)
first_with_other f k j s others rest true is same = ap (λ i. Some (with_other (f i) s)) (sym (same_number k j is))
first_with_other f k j s others rest false is same = same

pub from_others : (f : ℕ → OtherChanges) (k : ℕ) (ks : List ℕ) (ss : List SignalContents)
    → signal_from k ks (signals_with_others (map f ks) ss) ≡ option_map (with_other (f k)) (signal_from k ks ss)
from_others f k [] ss = refl
from_others f k (j ∷ ks) [] = refl
from_others f k (j ∷ ks) (s ∷ ss) = first_with_other f k j s _ _ (nat_eq k j) refl (from_others f k ks ss)

derived_stay : (f : ℕ → OtherChanges) (ks : List ℕ) (ss : List SignalContents)
    → drop (length ks) (signals_with_others (map f ks) ss) ≡ drop (length ks) ss
derived_stay f [] ss = refl
derived_stay f (k ∷ ks) [] = refl
derived_stay f (k ∷ ks) (s ∷ ss) = derived_stay f ks ss

pub remaining_by_hollow : RemainingByHollow
remaining_by_hollow silent c skipped depth lines same =
    let count : ℕ = length c.signals in
    let es : List Edit = last_edits c skipped depth lines in
    let ks : List ℕ = origins count es in
    let ss : List SignalContents = (last_capture (hollow silent c) skipped depth lines).signals in
    let other : ℕ → OtherChanges = filled silent (replay c (cuts es)) in
    let known : (last_capture c skipped depth lines).signals ≡ signals_with_others (map other ks) ss =
    ap (λ (after : Contents). after.signals) same.whole_capture in (
      λ i. map (λ k. (ap (signal_from k ks) known ∙ from_others other k ks ss) i) (range_with_len 0 count),
      ap (drop (length ks)) known ∙ derived_stay other ks ss,
    )

-- ---- runs

-- where the state `s` is that of an accepted file, and these pieces are that file after the cuts in force: amended for
-- the last capture of a run, they mean it, but for the header, and each stands but those that may go
pub amended_run_is_meant : (s : ParseState) (depth : ℕ) (lines : List (List ℕ)) (after_cuts : List ℕ)
    (pieces : List Piece) (tail : List ℕ) → IsSound (meaning s) → IsCut after_cuts pieces tail
    → AllowsAll (initial_state SIGNAL_LIMIT) (map (λ p. p.item) pieces)
    → IsTrue (state_of_pieces SIGNAL_LIMIT pieces).in_body →
    let c : Contents = meaning s in
    let skipped : ℕ = count_by is_skipped s.declared in
    let t : ParseState = state_of_pieces SIGNAL_LIMIT pieces in
    let es : List Edit = last_edits c skipped depth lines in
    let after : Contents = last_capture c skipped depth lines in
    let remaining : List (Option SignalContents) = signals_remaining (length c.signals) es after in
    let a : Amendment = amendment_for t remaining (signals_derived (length c.signals) es after) in
    let text : List ℕ = amended_text a true (initial_state SIGNAL_LIMIT) pieces tail in
    IsAfterCuts s t es
    → FileMeans SIGNAL_LIMIT text (record after { header = t.header }) skipped
    × ItemsStand SIGNAL_LIMIT remaining after.signals pieces tail text
amended_run_is_meant s depth lines after_cuts pieces tail whole_sound cut allows in_body same_cuts =
    let c : Contents = meaning s in
    let skipped : ℕ = count_by is_skipped s.declared in
    let t : ParseState = state_of_pieces SIGNAL_LIMIT pieces in
    let es : List Edit = last_edits c skipped depth lines in
    let after : Contents = last_capture c skipped depth lines in
    let remaining : List (Option SignalContents) = signals_remaining (length c.signals) es after in
    let derived : List SignalContents = signals_derived (length c.signals) es after in
    let sound : IsSound after = (laws c skipped depth lines whole_sound).sound (length lines) in
    let parts = remaining_are_of_variables s t es sound same_cuts in
    let all : signals_left remaining ++ derived ≡ after.signals = remaining_then_derived c es in
    let few : length (signals_left remaining) + length derived ≤ SIGNAL_LIMIT =
    omega (
      arith,
      length-append (signals_left remaining) derived,
      ap (λ (ss : List SignalContents). length ss) all,
      sound.few,
    ) in
    let a : Amendment = amendment_for t remaining derived in
    let text : List ℕ = amended_text a true (initial_state SIGNAL_LIMIT) pieces tail in
    let stand = untouched_items_stand SIGNAL_LIMIT after_cuts pieces tail t remaining derived text cut allows refl
    in_body parts.0 parts.1 few refl in (
      subst (FileMeans SIGNAL_LIMIT text (record after { header = t.header })) same_cuts.left_out
          (subst (λ (d : Contents). FileMeans SIGNAL_LIMIT text d (count_by is_skipped t.declared))
          (ap (λ (ss : List SignalContents). record (meaning t) { signals = ss }) all
          ∙ sym (replay_after_cuts s t es same_cuts)) stand.0),
      subst (λ (ss : List SignalContents). ItemsStand SIGNAL_LIMIT remaining ss pieces tail text) all stand.1,
    )
