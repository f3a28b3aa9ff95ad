-- What the pairs hold at the ends of both files, once no other change was to be given.
use Rattle.std.proofs.Common.{◌≡◌, ℕ, ◌+◌, ◌-◌, ◌<◌, ◌≤◌, ◌*◌, suc, min, Bool, false, true, List, [], ◌∷◌, ◌++◌}
use Rattle.std.proofs.Common.{length, get_or, Option, Some, None}
use Rattle.std.proofs.Common.{refl, sym, ap, ap₂, subst, subst₂, ◌∙◌, arith, append_assoc, inl, inr}
use Rattle.std.specs.Prelude.{slice_get, IfSome, bytes_eq}
use Rattle.std.specs.List.{AllZip}
use Rattle.std.proofs.lemmas.Bool.{cases_Bool}
use Rattle.std.proofs.lemmas.Option.{same_Some}
use Rattle.vcd_core.specs.declared.capture.TheConstants.{SIGNAL_LIMIT}
use Rattle.vcd_core.specs.Value.{same_letters}
use Rattle.vcd_text.specs.Grammar.{VariableDeclaration, ParseState, initial_state, kept_variables}
use Rattle.vcd_text.specs.HeardChanges.{HeardChange, AreHeard}
use Rattle.vcd_text.specs.HeardLaws.{TicksRise}
use Rattle.vcd_text.proofs.shared.HeardMeaning.{heard_rise, declarations_stay}
use Rattle.vcd_compare.specs.Differences.{WaveByTicks}
use Rattle.vcd_compare.specs.inside.LeftOut.{HasCounted}
use Rattle.vcd_compare.specs.inside.WavePair.{HasFoundBefore, HasValueUntil}
use Rattle.vcd_compare.specs.inside.Side.{at_hand, first_tick, needs_chunk, ReadsToEnd, IsHeardWhole}
use Rattle.vcd_compare.specs.inside.SignalPair.{PairWaves, letters, words}
use Rattle.vcd_compare.specs.inside.Walk.{IsPlannedPair, ArePlanned, IsWalkedPair, AreWalked, AreBegun, WholeFile}
use Rattle.vcd_compare.specs.inside.Walk.{IsComparedUpTo, AreComparedUpTo, wave_of, word_wave_of, all_variables}
use Rattle.vcd_compare.specs.inside.Walk.{is_kept_at, first_position, are_letters}
use Rattle.vcd_compare.specs.inside.WalkSteps.{HeardVariable, own_changes, wave_heard, scaled_ticks, AllHeardFrom}
use Rattle.vcd_compare.specs.inside.WalkSteps.{GivenFile, given_file, signal_heard, skipped_heard, IsWavePairSince}
use Rattle.vcd_compare.specs.inside.WalkSteps.{ArePairWavesAt, IsPairAt, ArePairsAt, IsWalkAt, IsWalkOver, IsLast}
use Rattle.vcd_compare.specs.inside.WalkSteps.{HasWalked, earlier_tick}
use Rattle.vcd_compare.specs.declared.wave_pair.Bounds.{Bounds}
use Rattle.vcd_compare.specs.declared.wave_pair.WavePair.{WavePair}
use Rattle.vcd_compare.specs.declared.pairs.Pairs.{Pairs}
use Rattle.vcd_compare.specs.declared.pairs.SignalPair.{SignalPair}
use Rattle.vcd_compare.specs.declared.side.Side.{Side}
use Rattle.vcd_compare.specs.declared.walk.Walk.{Walk}
use Rattle.vcd_compare.proofs.pairs.PairSteps.{keeps_a, keeps_b}
use Rattle.vcd_compare.proofs.shared.HeardParts.{heard_then, rise_bounds, rise_then, rise_scaled}
use Rattle.vcd_compare.proofs.side.ReadOn.{some_at_hand}
use Rattle.vcd_compare.proofs.walk.GivenChanges.{all_from, from_earlier, changes_from}
use Rattle.vcd_compare.proofs.walk.Planned.{signal_there, signal_first, skipped_there, skipped_first}
use Rattle.vcd_compare.proofs.walk.Scaled.{signal_wave, word_wave}

-- ---- what is left is late

-- a file has come to `state`, and ends at `later`; the same of the other
module _ (most factor other_factor floor : ℕ) (state later other other_later : ParseState) where
  abbrev last_so_far : ℕ
  last_so_far = min most (min (state.tick * factor) (other.tick * other_factor))

  abbrev last_of_both : ℕ
  last_of_both = min most (min (later.tick * factor) (other_later.tick * other_factor))

  -- the tick of the first change that is left
  first_is_late : (tick : ℕ) (ks : List HeardChange) → tick ≤ state.tick * factor
      → TicksRise floor (other.tick * other_factor) (scaled_ticks other_factor ks) → (ks ≡ [] → other_later ≡ other)
      → IfSome (earlier_tick (Some tick) (first_tick other_factor ks)) (λ n. last_so_far < n) → last_of_both + 1 ≤ tick
  first_is_late tick [] own rise ended late =
      let same : other_later.tick * other_factor ≡ other.tick * other_factor =
      ap (λ (s : ParseState). s.tick * other_factor) (ended refl) in
      omega (arith, own, late, same)
  first_is_late tick (k ∷ ks) own (first, rise) ended late =
      let by = rise_bounds (k.tick * other_factor) (other.tick * other_factor) (scaled_ticks other_factor ks) rise in
      omega (arith, own, late, by)

  left_is_late : (hs more ks : List HeardChange) → TicksRise floor (state.tick * factor) (scaled_ticks factor hs)
      → TicksRise floor (other.tick * other_factor) (scaled_ticks other_factor ks) → AreHeard state later more
      → (hs ≡ [] → more ≡ []) → (ks ≡ [] → other_later ≡ other)
      → IfSome (earlier_tick (first_tick factor hs) (first_tick other_factor ks)) (λ n. last_so_far < n)
      → AllHeardFrom factor (last_of_both + 1) (hs ++ more)
  left_is_late [] more ks rise other_rise heard none other_none late =
      subst (AllHeardFrom factor (last_of_both + 1)) (sym (none refl)) tt
  left_is_late (h ∷ rest) more ks (first, rise) other_rise heard none other_none late =
      let tick : ℕ = h.tick * factor in
      from_earlier factor (last_of_both + 1) tick ((h ∷ rest) ++ more)
      (first_is_late tick ks (rise_bounds tick (state.tick * factor) (scaled_ticks factor rest) rise) other_rise
      other_none late)
      (all_from factor tick (later.tick * factor) ((h ∷ rest) ++ more)
      (rise_then factor tick (state.tick * factor) (later.tick * factor) (h ∷ rest) more (omega arith, rise)
      (rise_scaled factor state.tick later.tick more (heard_rise state later more heard))))

-- ---- two waves

module _ {V : Type 0} (same : V → V → Bool) (bounds : Bounds) (floor last : ℕ) (v w : HeardVariable V)
    (given other_given left other_left : List HeardChange) (upto : floor ≤ last)
    (late : AllHeardFrom v.factor (last + 1) left) (other_late : AllHeardFrom w.factor (last + 1) other_left) where
  waves_compared : (wave other : WaveByTicks V) (p : WavePair V) → wave ≡ wave_heard v (given ++ left)
      → other ≡ wave_heard w (other_given ++ other_left)
      → IsWavePairSince same bounds floor v w given other_given p → IsComparedUpTo same bounds last wave other p
  waves_compared wave other p is other_is at =
      let pair = at last left other_left upto (from_earlier v.factor floor (last + 1) left (omega (arith, upto)) late)
      (from_earlier w.factor floor (last + 1) other_left (omega (arith, upto)) other_late) in
      let heard : WaveByTicks V = wave_heard v (given ++ left) in
      let other_heard : WaveByTicks V = wave_heard w (other_given ++ other_left) in
      let left_a = own_changes v left in
      let left_b = own_changes w other_left in
      record {
        found = subst₂ (λ x y. HasFoundBefore same bounds.tolerance x y bounds.first p) (sym is) (sym other_is)
            pair.found;
        within = pair.within;
        a = subst (λ x. HasValueUntil x p.tick (last + 1) p.a) (sym is)
            (keeps_a same bounds last heard other_heard left_a left_b (last + 1) p pair
            (changes_from v (last + 1) left late));
        b = subst (λ y. HasValueUntil y p.tick (last + 1) p.b) (sym other_is)
            (keeps_b same bounds last heard other_heard left_a left_b (last + 1) p pair
            (changes_from w (last + 1) other_left other_late));
      }

-- ---- a variable

-- a file that was read to its end, of which these changes were given, and these are left
module _ (f : GivenFile) (s : ParseState) (left : List HeardChange) (same : f.declared ≡ s.declared)
    (heard : AreHeard (initial_state SIGNAL_LIMIT) s (f.given ++ left)) (k : ℕ) (d : VariableDeclaration)
    (at : slice_get (all_variables s.declared) k ≡ Some d) (own : VariableDeclaration) (own_is : own ≡ d)
    (variable : ℕ) (first : variable ≡ first_position f.declared k own) where
  kept_is : (kept : Bool) → is_kept_at f.declared k ≡ kept → is_kept_at s.declared k ≡ kept
  kept_is kept is = ap (λ ds. is_kept_at ds k) (sym same) ∙ is

  variable_is : variable ≡ first_position s.declared k d
  variable_is = first ∙ (λ i. first_position (same i) k (own_is i))

  signal_is : (width : ℕ) → 1 ≤ f.factor → is_kept_at f.declared k ≡ true → own.size ≡ width
      → wave_of f.factor s d ≡ wave_heard (signal_heard f width variable) (f.given ++ left)
  signal_is width some kept wide =
      let there = signal_there s.declared k d at (kept_is true kept) in
      signal_wave SIGNAL_LIMIT s (f.given ++ left) heard k d there f same some
      ∙ ap₂ (λ n p. wave_heard (signal_heard f n p) (f.given ++ left))
      (ap (λ (x : VariableDeclaration). x.size) (sym own_is) ∙ wide)
      (sym (variable_is ∙ signal_first s.declared k d at (kept_is true kept)))

  word_is : is_kept_at f.declared k ≡ false
      → word_wave_of f.factor (record { state = s; heard = f.given ++ left }) d
      ≡ wave_heard (skipped_heard f variable) (f.given ++ left)
  word_is skipped =
      let there = skipped_there s.declared k d at (kept_is false skipped) in
      word_wave SIGNAL_LIMIT s (f.given ++ left) heard (k - length (kept_variables s.declared)) d there f same
      ∙ ap (λ p. wave_heard (skipped_heard f p) (f.given ++ left))
      (sym (variable_is ∙ skipped_first s.declared k d at (kept_is false skipped)))

-- ---- a pair

-- the declarations stay, so what stands at a position is the same
declared_one : (before after : List VariableDeclaration) → before ≡ after → (k : ℕ) (own d : VariableDeclaration)
    → slice_get (all_variables before) k ≡ Some own → slice_get (all_variables after) k ≡ Some d → own ≡ d
declared_one before after same k own d at at_d =
    same_Some own d (sym at ∙ ap (λ ds. slice_get (all_variables ds) k) same ∙ at_d)

module _ (bounds : Bounds) (floor last : ℕ) (f g : GivenFile) (s t : ParseState)
    (left other_left : List HeardChange) (some : 1 ≤ f.factor) (other_some : 1 ≤ g.factor)
    (same : f.declared ≡ s.declared) (other_same : g.declared ≡ t.declared)
    (heard : AreHeard (initial_state SIGNAL_LIMIT) s (f.given ++ left))
    (other_heard : AreHeard (initial_state SIGNAL_LIMIT) t (g.given ++ other_left))
    (upto : floor ≤ last) (late : AllHeardFrom f.factor (last + 1) left)
    (other_late : AllHeardFrom g.factor (last + 1) other_left) where
  abbrev file : WholeFile
  file = record { state = s; heard = f.given ++ left }

  abbrev other_file : WholeFile
  other_file = record { state = t; heard = g.given ++ other_left }

  waves_walked : (p : SignalPair) (plan : IsPlannedPair bounds f.declared g.declared p) (d e : VariableDeclaration)
      → slice_get (all_variables s.declared) p.first ≡ Some d
      → slice_get (all_variables t.declared) p.second ≡ Some e → (old new : PairWaves)
      → AreBegun bounds (is_kept_at f.declared p.first) (is_kept_at g.declared p.second) plan.own plan.partner p.width
      old → are_letters new ≡ are_letters old → ArePairWavesAt bounds floor f g p new
      → AreComparedUpTo bounds last f.factor g.factor file other_file d e new
  waves_walked p plan d e at_d at_e (letters old) (letters new) begun kind at =
      let own = declared_one f.declared s.declared same p.first plan.own d plan.at_first at_d in
      let partner = declared_one g.declared t.declared other_same p.second plan.partner e plan.at_second at_e in
      waves_compared same_letters bounds floor last (signal_heard f p.width p.first_variable)
      (signal_heard g p.width p.second_variable) f.given g.given left other_left upto late other_late _ _ new
      (signal_is f s left same heard p.first d at_d plan.own own p.first_variable plan.first_variable p.width some
      begun.0 begun.2)
      (signal_is g t other_left other_same other_heard p.second e at_e plan.partner partner p.second_variable
      plan.second_variable p.width other_some begun.1 begun.3) at
  waves_walked p plan d e at_d at_e (words old) (words new) begun kind at =
      let own = declared_one f.declared s.declared same p.first plan.own d plan.at_first at_d in
      let partner = declared_one g.declared t.declared other_same p.second plan.partner e plan.at_second at_e in
      waves_compared bytes_eq bounds floor last (skipped_heard f p.first_variable) (skipped_heard g p.second_variable)
      f.given g.given left other_left upto late other_late _ _ new
      (word_is f s left same heard p.first d at_d plan.own own p.first_variable plan.first_variable begun.0)
      (word_is g t other_left other_same other_heard p.second e at_e plan.partner partner p.second_variable
      plan.second_variable begun.1) at
  waves_walked p plan d e at_d at_e (letters old) (words new) begun kind at = absurd (cc kind)
  waves_walked p plan d e at_d at_e (words old) (letters new) begun kind at = absurd (cc kind)

  pair_walked : (old new : SignalPair) → IsPlannedPair bounds f.declared g.declared old
      → IsPairAt bounds floor f g old new
      → IsWalkedPair bounds last f.factor g.factor file other_file old new
  pair_walked old new plan at = record {
    others = at.others;
    kind = at.kind;
    compared = λ d e at_d at_e.
        waves_walked old plan d e at_d at_e old.waves new.waves plan.begun at.kind at.compared;
  }

  -- all pairs
  all_walked : (olds news : List SignalPair) → ArePlanned bounds f.declared g.declared olds
      → ArePairsAt bounds floor f g olds news
      → AreWalked bounds last f.factor g.factor file other_file olds news
  all_walked olds news planned at = zip olds news at.count (λ i default below.
      pair_walked (get_or olds i default) (get_or news i default) (planned i default below)
      (at.each i default below))
    where
      zip : (olds news : List SignalPair) → length news ≡ length olds
          → ((i : ℕ) (default : SignalPair) → i < length olds
          → IsWalkedPair bounds last f.factor g.factor file other_file (get_or olds i default) (get_or news i default))
          → AllZip (IsWalkedPair bounds last f.factor g.factor file other_file) olds news
      zip [] [] count each = tt
      zip [] (new ∷ news) count each = absurd (omega (arith, count))
      zip (old ∷ olds) [] count each = absurd (omega (arith, count))
      zip (old ∷ olds) (new ∷ news) count each = (
        each 0 old (omega arith),
        zip olds news (omega (arith, count))
            (λ i default below. each (suc i) default (omega (arith, below))),
      )

-- ---- the walk

-- a file that needs no chunk, and has no change at hand, has ended
ended_if_none : (side : Side) → needs_chunk side ≡ false → at_hand side ≡ [] → side.is_ended ≡ true
ended_if_none side has none =
    elim (cases_Bool side.is_ended) [
      | inl ended ↦ ended
      | inr on ↦
          let (h, rest, some) = some_at_hand side on has in
          absurd (omega (arith, ap (length {A = HeardChange}) (sym none ∙ some)))
    ]

if_some : (P Q : ℕ → Type 0) (o : Option ℕ) → ((n : ℕ) → P n → Q n) → IfSome o P → IfSome o Q
if_some P Q None step some = tt
if_some P Q (Some n) step some = step n some

swapped : (most x y : ℕ) (a b : Option ℕ) → IfSome (earlier_tick a b) (λ n. min most (min x y) < n)
    → IfSome (earlier_tick b a) (λ n. min most (min y x) < n)
swapped most x y None None late = tt
swapped most x y None (Some m) late = omega (arith, late)
swapped most x y (Some n) None late = omega (arith, late)
swapped most x y (Some n) (Some m) late = omega (arith, late)

rises_to : (factor : ℕ) (from to : ParseState) (hs : List HeardChange) → AreHeard from to hs
    → from.tick * factor ≤ to.tick * factor
rises_to factor from to hs are =
    rise_bounds (from.tick * factor) (to.tick * factor) (scaled_ticks factor hs)
    (rise_scaled factor from.tick to.tick hs (heard_rise from to hs are))

-- all that was heard of a file that was read to its end
heard_whole : (later end : ParseState) (given hs more : List HeardChange)
    → AreHeard (initial_state SIGNAL_LIMIT) later (given ++ hs) → AreHeard later end more
    → AreHeard (initial_state SIGNAL_LIMIT) end (given ++ (hs ++ more))
heard_whole later end given hs more first rest =
    subst (AreHeard (initial_state SIGNAL_LIMIT) end) (append_assoc given hs more)
    (heard_then (initial_state SIGNAL_LIMIT) later end (given ++ hs) more first rest)

-- all that was heard of a file since its start
heard_since : (start given hs before more : List HeardChange) → given ++ hs ≡ start ++ before
    → given ++ (hs ++ more) ≡ start ++ (before ++ more)
heard_since start given hs before more all =
    sym (append_assoc given hs more) ∙ ap (λ l. l ++ more) all ∙ append_assoc start before more

-- what a file means that was read to its end
whole_since : (coming : Option (List ℕ)) (end : ParseState) (heard given hs before more : List HeardChange)
    → given ++ hs ≡ heard ++ before → IsHeardWhole coming end ((given ++ hs) ++ more)
    → IsHeardWhole coming end (heard ++ (before ++ more))
whole_since coming end heard given hs before more all whole =
    subst (IsHeardWhole coming end) (ap (λ l. l ++ more) all ∙ append_assoc heard before more) whole

-- what was counted of it
counted_since : (heard given hs before more : List HeardChange) → given ++ hs ≡ heard ++ before → (side : Side)
    → HasCounted ((given ++ hs) ++ more) side.left_out side.last_ticks
    → HasCounted (heard ++ (before ++ more)) side.left_out side.last_ticks
counted_since heard given hs before more all side counted =
    subst (λ l. HasCounted l side.left_out side.last_ticks)
    (ap (λ l. l ++ more) all ∙ append_assoc heard before more) counted

module _ (most last : ℕ) (coming other left other_left : Option (List ℕ)) (s t : ParseState) (start old new : Walk)
    (at : IsWalkAt most coming other left other_left s t start old) (over : IsWalkOver most old)
    (last_is : IsLast most last new)
    (end : ReadsToEnd coming at.first.on.later (at.given ++ at_hand old.first) old.first new.first)
    (other_end : ReadsToEnd other at.second.on.later (at.other_given ++ at_hand old.second) old.second new.second)
    (factor_is : new.first.factor ≡ old.first.factor) (other_factor_is : new.second.factor ≡ old.second.factor)
    (pairs_are : new.pairs ≡ old.pairs) where
  pub walk_ends : HasWalked coming other s t most last start new
  walk_ends =
      let factor = old.first.factor in
      let other_factor = old.second.factor in
      let hs = at_hand old.first in
      let ks = at_hand old.second in
      let heard = heard_then s at.first.on.later end.later at.first.on.more end.more at.first.on.heard_more
      end.heard_more in
      let other_heard = heard_then t at.second.on.later other_end.later at.second.on.more other_end.more
      at.second.on.heard_more other_end.heard_more in
      let here : last ≡ min most (min (end.later.tick * factor) (other_end.later.tick * other_factor)) =
      last_is end.later other_end.later end.at other_end.at
      ∙ (λ i. min most (min (end.later.tick * factor_is i) (other_end.later.tick * other_factor_is i))) in
      let late = if_some _
      (λ n. min most (min (at.first.on.later.tick * factor) (at.second.on.later.tick * other_factor)) < n)
      (earlier_tick (first_tick factor hs) (first_tick other_factor ks))
      (λ n past. past at.first.on.later at.second.on.later at.first.on.at.at at.second.on.at.at) over.late in
      let by = at.by in
      let floor_by = rise_bounds at.floor (at.first.on.later.tick * factor) (scaled_ticks factor hs) at.first.rise in
      let other_floor_by = rise_bounds at.floor (at.second.on.later.tick * other_factor) (scaled_ticks other_factor ks)
      at.second.rise in
      let later_by = rises_to factor at.first.on.later end.later end.more end.heard_more in
      let other_later_by = rises_to other_factor at.second.on.later other_end.later other_end.more
      other_end.heard_more in
      let left_late : AllHeardFrom factor (last + 1) (hs ++ end.more) =
      subst (λ n. AllHeardFrom factor (n + 1) (hs ++ end.more)) (sym here)
      (left_is_late most factor other_factor at.floor at.first.on.later end.later at.second.on.later other_end.later hs
      end.more ks at.first.rise at.second.rise end.heard_more
      (λ none. (end.stays (ended_if_none old.first over.first none)).1)
      (λ none. (other_end.stays (ended_if_none old.second over.second none)).0) late) in
      let swap : min most (min (other_end.later.tick * other_factor) (end.later.tick * factor)) ≡ last =
      omega (arith, here) in
      let other_left_late : AllHeardFrom other_factor (last + 1) (ks ++ other_end.more) =
      subst (λ n. AllHeardFrom other_factor (n + 1) (ks ++ other_end.more)) swap
      (left_is_late most other_factor factor at.floor at.second.on.later other_end.later at.first.on.later end.later ks
      other_end.more hs at.second.rise at.first.rise other_end.heard_more
      (λ none. (other_end.stays (ended_if_none old.second over.second none)).1)
      (λ none. (end.stays (ended_if_none old.first over.first none)).0)
      (swapped most (at.first.on.later.tick * factor) (at.second.on.later.tick * other_factor) (first_tick factor hs)
      (first_tick other_factor ks) late)) in
      record {
        state = end.later;
        other_state = other_end.later;
        more = at.first.on.more ++ end.more;
        other_more = at.second.on.more ++ other_end.more;
        heard = heard;
        other_heard = other_heard;
        at = end.at;
        other_at = other_end.at;
        whole = whole_since coming end.later (at_hand start.first) at.given hs at.first.on.more end.more at.first.on.all
            end.whole;
        other_whole = whole_since other other_end.later (at_hand start.second) at.other_given ks at.second.on.more
            other_end.more at.second.on.all other_end.whole;
        counted = counted_since (at_hand start.first) at.given hs at.first.on.more end.more at.first.on.all new.first
            end.counted;
        other_counted = counted_since (at_hand start.second) at.other_given ks at.second.on.more other_end.more
            at.second.on.all new.second other_end.counted;
        last_is = here
            ∙ (λ i. min most (min (end.later.tick * at.first.factor i) (other_end.later.tick * at.second.factor i)));
        bounds = ap (λ (p : Pairs). p.bounds) pairs_are ∙ at.bounds;
        walked = λ plan.
            let some = plan.factor in
            let other_some = plan.other_factor in
            let factor_at = at.first.factor in
            let other_factor_at = at.second.factor in
            let file = given_file s old.first at.given in
            let other_file = given_file t old.second at.other_given in
            subst (λ (p : Pairs). AreWalked start.pairs.bounds last start.first.factor start.second.factor
            (record { state = end.later; heard = at_hand start.first ++ (at.first.on.more ++ end.more) })
            (record { state = other_end.later; heard = at_hand start.second ++ (at.second.on.more ++ other_end.more) })
            start.pairs.all.items p.all.items) (sym pairs_are)
            (subst₂ (λ m n. AreWalked start.pairs.bounds last m n
            (record { state = end.later; heard = at_hand start.first ++ (at.first.on.more ++ end.more) })
            (record { state = other_end.later; heard = at_hand start.second ++ (at.second.on.more ++ other_end.more) })
            start.pairs.all.items old.pairs.all.items) at.first.factor at.second.factor
            (subst₂ (λ l m. AreWalked start.pairs.bounds last factor other_factor
            (record { state = end.later; heard = l }) (record { state = other_end.later; heard = m })
            start.pairs.all.items old.pairs.all.items)
            (heard_since (at_hand start.first) at.given hs at.first.on.more end.more at.first.on.all)
            (heard_since (at_hand start.second) at.other_given ks at.second.on.more other_end.more at.second.on.all)
            (all_walked start.pairs.bounds at.floor last file other_file end.later other_end.later (hs ++ end.more)
            (ks ++ other_end.more) (omega (arith, some, factor_at)) (omega (arith, other_some, other_factor_at))
            (sym (declarations_stay s end.later _ heard plan.declared).1)
            (sym (declarations_stay t other_end.later _ other_heard plan.other_declared).1)
            (heard_whole at.first.on.later end.later at.given hs end.more at.first.on.at.heard end.heard_more)
            (heard_whole at.second.on.later other_end.later at.other_given ks other_end.more at.second.on.at.heard
            other_end.heard_more)
            (omega (arith, here, by, floor_by, other_floor_by, later_by, other_later_by)) left_late other_left_late
            start.pairs.all.items old.pairs.all.items plan.planned (at.pairs plan))));
      }
