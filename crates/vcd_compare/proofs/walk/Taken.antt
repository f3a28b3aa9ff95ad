-- The walk takes the next change of a file.
use Rattle.std.proofs.Common.{◌≡◌, ℕ, ◌≤◌, ◌<◌, ◌*◌, List, [], ◌∷◌, ◌++◌, length, Option, Some, None, min}
use Rattle.std.proofs.Common.{refl, sym, ap, subst, ◌∙◌, arith, append_assoc, All}
use Rattle.std.specs.Prelude.{IsTrue, IfSome}
use Rattle.std.proofs.Math.Seq.{get_or-append_seam}
use Rattle.std.proofs.lemmas.List.{length-append}
use Rattle.std.proofs.lemmas.Option.{same_Some}
use Rattle.vcd_core.specs.declared.capture.TheConstants.{SIGNAL_LIMIT}
use Rattle.vcd_text.specs.Grammar.{VariableDeclaration, ParseState, initial_state, kept_variables}
use Rattle.vcd_text.specs.HeardChanges.{HeardChange, AreHeard, skipped_variables}
use Rattle.vcd_text.specs.HeardLaws.{TicksRise, FitsTarget}
use Rattle.vcd_text.specs.inside.reading.ChangeStream.{HasStreamed}
use Rattle.vcd_text.specs.declared.reading.heard_changes.ChangeTarget.{ChangeTarget}
use Rattle.vcd_text.specs.declared.reading.heard_changes.ChangeTarget.TheVariants.{Kept, Skipped}
use Rattle.vcd_text.proofs.shared.HeardMeaning.{heard_fit, declarations_stay}
use Rattle.vcd_compare.specs.inside.Pairs.{ArePairsAfter}
use Rattle.vcd_compare.specs.inside.LeftOut.{HasCounted}
use Rattle.vcd_compare.specs.inside.Side.{at_hand, first_tick, IsHeardWhole}
use Rattle.vcd_compare.specs.inside.Walk.{all_variables}
use Rattle.vcd_compare.specs.inside.WalkSteps.{scaled_ticks, IsPlan, IsWalkAt, IsSideSince, IsNextChange, IsLast}
use Rattle.vcd_compare.specs.inside.WalkSteps.{AreGiven, IsGiven, given_file, given_text, target_position}
use Rattle.vcd_compare.specs.inside.WalkSteps.{earlier_tick}
use Rattle.vcd_compare.specs.declared.pairs.Pairs.{Pairs}
use Rattle.vcd_compare.specs.declared.pairs.Which.TheVariants.{First, Second}
use Rattle.vcd_compare.specs.declared.side.Side.{Side}
use Rattle.vcd_compare.specs.declared.walk.Walk.{Walk}
use Rattle.vcd_compare.proofs.shared.HeardParts.{kept_within}
use Rattle.vcd_compare.proofs.walk.GivenChanges.{all_first_given, all_second_given}
use Rattle.vcd_compare.proofs.walk.OneSize.{HaveOneSize, have_one_size}
use Rattle.vcd_compare.proofs.walk.Planned.{first_reads, second_reads}

-- ---- a file

module _ (coming left : Option (List ℕ)) (s : ParseState) (given : List HeardChange) (floor : ℕ)
    (start old : Side) (at : IsSideSince coming left s given floor start old) where
  -- the first of the changes at hand is from the tick on
  next_from : (h : HeardChange) (rest : List HeardChange) → at_hand old ≡ h ∷ rest → floor ≤ h.tick * old.factor
  next_from h rest was =
      (subst (λ hs. TicksRise floor (at.on.later.tick * old.factor) (scaled_ticks old.factor hs)) was at.rise).0

  -- it was taken
  side_taken : (k : ℕ) (h : HeardChange) (rest : List HeardChange) → at_hand old ≡ h ∷ rest
      → at_hand (record old { taken = k }) ≡ rest
      → IsSideSince coming left s (given ++ h ∷ []) (h.tick * old.factor) start (record old { taken = k })
  side_taken k h rest was now =
      let new : Side = record old { taken = k } in
      let later = at.on.later in
      let moved : (given ++ h ∷ []) ++ at_hand new ≡ given ++ at_hand old =
      append_assoc given (h ∷ []) (at_hand new) ∙ ap (λ hs. given ++ h ∷ hs) now ∙ ap (λ hs. given ++ hs) (sym was) in
      record {
        on = record {
          later = later;
          more = at.on.more;
          heard_more = at.on.heard_more;
          at = record {
            at = at.on.at.at;
            heard = subst (AreHeard (initial_state SIGNAL_LIMIT) later) (sym moved) at.on.at.heard;
            goes_on = λ goes. subst (λ hs. HasStreamed coming left later hs old.stream) (sym moved)
                (at.on.at.goes_on goes);
            ended = λ ended. subst (IsHeardWhole coming later) (sym moved) (at.on.at.ended ended);
            counted = subst (λ hs. HasCounted hs old.left_out old.last_ticks) (sym moved) at.on.at.counted;
          };
          all = moved ∙ at.on.all;
        };
        rise = subst (λ hs. TicksRise (h.tick * old.factor) (later.tick * old.factor) (scaled_ticks old.factor hs))
            (sym now)
            (subst (λ hs. TicksRise floor (later.tick * old.factor) (scaled_ticks old.factor hs)) was at.rise).1;
        factor = at.factor;
      }

  -- nothing was taken; what is at hand is from another tick on
  side_waits : (tick : ℕ) → tick ≤ at.on.later.tick * old.factor
      → IfSome (first_tick old.factor (at_hand old)) (λ n. tick ≤ n)
      → IsSideSince coming left s given tick start old
  side_waits tick by early = record {
    on = at.on;
    rise = rises_from (at_hand old) by early at.rise;
    factor = at.factor;
  }
    where
      rises_from : (hs : List HeardChange) → tick ≤ at.on.later.tick * old.factor
          → IfSome (first_tick old.factor hs) (λ n. tick ≤ n)
          → TicksRise floor (at.on.later.tick * old.factor) (scaled_ticks old.factor hs)
          → TicksRise tick (at.on.later.tick * old.factor) (scaled_ticks old.factor hs)
      rises_from [] by early rise = by
      rises_from (h ∷ hs) by early rise = (early, rise.1)

-- ---- the next tick

first_is_early : (a b : Option ℕ) (tick : ℕ) → earlier_tick a b ≡ Some tick → a ≡ Some tick
    → IfSome b (λ n. tick ≤ n)
first_is_early a None tick is of = tt
first_is_early None (Some n) tick is of = absurd (cc of)
first_is_early (Some m) (Some n) tick is of =
    let least : min m n ≡ tick = same_Some _ _ is in
    let own : m ≡ tick = same_Some _ _ of in
    omega (arith, least, own)

second_is_early : (a b : Option ℕ) (tick : ℕ) → earlier_tick a b ≡ Some tick → b ≡ Some tick
    → IfSome a (λ n. tick ≤ n)
second_is_early None b tick is of = tt
second_is_early (Some n) None tick is of = absurd (cc of)
second_is_early (Some m) (Some n) tick is of =
    let least : min m n ≡ tick = same_Some _ _ is in
    let own : n ≡ tick = same_Some _ _ of in
    omega (arith, least, own)

tick_at : (factor tick : ℕ) (h : HeardChange) (rest hs : List HeardChange) → hs ≡ h ∷ rest
    → first_tick factor hs ≡ Some tick → h.tick * factor ≡ tick
tick_at factor tick h rest hs was of = same_Some _ _ (sym (ap (first_tick factor) was) ∙ of)

-- ---- the variable of a change

all_middle : (P : HeardChange → Type 0) (xs : List HeardChange) (y : HeardChange) (ys : List HeardChange)
    → All P (xs ++ y ∷ ys) → P y
all_middle P xs y ys all =
    subst P (get_or-append_seam xs y ys y) (all (length xs) y (omega (arith, length-append xs (y ∷ ys))))

-- a change of a file fits the declarations
record IsFitting (declared : List VariableDeclaration) (h : HeardChange) : Type 0 where
  sizes : HaveOneSize (kept_variables declared)
  fits : FitsTarget declared h.target h.text

fitting : (state later : ParseState) (more given rest all : List HeardChange) (h : HeardChange) → IsTrue state.in_body
    → AreHeard state later more → AreHeard (initial_state SIGNAL_LIMIT) later (given ++ all) → all ≡ h ∷ rest
    → IsFitting state.declared h
fitting state later more given rest all h in_body on heard was =
    let same = (declarations_stay state later more on in_body).1 in
    let whole = subst (λ l. AreHeard (initial_state SIGNAL_LIMIT) later (given ++ l)) was heard in
    subst (λ ds. IsFitting ds h) same (record {
      sizes = have_one_size SIGNAL_LIMIT later (given ++ h ∷ rest) whole;
      fits = all_middle (λ g. FitsTarget later.declared g.target g.text) given h rest
          (heard_fit SIGNAL_LIMIT later (given ++ h ∷ rest) whole);
    })

-- its variable is one of all
placed_within : (declared : List VariableDeclaration) (target : ChangeTarget) (text : List ℕ)
    → FitsTarget declared target text
    → target_position (length (kept_variables declared)) target < length (all_variables declared)
placed_within declared (Kept k) text fits =
    let below = kept_within declared k text fits in
    omega (arith, below, length-append (kept_variables declared) (skipped_variables declared))
placed_within declared (Skipped k) text fits =
    omega (arith, fits, length-append (kept_variables declared) (skipped_variables declared))

-- ---- the pairs

module _ (coming other left other_left : Option (List ℕ)) (s t : ParseState) (start old : Walk) (most tick k : ℕ)
    (pairs : Pairs) (h : HeardChange) (rest : List HeardChange)
    (at : IsWalkAt most coming other left other_left s t start old) where
  pub first_taken : IsNextChange most First tick old → at_hand old.first ≡ h ∷ rest
      → at_hand (record old.first { taken = k }) ≡ rest → IsGiven at.first.on.later First tick h old.pairs pairs
      → IsWalkAt most coming other left other_left s t start
      (record { first = record old.first { taken = k }; second = old.second; pairs = pairs })
  first_taken next was now gives =
      let factor = old.first.factor in
      let is : tick ≡ h.tick * factor = sym (tick_at factor tick h rest (at_hand old.first) was next.of) in
      let by = next.by at.first.on.later at.second.on.later at.first.on.at.at at.second.on.at.at in
      let fits = λ (plan : IsPlan s t start). fitting s at.first.on.later at.first.on.more at.given rest
      (at_hand old.first) h plan.declared at.first.on.heard_more at.first.on.at.heard was in
      let file = given_file s old.first at.given in
      let other_file = given_file t old.second at.other_given in
      let given = λ (plan : IsPlan s t start).
      subst (λ ds. AreGiven First (target_position (length (kept_variables ds)) h.target) (h.tick * factor)
      (given_text (skipped_variables ds) (h.tick * factor) h) old.pairs pairs)
      (declarations_stay s at.first.on.later at.first.on.more at.first.on.heard_more plan.declared).1
      (subst (λ n. IsGiven at.first.on.later First n h old.pairs pairs) is gives) in
      let within = λ (plan : IsPlan s t start). placed_within s.declared h.target h.text (fits plan).fits in
      record {
        given = at.given ++ h ∷ [];
        other_given = at.other_given;
        floor = h.tick * factor;
        by = omega (arith, is, by);
        first = side_taken coming left s at.given at.floor start.first old.first at.first k h rest was now;
        second = side_waits other other_left t at.other_given at.floor start.second old.second at.second
            (h.tick * factor) (omega (arith, is, by))
            (subst (λ n. IfSome (first_tick old.second.factor (at_hand old.second)) (λ m. n ≤ m)) is
            (first_is_early _ _ tick next.is next.of));
        bounds = gives.bounds ∙ at.bounds;
        listed = λ plan. (given plan).listed _ _ (at.listed plan) (within plan);
        pairs = λ plan.
            all_first_given start.pairs.bounds at.floor file other_file h start.pairs.all.items old.pairs.all.items
            pairs.all.items (next_from coming left s at.given at.floor start.first old.first at.first h rest was)
            (first_reads start.pairs.bounds file other_file start.pairs.all.items plan.planned h (fits plan).sizes
            (fits plan).fits) (at.pairs plan)
            (subst (λ b. ArePairsAfter b First (target_position (length (kept_variables s.declared)) h.target)
            (h.tick * factor) (given_text (skipped_variables s.declared) (h.tick * factor) h) old.pairs.all.items
            pairs.all.items) at.bounds ((given plan).changed _ _ (at.listed plan) (within plan)));
      }

  pub second_taken : IsNextChange most Second tick old → at_hand old.second ≡ h ∷ rest
      → at_hand (record old.second { taken = k }) ≡ rest → IsGiven at.second.on.later Second tick h old.pairs pairs
      → IsWalkAt most coming other left other_left s t start
      (record { first = old.first; second = record old.second { taken = k }; pairs = pairs })
  second_taken next was now gives =
      let factor = old.second.factor in
      let is : tick ≡ h.tick * factor = sym (tick_at factor tick h rest (at_hand old.second) was next.of) in
      let by = next.by at.first.on.later at.second.on.later at.first.on.at.at at.second.on.at.at in
      let fits = λ (plan : IsPlan s t start). fitting t at.second.on.later at.second.on.more at.other_given rest
      (at_hand old.second) h plan.other_declared at.second.on.heard_more at.second.on.at.heard was in
      let file = given_file s old.first at.given in
      let other_file = given_file t old.second at.other_given in
      let given = λ (plan : IsPlan s t start).
      subst (λ ds. AreGiven Second (target_position (length (kept_variables ds)) h.target) (h.tick * factor)
      (given_text (skipped_variables ds) (h.tick * factor) h) old.pairs pairs)
      (declarations_stay t at.second.on.later at.second.on.more at.second.on.heard_more plan.other_declared).1
      (subst (λ n. IsGiven at.second.on.later Second n h old.pairs pairs) is gives) in
      let within = λ (plan : IsPlan s t start). placed_within t.declared h.target h.text (fits plan).fits in
      record {
        given = at.given;
        other_given = at.other_given ++ h ∷ [];
        floor = h.tick * factor;
        by = omega (arith, is, by);
        first = side_waits coming left s at.given at.floor start.first old.first at.first (h.tick * factor)
            (omega (arith, is, by))
            (subst (λ n. IfSome (first_tick old.first.factor (at_hand old.first)) (λ m. n ≤ m)) is
            (second_is_early _ _ tick next.is next.of));
        second = side_taken other other_left t at.other_given at.floor start.second old.second at.second k h rest was
            now;
        bounds = gives.bounds ∙ at.bounds;
        listed = λ plan. (given plan).listed _ _ (at.listed plan) (within plan);
        pairs = λ plan.
            all_second_given start.pairs.bounds at.floor file other_file h start.pairs.all.items old.pairs.all.items
            pairs.all.items
            (next_from other other_left t at.other_given at.floor start.second old.second at.second h rest was)
            (second_reads start.pairs.bounds file other_file start.pairs.all.items plan.planned h (fits plan).sizes
            (fits plan).fits) (at.pairs plan)
            (subst (λ b. ArePairsAfter b Second (target_position (length (kept_variables t.declared)) h.target)
            (h.tick * factor) (given_text (skipped_variables t.declared) (h.tick * factor) h) old.pairs.all.items
            pairs.all.items) at.bounds ((given plan).changed _ _ (at.listed plan) (within plan)));
      }

-- a file with a next tick has a change at hand
pub some_first : (factor tick : ℕ) (hs : List HeardChange) → first_tick factor hs ≡ Some tick
    → (h : HeardChange) × (rest : List HeardChange) × (hs ≡ h ∷ rest)
some_first factor tick [] of = absurd (cc of)
some_first factor tick (h ∷ hs) of = (h, hs, refl)

-- the last tick that both files have is the same while changes at hand are taken
pub last_stays : (most last taken other_taken : ℕ) (old new : Walk)
    → new.first ≡ record old.first { taken = taken } → new.second ≡ record old.second { taken = other_taken }
    → IsLast most last old → IsLast most last new
last_stays most last taken other_taken old new first second is =
    subst (λ side. IsLast most last (record { first = new.first; second = side; pairs = new.pairs })) (sym second)
    (subst (λ side. IsLast most last (record {
      first = side;
      second = record old.second { taken = other_taken };
      pairs = new.pairs;
    })) (sym first) is)
