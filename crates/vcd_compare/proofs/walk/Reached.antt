-- A walk begins, and one of its files is read on.
use Rattle.std.proofs.Common.{◌≡◌, ℕ, ◌*◌, Bool, List, [], ◌++◌, Option, refl, sym, ap, subst, subst₂, get_or}
use Rattle.std.proofs.Common.{◌∙◌, arith, append_assoc, inl}
use Rattle.std.specs.Prelude.{bytes_eq}
use Rattle.std.proofs.lemmas.List.{append_cancel_left}
use Rattle.vcd_core.specs.declared.capture.TheConstants.{SIGNAL_LIMIT}
use Rattle.vcd_core.specs.Value.{same_letters}
use Rattle.vcd_text.specs.Grammar.{ParseState, VariableDeclaration, initial_state}
use Rattle.vcd_text.specs.HeardChanges.{HeardChange}
use Rattle.vcd_text.specs.HeardLaws.{TicksRise}
use Rattle.vcd_text.proofs.shared.HeardMeaning.{heard_rise}
use Rattle.vcd_compare.specs.Variables.{last_value}
use Rattle.vcd_compare.specs.inside.Side.{at_hand, IsSideAt, ReadsOn}
use Rattle.vcd_compare.specs.inside.SignalPair.{PairWaves, letters, words}
use Rattle.vcd_compare.specs.inside.Walk.{IsBegun, AreBegun}
use Rattle.vcd_compare.specs.inside.WalkSteps.{scaled_ticks, IsWalkStart, IsWalkAt, IsSideSince, given_file}
use Rattle.vcd_compare.specs.inside.WalkSteps.{GivenFile, HeardVariable, own_changes, signal_heard, skipped_heard}
use Rattle.vcd_compare.specs.inside.WalkSteps.{IsWavePairSince, ArePairWavesAt, ArePairsAt}
use Rattle.vcd_compare.specs.declared.wave_pair.Bounds.{Bounds}
use Rattle.vcd_compare.specs.declared.wave_pair.WavePair.{WavePair}
use Rattle.vcd_compare.specs.declared.pairs.SignalPair.{SignalPair}
use Rattle.vcd_compare.specs.declared.side.Side.{Side}
use Rattle.vcd_compare.specs.declared.walk.Walk.{Walk}
use Rattle.vcd_compare.proofs.shared.HeardParts.{rise_earlier, rise_then, rise_scaled}
use Rattle.vcd_compare.proofs.side.ReadOn.{reads_none, reads_then}

-- ---- a file

side_starts : (coming left : Option (List ℕ)) (s : ParseState) (side : Side) → IsSideAt coming left s [] side
    → IsSideSince coming left s [] 0 side side
side_starts coming left s side at = record {
  on = reads_none coming left s [] side at;
  rise = rise_earlier 0 (0 * side.factor) (s.tick * side.factor) (scaled_ticks side.factor (at_hand side)) (omega arith)
      (rise_scaled side.factor 0 s.tick (at_hand side)
      (heard_rise (initial_state SIGNAL_LIMIT) s (at_hand side) at.heard));
  factor = refl;
}

-- the file was read on, with more at hand after what was
side_reached : (coming middle left : Option (List ℕ)) (s : ParseState) (given : List HeardChange) (floor : ℕ)
    (start old new : Side) (at : IsSideSince coming middle s given floor start old) → new.factor ≡ old.factor
    → ReadsOn coming left at.on.later (given ++ at_hand old) given new
    → IsSideSince coming left s given floor start new
side_reached coming middle left s given floor start old new at same on =
    let before = at.on.later in
    let now : at_hand new ≡ at_hand old ++ on.more =
    append_cancel_left given (at_hand new) _ (on.all ∙ append_assoc given (at_hand old) on.more) in
    record {
      on = reads_then coming middle left s (at_hand start) given given old new at.on on;
      rise = subst (λ f. TicksRise floor (on.later.tick * f) (scaled_ticks f (at_hand new))) (sym same)
          (subst (λ hs. TicksRise floor (on.later.tick * old.factor) (scaled_ticks old.factor hs)) (sym now)
          (rise_then old.factor floor (before.tick * old.factor) (on.later.tick * old.factor) (at_hand old) on.more
          at.rise (rise_scaled old.factor before.tick on.later.tick on.more
          (heard_rise before on.later on.more on.heard_more))));
      factor = same ∙ at.factor;
    }

-- ---- the walk

-- two waves at the first tick of the window, of which no change was given
begun_since : {V : Type 0} (same : V → V → Bool) (bounds : Bounds) (v w : HeardVariable V) (p : WavePair V)
    → w.before ≡ v.before → IsBegun bounds v.before p → IsWavePairSince same bounds 0 v w [] [] p
begun_since same bounds v w p one begun last left other_left upto from other_from =
    let tick = begun.tick in
    record {
      found = record { from = omega (arith, tick); upto = inl tick };
      a = λ at later. ap (λ x. last_value x (own_changes v left) at) (sym begun.a);
      b = λ at later. ap (λ x. last_value x (own_changes w other_left) at) (one ∙ sym begun.b);
      within = omega (arith, tick);
    }

waves_begun : (bounds : Bounds) (f g : GivenFile) (kept other_kept : Bool) (d e : VariableDeclaration)
    (p : SignalPair) (waves : PairWaves) → f.given ≡ [] → g.given ≡ []
    → AreBegun bounds kept other_kept d e p.width waves → ArePairWavesAt bounds 0 f g p waves
waves_begun bounds f g kept other_kept d e p (letters waves) none other_none begun =
    subst₂ (λ hs ks. IsWavePairSince same_letters bounds 0 (signal_heard f p.width p.first_variable)
    (signal_heard g p.width p.second_variable) hs ks waves) (sym none) (sym other_none)
    (begun_since same_letters bounds (signal_heard f p.width p.first_variable)
    (signal_heard g p.width p.second_variable) waves refl begun.4)
waves_begun bounds f g kept other_kept d e p (words waves) none other_none begun =
    subst₂ (λ hs ks. IsWavePairSince bytes_eq bounds 0 (skipped_heard f p.first_variable)
    (skipped_heard g p.second_variable) hs ks waves) (sym none) (sym other_none)
    (begun_since bytes_eq bounds (skipped_heard f p.first_variable) (skipped_heard g p.second_variable) waves refl
    begun.2)

-- nothing was given yet
pub walk_starts : (most : ℕ) (coming other left other_left : Option (List ℕ)) (s t : ParseState) (w : Walk)
    → IsWalkStart coming other left other_left s t w → IsWalkAt most coming other left other_left s t w w
walk_starts most coming other left other_left s t w start = record {
  given = [];
  other_given = [];
  floor = 0;
  by = omega arith;
  first = side_starts coming left s w.first start.first;
  second = side_starts other other_left t w.second start.second;
  bounds = refl;
  listed = λ plan. plan.listed;
  pairs = λ plan. record {
    count = refl;
    each = λ i default below.
        let p = plan.planned i default below in
        let pair : SignalPair = get_or w.pairs.all.items i default in
        record {
          others = refl;
          kind = refl;
          compared = waves_begun w.pairs.bounds (given_file s w.first []) (given_file t w.second []) _ _ p.own p.partner
              pair pair.waves refl refl p.begun;
        };
  };
}

module _ (most : ℕ) (coming other left middle other_left : Option (List ℕ)) (s t : ParseState) (start old : Walk)
    (new : Side) where
  pub first_reached : (at : IsWalkAt most coming other middle other_left s t start old) → new.factor ≡ old.first.factor
      → ReadsOn coming left at.first.on.later (at.given ++ at_hand old.first) at.given new
      → IsWalkAt most coming other left other_left s t start
      (record { first = new; second = old.second; pairs = old.pairs })
  first_reached at same on = record {
    given = at.given;
    other_given = at.other_given;
    floor = at.floor;
    by = at.by;
    first = side_reached coming middle left s at.given at.floor start.first old.first new at.first same on;
    second = at.second;
    bounds = at.bounds;
    listed = at.listed;
    pairs = λ plan. subst (λ f. ArePairsAt start.pairs.bounds at.floor
        (record { factor = f; declared = s.declared; given = at.given }) (given_file t old.second at.other_given)
        start.pairs.all.items old.pairs.all.items) (sym same) (at.pairs plan);
  }

  pub second_reached : (at : IsWalkAt most coming other other_left middle s t start old)
      → new.factor ≡ old.second.factor
      → ReadsOn other left at.second.on.later (at.other_given ++ at_hand old.second) at.other_given new
      → IsWalkAt most coming other other_left left s t start
      (record { first = old.first; second = new; pairs = old.pairs })
  second_reached at same on = record {
    given = at.given;
    other_given = at.other_given;
    floor = at.floor;
    by = at.by;
    first = at.first;
    second = side_reached other middle left t at.other_given at.floor start.second old.second new at.second same on;
    bounds = at.bounds;
    listed = at.listed;
    pairs = λ plan. subst (λ f. ArePairsAt start.pairs.bounds at.floor (given_file s old.first at.given)
        (record { factor = f; declared = t.declared; given = at.other_given })
        start.pairs.all.items old.pairs.all.items) (sym same) (at.pairs plan);
  }
