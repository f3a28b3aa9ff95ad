-- The pairs of a variable change one after another, from the last one on.
use Rattle.std.proofs.Common.{◌≡◌, ◌≢◌, ℕ, ◌<◌, ◌≤◌, Some, None, List, [], ◌∷◌, length, map, get_or, refl}
use Rattle.std.proofs.Common.{sym, ap}
use Rattle.std.proofs.Common.{◌∙◌, arith, inl, inr, subst, set}
use Rattle.std.proofs.lemmas.List.{length-map, ext_get_or, get_or-map, get_or_default, get_or-set_same}
use Rattle.std.proofs.lemmas.List.{get_or-set_other, length-set}
use Rattle.std.proofs.lemmas.Bool.{cases_eq, cases_lt}
use Rattle.std.specs.Prelude.{All}
use Rattle.vcd_compare.specs.inside.Occurrences.{IsLastPlace}
use Rattle.vcd_compare.specs.inside.Pairs.{variable_in, HasText, IsPairAfter, ArePairsAfter}
use Rattle.vcd_compare.specs.inside.SignalPair.{PairWaves}
use Rattle.vcd_compare.specs.declared.wave_pair.Bounds.{Bounds}
use Rattle.vcd_compare.specs.declared.pairs.Which.{Which}
use Rattle.vcd_compare.specs.declared.pairs.Which.TheVariants.{First, Second}
use Rattle.vcd_compare.specs.declared.pairs.SignalPair.{SignalPair}

module _ (bounds : Bounds) (which : Which) (variable tick : ℕ) (text : List ℕ) where
  -- the pairs from a place on have changed, and those before it not yet
  pub record AreChangedFrom (bound : ℕ) (old new : List SignalPair) : Type 0 where
    pub count : length new ≡ length old
    pub changed : (i : ℕ) (default : SignalPair) → i < length old → bound ≤ i
        → IsPairAfter bounds which variable tick text (get_or old i default) (get_or new i default)
    pub kept : (i : ℕ) (default : SignalPair) → i < bound → get_or new i default ≡ get_or old i default

  abbrev variables : List SignalPair → List ℕ
  variables pairs = map (variable_in which) pairs

  -- none has changed yet
  pub none_changed : (old : List SignalPair) → AreChangedFrom (length old) old old
  none_changed old = record {
    count = refl;
    changed = λ i default within from. absurd (omega arith);
    kept = λ i default below. refl;
  }

  -- a pair of another variable
  kept_pair : (p q : SignalPair) → q ≡ p → variable_in which p ≢ variable
      → IsPairAfter bounds which variable tick text p q
  kept_pair p q same other = record {
    others = same ∙ sym (ap {B = SignalPair} (λ w. record p { waves = w }) (ap (λ p. p.waves) same));
    changed = λ is. absurd (other is);
    unchanged = λ _. ap (λ p. p.waves) same;
  }

  -- the pairs before the last place of the variable were of others, so all have changed
  pub all_changed : (bound : ℕ) (old new : List SignalPair) → bound ≤ length old → AreChangedFrom bound old new
      → IsLastPlace (variables old) bound variable None
      → ArePairsAfter bounds which variable tick text old new
  all_changed bound old new within is none = record {
    count = is.count;
    each = λ i default below. elim (cases_lt i bound) [
      | inl before ↦
          kept_pair (get_or old i default) (get_or new i default) (is.kept i default before)
          (λ e. none i before (get_or-map (variable_in which) old i default 0 below ∙ e))
      | inr from ↦ is.changed i default below from
    ];
  }

  -- the pair at a place changes, the last of the variable before those that have changed
  pub one_changed : (bound place : ℕ) (old now new : List SignalPair) (item changed : SignalPair)
      → bound ≤ length old → AreChangedFrom bound old now
      → IsLastPlace (variables old) bound variable (Some place)
      → item ≡ get_or now place item → changed ≡ record item { waves = changed.waves }
      → HasText item.width bounds which tick text item.waves changed.waves
      → new ≡ set now place changed
      → AreChangedFrom place old new
  one_changed bound place old now new item changed within is (below, at, none) item_is others has_changed new_is =
      let count = is.count in
      record {
        count = ap length new_is ∙ length-set now place changed ∙ count;
        changed = λ i d inside from. elim (cases_eq i place) [
          | inl same ↦
              let stood : item ≡ get_or old place d =
              item_is ∙ is.kept place item below ∙ get_or_default old place item d (omega arith) in
              subst (λ k. IsPairAfter bounds which variable tick text (get_or old k d) (get_or new k d)) (sym same)
              (subst (IsPairAfter bounds which variable tick text (get_or old place d))
              (sym (ap (λ l. get_or l place d) new_is
              ∙ get_or-set_same now place changed d (omega (arith, count))))
              (record {
                others = others ∙ ap {A = SignalPair} {B = SignalPair} (λ p. record p { waves = changed.waves })
                    stood;
                changed = λ _. subst (λ (p : SignalPair). HasText p.width bounds which tick text p.waves changed.waves)
                    stood has_changed;
                unchanged = λ other. absurd (other
                    (sym (get_or-map (variable_in which) old place d 0 (omega arith)) ∙ at));
              }))
          | inr other ↦
              let unmoved : get_or new i d ≡ get_or now i d =
              ap (λ l. get_or l i d) new_is ∙ get_or-set_other now place i changed d other in
              elim (cases_lt i bound) [
                | inl before ↦
                    kept_pair (get_or old i d) (get_or new i d) (unmoved ∙ is.kept i d before)
                    (λ e. none i (omega (arith, other)) before
                    (get_or-map (variable_in which) old i d 0 inside ∙ e))
                | inr later ↦
                    subst (IsPairAfter bounds which variable tick text (get_or old i d)) (sym unmoved)
                    (is.changed i d inside later)
              ]
        ];
        kept = λ i d before.
            ap (λ l. get_or l i d) new_is ∙ get_or-set_other now place i changed d (λ e. absurd (omega arith))
            ∙ is.kept i d (omega arith);
      }

  -- a change leaves the variables of the pairs as they are
  pub same_variables : (other : Which) (old new : List SignalPair)
      → ArePairsAfter bounds which variable tick text old new
      → map (variable_in other) new ≡ map (variable_in other) old
  same_variables other [] [] is = refl
  same_variables other [] (q ∷ new) is = absurd (let count = is.count in omega (arith, count))
  same_variables other (p ∷ old) new is =
      let count = is.count in
      ext_get_or 0 (map (variable_in other) new) (map (variable_in other) (p ∷ old))
      (length-map new (variable_in other) ∙ count ∙ sym (length-map (p ∷ old) (variable_in other)))
      (λ i below.
      let inside : i < length (p ∷ old) = omega (arith, below, count, length-map new (variable_in other)) in
      get_or-map (variable_in other) new i p 0 (omega (arith, inside, count))
      ∙ ap (variable_in other) (is.each i p inside).others
      ∙ kept_variable other (get_or (p ∷ old) i p) _
      ∙ sym (get_or-map (variable_in other) (p ∷ old) i p 0 inside))
    where
      kept_variable : (other : Which) (p : SignalPair) (w : PairWaves)
          → variable_in other (record p { waves = w }) ≡ variable_in other p
      kept_variable First p w = refl
      kept_variable Second p w = refl

  -- what holds of all pairs after a change
  pub all_after : (P Q : SignalPair → Type 0) (old new : List SignalPair)
      → ((p q : SignalPair) → IsPairAfter bounds which variable tick text p q → Q p → P q)
      → ArePairsAfter bounds which variable tick text old new → All Q old → All P new
  all_after P Q old new step is all = λ i default below.
      let count = is.count in
      let inside : i < length old = omega (arith, count, below) in
      step (get_or old i default) (get_or new i default) (is.each i default inside) (all i default inside)
