-- What an edit makes of a capture with other waves that it does not read.
use Rattle.std.proofs.Common.{◌≡◌, ◌≤◌, ℕ, zero, suc, ◌-◌, Bool, true, false, if◌then◌else◌, nat_lt, List, [], ◌∷◌}
use Rattle.std.proofs.Common.{◌++◌, length, map, take, drop, get_or, set, Some, None, refl, sym, ap, subst, ◌∙◌, arith}
use Rattle.std.specs.Prelude.{codes}
use Rattle.std.specs.List.{remove}
use Rattle.std.proofs.lemmas.List.{length-append, length-take, length-drop, length-set, length-map, length_push}
use Rattle.vcd_core.specs.declared.bit.Bit.{Bit}
use Rattle.vcd_core.specs.declared.wave.Change.{Change}
use Rattle.vcd_core.specs.Value.{all_x, letter_at}
use Rattle.vcd_core.specs.Wave.{change, value_from, changes_from, changes_of}
use Rattle.vcd_core.specs.Contents.{Contents, SignalContents, no_signal, signal_at, with_signal, signal_value}
use Rattle.vcd_core.specs.Outline.{without_changes}
use Rattle.vcd_core.proofs.shared.Waves.{put_cases}
use Rattle.vcd_edit.specs.declared.edit.Edit.TheVariants.{Rename, Remove, Invert, Shift, Cut, Deglitch, Force, Derive}
use Rattle.vcd_edit.specs.declared.edit.Rule.{Rule}
use Rattle.vcd_edit.specs.declared.edit.Formula.{Formula}
use Rattle.vcd_edit.specs.declared.edit.Formula.TheVariants.{Negation, Pair, BitSelect}
use Rattle.vcd_edit.specs.Operators.{not_bit, operator_bit}
use Rattle.vcd_edit.specs.Effect.{with_values, renamed_signal, inverse_value, shift_value, steady_value, force_value}
use Rattle.vcd_edit.specs.Effect.{cut_value, signal_after_cut, formula, first_operand, formula_bit, derived_signal}
use Rattle.vcd_edit.specs.Effect.{effect}
use Rattle.vcd_edit.specs.EditFaults.{operands}
use Rattle.vcd_hollow.specs.OtherWaves.{OtherChanges, with_other, signals_with_others, with_others, HaveOwn}
use Rattle.vcd_hollow.specs.OtherWaves.{others_after_cut, OthersKeepOutline, EffectWithOthers, OthersFitEffect}

-- ---- lists of signals

none_left : (others : List OtherChanges) → signals_with_others others [] ≡ []
none_left [] = refl
none_left (other ∷ others) = refl

-- a signal that keeps its own changes
own_at : (others : List OtherChanges) (ss : List SignalContents) (k : ℕ) → get_or others k None ≡ None
    → get_or (signals_with_others others ss) k no_signal ≡ get_or ss k no_signal
own_at [] ss k own = refl
own_at (other ∷ others) [] k own = refl
own_at (other ∷ others) (s ∷ ss) zero own = ap (λ (o : OtherChanges). with_other o s) own
own_at (other ∷ others) (s ∷ ss) (suc k) own = own_at others ss k own

others-set : (others : List OtherChanges) (ss : List SignalContents) (k : ℕ) (s : SignalContents)
    → signals_with_others others (set ss k s)
    ≡ set (signals_with_others others ss) k (with_other (get_or others k None) s)
others-set [] ss k s = refl
others-set (other ∷ others) [] k s = refl
others-set (other ∷ others) (r ∷ ss) zero s = refl
others-set (other ∷ others) (r ∷ ss) (suc k) s =
    ap (λ (rest : List SignalContents). with_other other r ∷ rest) (others-set others ss k s)

-- the signal at a position after a function that leaves its changes
others-update : (f : SignalContents → SignalContents)
    → ((other : OtherChanges) (s : SignalContents) → f (with_other other s) ≡ with_other other (f s))
    → (others : List OtherChanges) (ss : List SignalContents) (k : ℕ)
    → set (signals_with_others others ss) k (f (get_or (signals_with_others others ss) k no_signal))
    ≡ signals_with_others others (set ss k (f (get_or ss k no_signal)))
others-update f each [] ss k = refl
others-update f each (other ∷ others) [] k = refl
others-update f each (other ∷ others) (s ∷ ss) zero =
    ap (λ (r : SignalContents). r ∷ signals_with_others others ss) (each other s)
others-update f each (other ∷ others) (s ∷ ss) (suc k) =
    ap (λ (rest : List SignalContents). with_other other s ∷ rest) (others-update f each others ss k)

others-remove : (others : List OtherChanges) (ss : List SignalContents) (k : ℕ)
    → signals_with_others (remove others k) (remove ss k) ≡ remove (signals_with_others others ss) k
others-remove [] ss zero = refl
others-remove [] ss (suc k) = refl
others-remove (other ∷ others) [] zero = none_left others
others-remove (other ∷ others) [] (suc k) = refl
others-remove (other ∷ others) (s ∷ ss) zero = refl
others-remove (other ∷ others) (s ∷ ss) (suc k) =
    ap (λ (rest : List SignalContents). with_other other s ∷ rest) (others-remove others ss k)

others-push : (others : List OtherChanges) (ss : List SignalContents) (s : SignalContents)
    → length others ≤ length ss
    → signals_with_others others (ss ++ s ∷ []) ≡ signals_with_others others ss ++ s ∷ []
others-push [] ss s fits = refl
others-push (other ∷ others) [] s fits = absurd (omega (arith, fits))
others-push (other ∷ others) (r ∷ ss) s fits =
    ap (λ (rest : List SignalContents). with_other other r ∷ rest) (others-push others ss s (omega (arith, fits)))

pub count_with_others : (others : List OtherChanges) (ss : List SignalContents)
    → length (signals_with_others others ss) ≡ length ss
count_with_others [] ss = refl
count_with_others (other ∷ others) [] = refl
count_with_others (other ∷ others) (s ∷ ss) = ap suc (count_with_others others ss)

-- ---- the outline

other_leaves_outline : (other : OtherChanges) (s : SignalContents)
    → without_changes (with_other other s) ≡ without_changes s
other_leaves_outline None s = refl
other_leaves_outline (Some changes) s = refl

outlines_same : (others : List OtherChanges) (ss : List SignalContents)
    → map without_changes (signals_with_others others ss) ≡ map without_changes ss
outlines_same [] ss = refl
outlines_same (other ∷ others) [] = refl
outlines_same (other ∷ others) (s ∷ ss) = λ i. other_leaves_outline other s i ∷ outlines_same others ss i

pub others_keep_outline : OthersKeepOutline
others_keep_outline others c =
    ap (λ (ss : List SignalContents). record c { signals = ss }) (outlines_same others c.signals)

-- ---- a cut

all_cut : (end from to : ℕ) (others : List OtherChanges) (ss : List SignalContents)
    → map (signal_after_cut end from to) (signals_with_others others ss)
    ≡ signals_with_others (others_after_cut end from to others ss) (map (signal_after_cut end from to) ss)
all_cut end from to [] ss = refl
all_cut end from to (other ∷ others) [] = refl
all_cut end from to (None ∷ others) (s ∷ ss) =
    ap (λ (rest : List SignalContents). signal_after_cut end from to s ∷ rest) (all_cut end from to others ss)
all_cut end from to (Some changes ∷ others) (s ∷ ss) =
    ap (λ (rest : List SignalContents). signal_after_cut end from to (record s { changes = changes }) ∷ rest)
    (all_cut end from to others ss)

cut_fits : (end from to : ℕ) (others : List OtherChanges) (ss : List SignalContents) → length others ≤ length ss
    → length (others_after_cut end from to others ss) ≤ length ss
cut_fits end from to [] ss fits = fits
cut_fits end from to (other ∷ others) [] fits = omega arith
cut_fits end from to (other ∷ others) (s ∷ ss) fits =
    omega (arith, cut_fits end from to others ss (omega (arith, fits)))

-- no change is listed where the value stays
none_listed : (before : List Bit) (t n : ℕ) (f : ℕ → List Bit) → ((u : ℕ) → f u ≡ before)
    → changes_from before t n f ≡ []
unfolding changes_from
none_listed before t zero f same = refl
none_listed before t (suc n) f same =
    put_cases (λ l. l ≡ []) (f t) before (change t (f t)) (changes_from (f t) (suc t) n f)
    (λ _. subst (λ b. changes_from b (suc t) n f ≡ []) (sym (same t)) (none_listed before (suc t) n f same))
    (λ other. absurd (other (same t)))

either_same : (b : Bool) (v : List Bit) → (if b then v else v) ≡ v
either_same true v = refl
either_same false v = refl

cut_stays_x : (from to : ℕ) (s : SignalContents) (t : ℕ) → cut_value from to (without_changes s) t ≡ all_x s.width
unfolding value_from
cut_stays_x from to s t = either_same (nat_lt t from) (all_x s.width)

-- a cut leaves a wave without changes
pub cut_of_none : (end from to : ℕ) (s : SignalContents)
    → signal_after_cut end from to (without_changes s) ≡ without_changes s
cut_of_none end from to s =
    ap (λ (cs : List Change). record s { changes = cs })
    (none_listed (all_x s.width) 0 (suc end) (cut_value from to (without_changes s)) (cut_stays_x from to s))

-- ---- effects

module _ (others : List OtherChanges) (c : Contents) where
  abbrev d : Contents
  d = with_others others c

  -- a signal with its own changes is the same in both
  pub same_signal : (k : ℕ) → get_or others k None ≡ None → signal_at d k ≡ signal_at c k
  same_signal k own = own_at others c.signals k own

  -- another signal in its place
  same_replaced : (f : SignalContents → SignalContents) (k : ℕ) → get_or others k None ≡ None
      → with_signal d k (f (signal_at d k)) ≡ with_others others (with_signal c k (f (signal_at c k)))
  same_replaced f k own =
      ap (λ (ss : List SignalContents). record c { signals = ss })
      ((λ i. set (signals_with_others others c.signals) k (with_other (sym own i) (f (same_signal k own i))))
      ∙ sym (others-set others c.signals k (f (signal_at c k))))

  -- what a formula gives
  bit_same : (f : Formula) (t : ℕ) → HaveOwn others (operands f) → formula_bit f d t ≡ formula_bit f c t
  bit_same (Negation a) t own = λ i. not_bit (letter_at (signal_value (same_signal a own.0 i) t) 0)
  bit_same (Pair operator a b) t own = λ i.
      operator_bit operator (letter_at (signal_value (same_signal a own.0 i) t) 0)
      (letter_at (signal_value (same_signal b own.1.0 i) t) 0)
  bit_same (BitSelect a k) t own = λ i. letter_at (signal_value (same_signal a own.0 i) t) k

  operand_same : (f : Formula) → HaveOwn others (operands f)
      → signal_at d (first_operand f) ≡ signal_at c (first_operand f)
  operand_same (Negation a) own = same_signal a own.0
  operand_same (Pair operator a b) own = same_signal a own.0
  operand_same (BitSelect a k) own = same_signal a own.0

  derived_same : (word : List ℕ) (rule : Rule) → HaveOwn others (operands (formula rule))
      → derived_signal word rule d ≡ derived_signal word rule c
  derived_same word rule own = λ i. record {
    scopes = (operand_same (formula rule) own i).scopes;
    kind = codes "wire";
    words = word ∷ [];
    width = 1;
    changes = changes_of 1 c.end (λ t. bit_same (formula rule) t own i ∷ []);
  }

renamed_with_other : (word : List ℕ) (other : OtherChanges) (s : SignalContents)
    → renamed_signal word (with_other other s) ≡ with_other other (renamed_signal word s)
renamed_with_other word None s = refl
renamed_with_other word (Some changes) s = refl

pub effect_with_others : EffectWithOthers
unfolding effect
effect_with_others (Rename k word) others c fits own =
    ap (λ (ss : List SignalContents). record c { signals = ss })
    (others-update (renamed_signal word.now) (renamed_with_other word.now) others c.signals k)
effect_with_others (Remove k) others c fits own =
    ap (λ (ss : List SignalContents). record c { signals = ss }) (sym (others-remove others c.signals k))
effect_with_others (Invert k) others c fits own =
    same_replaced others c (λ s. with_values c.end (inverse_value s) s) k own.0
effect_with_others (Shift k by) others c fits own =
    same_replaced others c (λ s. with_values c.end (shift_value c.end by s) s) k own.0
effect_with_others (Cut from to) others c fits own =
    ap (λ (ss : List SignalContents). record c { end = c.end - (to - from); signals = ss })
    (all_cut (c.end - (to - from)) from to others c.signals)
effect_with_others (Deglitch k ticks) others c fits own =
    same_replaced others c (λ s. with_values c.end (steady_value ticks c.end (signal_value s)) s) k own.0
effect_with_others (Force k from to value) others c fits own =
    same_replaced others c (λ s. with_values c.end (force_value from to value s) s) k own.0
effect_with_others (Derive word rule) others c fits own =
    ap (λ (ss : List SignalContents). record c { signals = ss })
    ((λ i. signals_with_others others c.signals ++ derived_same others c word.now rule own i ∷ [])
    ∙ sym (others-push others c.signals (derived_signal word.now rule c) fits))

-- ---- how many are left

removed_fits : {X Y : Type 0} (xs : List X) (ys : List Y) (k : ℕ) → length xs ≤ length ys
    → length (remove xs k) ≤ length (remove ys k)
removed_fits xs ys k fits =
    omega (
      arith,
      length-append (take k xs) (drop (suc k) xs),
      length-append (take k ys) (drop (suc k) ys),
      length-take k xs,
      length-take k ys,
      length-drop (suc k) xs,
      length-drop (suc k) ys,
      fits,
    )

set_fits : {X : Type 0} (xs : List X) (c : Contents) (k : ℕ) (s : SignalContents) → length xs ≤ length c.signals
    → length xs ≤ length (with_signal c k s).signals
set_fits xs c k s fits = omega (arith, length-set c.signals k s, fits)

pub others_fit_effect : OthersFitEffect
unfolding effect
others_fit_effect (Rename k word) others c fits = set_fits others c k _ fits
others_fit_effect (Remove k) others c fits = removed_fits others c.signals k fits
others_fit_effect (Invert k) others c fits = set_fits others c k _ fits
others_fit_effect (Shift k by) others c fits = set_fits others c k _ fits
others_fit_effect (Cut from to) others c fits =
    omega (
      arith,
      length-map c.signals (signal_after_cut (c.end - (to - from)) from to),
      cut_fits (c.end - (to - from)) from to others c.signals fits,
    )
others_fit_effect (Deglitch k ticks) others c fits = set_fits others c k _ fits
others_fit_effect (Force k from to value) others c fits = set_fits others c k _ fits
others_fit_effect (Derive word rule) others c fits =
    omega (arith, length_push c.signals (derived_signal word.now rule c), fits)
