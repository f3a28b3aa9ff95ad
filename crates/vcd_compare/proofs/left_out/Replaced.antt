-- How many changes a later one replaces, if one more comes.
use Rattle.std.proofs.Common.{◌≡◌, ℕ, ◌+◌, ◌<◌, ◌≤◌, ◌==◌, ◌⊎◌, Bool, true, false, ◌&&◌, ◌||◌, List, [], ◌∷◌, ◌++◌}
use Rattle.std.proofs.Common.{length, map, refl, sym, ap, ◌∙◌, arith, inl, inr, eq-eqb, if◌then◌else◌}
use Rattle.std.specs.List.{list_any}
use Rattle.std.proofs.lemmas.Bool.{cases_Bool, and_parts, eqb-true, ne_eqb, cases_eq}
use Rattle.std.proofs.lemmas.List.Folds.{list_any-append}
use Rattle.vcd_text.specs.HeardChanges.{HeardChange}
use Rattle.vcd_text.specs.HeardLaws.{TicksRise}
use Rattle.vcd_text.specs.declared.reading.heard_changes.ChangeTarget.{ChangeTarget}
use Rattle.vcd_text.specs.declared.reading.heard_changes.ChangeTarget.TheVariants.{Kept, Skipped}
use Rattle.vcd_compare.specs.LeftOut.{same_target, is_change_at, replaced_of}
use Rattle.vcd_compare.specs.inside.LastTicks.{tick_after}
use Rattle.vcd_compare.proofs.shared.HeardParts.{rise_bounds}

-- ---- one variable

eqb_sym : (k j : ℕ) → (k == j) ≡ (j == k)
eqb_sym k j =
    elim (cases_eq k j) [
      | inl same ↦ eq-eqb k j same ∙ sym (eq-eqb j k (sym same))
      | inr apart ↦ ne_eqb k j apart ∙ sym (ne_eqb j k (λ e. apart (sym e)))
    ]

target_sym : (a b : ChangeTarget) → same_target a b ≡ same_target b a
target_sym (Kept k) (Kept j) = eqb_sym k j
target_sym (Skipped k) (Skipped j) = eqb_sym k j
target_sym (Kept k) (Skipped j) = refl
target_sym (Skipped k) (Kept j) = refl

target_is : (a b : ChangeTarget) → same_target a b ≡ true → a ≡ b
target_is (Kept k) (Kept j) same = ap Kept (eqb-true k j same)
target_is (Skipped k) (Skipped j) same = ap Skipped (eqb-true k j same)
target_is (Kept k) (Skipped j) same = absurd (cc same)
target_is (Skipped k) (Kept j) same = absurd (cc same)

change_sym : (g h : HeardChange) → is_change_at g.target g.tick h ≡ is_change_at h.target h.tick g
change_sym g h = λ i. target_sym h.target g.target i && eqb_sym h.tick g.tick i

-- ---- one change more

abbrev bit : Bool → ℕ
bit b = if b then 1 else 0

abbrev has_same : HeardChange → List HeardChange → Bool
has_same h hs = list_any (is_change_at h.target h.tick) hs

-- changes of one variable at one tick have the same ones among others
same_among : (g h : HeardChange) (hs : List HeardChange) → is_change_at h.target h.tick g ≡ true
    → has_same g hs ≡ has_same h hs
same_among g h hs same =
    let (target, tick) = and_parts (same_target g.target h.target) (g.tick == h.tick) same in
    λ i. list_any (is_change_at (target_is g.target h.target target i) (eqb-true g.tick h.tick tick i)) hs

or_true : (b : Bool) → (b || true) ≡ true
or_true true = refl
or_true false = refl

or_false : (b : Bool) → (b || false) ≡ b
or_false true = refl
or_false false = refl

-- the sums, if the first change is the same as the last one, and if it is another
sum_same : (a b c d : Bool) (r s : ℕ) → a ≡ true → b ≡ d → c ≡ true → s ≡ r + bit d
    → bit a + s ≡ (bit b + r) + bit c
sum_same a b c d r s first same last rest =
    (λ i. bit (first i) + rest i) ∙ (λ i. 1 + (r + bit (sym same i)))
    ∙ swapped (bit b) r ∙ (λ i. (bit b + r) + bit (sym last i))
  where
    swapped : (m n : ℕ) → 1 + (n + m) ≡ (m + n) + 1
    swapped m n = omega arith

sum_other : (a b c d : Bool) (r s : ℕ) → a ≡ b → c ≡ d → s ≡ r + bit d → bit a + s ≡ (bit b + r) + bit c
sum_other a b c d r s same others rest =
    (λ i. bit (same i) + rest i) ∙ moved (bit b) r (bit d) ∙ (λ i. (bit b + r) + bit (sym others i))
  where
    moved : (m n o : ℕ) → m + (n + o) ≡ (m + n) + o
    moved m n o = omega arith

pub one_more : (hs : List HeardChange) (h : HeardChange)
    → replaced_of (hs ++ h ∷ []) ≡ replaced_of hs + (if list_any (is_change_at h.target h.tick) hs then 1 else 0)
unfolding replaced_of
one_more [] h = refl
one_more (g ∷ gs) h =
    let rest = one_more gs h in
    let all : has_same g (gs ++ h ∷ []) ≡ (has_same g gs || (is_change_at g.target g.tick h || false)) =
    list_any-append (is_change_at g.target g.tick) gs (h ∷ []) in
    let own : (is_change_at g.target g.tick h || false) ≡ is_change_at h.target h.tick g =
    or_false (is_change_at g.target g.tick h) ∙ change_sym g h in
    elim (cases_Bool (is_change_at h.target h.tick g)) [
      | inl same ↦
          sum_same _ (has_same g gs) _ (has_same h gs) (replaced_of gs) (replaced_of (gs ++ h ∷ []))
          (all ∙ ap (λ b. has_same g gs || b) (own ∙ same) ∙ or_true (has_same g gs)) (same_among g h gs same)
          (ap (λ b. b || has_same h gs) same) rest
      | inr other ↦
          sum_other _ (has_same g gs) _ (has_same h gs) (replaced_of gs) (replaced_of (gs ++ h ∷ []))
          (all ∙ ap (λ b. has_same g gs || b) (own ∙ other) ∙ or_false (has_same g gs))
          (ap (λ b. b || has_same h gs) other) rest
    ]

-- each change replaces one at most
at_most_one : (b : Bool) → bit b ≤ 1
at_most_one true = omega arith
at_most_one false = omega arith

pub few_replaced : (hs : List HeardChange) → replaced_of hs ≤ length hs
unfolding replaced_of
few_replaced [] = omega arith
few_replaced (h ∷ hs) = omega (arith, few_replaced hs, at_most_one (has_same h hs))

-- ---- the last tick

or_absorbs : (x y z : Bool) → (x ≡ true → y ≡ true) → (y || z) ≡ (x || (y || z))
or_absorbs true y z so = ap (λ b. b || z) (so refl)
or_absorbs false y z so = refl

-- one more change before others, which is of the variable or not
by_target : (target : ChangeTarget) (tick before from : ℕ) (h : HeardChange) (hs : List HeardChange) → from ≤ h.tick
    → h.tick ≤ tick → (before ≤ from) ⊎ (tick < before)
    → ((last : ℕ) → (last ≤ h.tick) ⊎ (tick < last) → (tick_after last target hs == tick)
    ≡ ((last == tick) || list_any (is_change_at target tick) hs))
    → (own : Bool) → (tick_after (if own then h.tick else before) target hs == tick)
    ≡ ((before == tick) || ((own && (h.tick == tick)) || list_any (is_change_at target tick) hs))
by_target target tick before from h hs first upto known others true =
    others h.tick (inl (omega arith))
    ∙ or_absorbs (before == tick) (h.tick == tick) (list_any (is_change_at target tick) hs) (λ at.
    let same = eqb-true before tick at in
    eq-eqb h.tick tick (elim known [
      | inl early ↦ omega (arith, early, first, upto, same)
      | inr none ↦ omega (arith, none, same)
    ]))
by_target target tick before from h hs first upto known others false =
    others before (elim known [
      | inl early ↦ inl (omega (arith, early, first))
      | inr none ↦ inr none
    ])

-- where ticks rise to a tick, the last one of a variable is that if a change is at it
pub last_is_same : (target : ChangeTarget) (tick before from : ℕ) (hs : List HeardChange)
    → TicksRise from tick (map (λ (h : HeardChange). h.tick) hs) → (before ≤ from) ⊎ (tick < before)
    → (tick_after before target hs == tick) ≡ ((before == tick) || list_any (is_change_at target tick) hs)
last_is_same target tick before from [] rise known = sym (or_false (before == tick))
last_is_same target tick before from (h ∷ hs) (first, rise) known =
    by_target target tick before from h hs first
    (rise_bounds h.tick tick (map (λ (g : HeardChange). g.tick) hs) rise) known
    (λ last early. last_is_same target tick last h.tick hs rise early) (same_target h.target target)
