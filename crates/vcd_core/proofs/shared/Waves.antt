-- The two readings of a wave, the value at a tick and the list of changes; a wave after its next change.
use Rattle.std.proofs.Common.{◌≡◌, ◌≢◌, ℕ, zero, suc, ◌+◌, ◌<◌, ◌≤◌, if◌then◌else◌, nat_le, List, [], ◌∷◌, ◌++◌, length}
use Rattle.std.proofs.Common.{refl, sym, ap, subst, ◌∙◌, inl, inr, arith, add-one, ◌==◌, true, false, not, Option, Some}
use Rattle.std.proofs.Common.{None}
use Rattle.std.proofs.lemmas.List.{length-replicate}
use Rattle.std.proofs.lemmas.Bool.{cases_eq, cases_Bool, lt-leb, le-leb, cond_both, eqb-true, eqb-false}
use Rattle.std.proofs.lemmas.Bool.{false_from_ne_true}
use Rattle.std.proofs.lemmas.Bool.Decides.{not_from_Decides}
use Rattle.std.proofs.lemmas.Option.{same_Some}
use Rattle.vcd_core.specs.declared.bit.Bit.{Bit}
use Rattle.vcd_core.specs.declared.wave.Change.{Change}
use Rattle.vcd_core.specs.Value.{all_x, same_letters}
use Rattle.vcd_core.specs.inside.value.EqualByLetters.{same_letters-Decides}
use Rattle.vcd_core.specs.Wave.{change, value_from, value_at, unless_same, changes_from, changes_of, AreChangesFrom}
use Rattle.vcd_core.specs.Wave.{IsWave, AllUpTo}
use Rattle.vcd_core.specs.WavePush.{last_value}
use Rattle.vcd_core.specs.Edges.{Trace, value_on, value_before, same_value, changes_at}
use Rattle.vcd_core.specs.inside.EdgeWalk.{next_tick, trace_past, Rises}

-- ==== the two readings of a wave: the value at a tick, and the list of changes

-- ---- the value at a tick

pub value_from-append : (before : List Bit) (xs ys : List Change) (t : ℕ)
    → value_from before (xs ++ ys) t ≡ value_from (value_from before xs t) ys t
unfolding value_from
value_from-append before [] ys t = refl
value_from-append before (c ∷ xs) ys t = value_from-append (if nat_le c.tick t then c.value else before) xs ys t

-- a change at or before the tick counts
pub value_past : (before : List Bit) (c : Change) (cs : List Change) (t : ℕ) → c.tick ≤ t
    → value_from before (c ∷ cs) t ≡ value_from c.value cs t
unfolding value_from
value_past before c cs t past = ap (λ b. value_from (if b then c.value else before) cs t) (le-leb c.tick t past)

-- a later one does not
pub value_skip : (before : List Bit) (c : Change) (cs : List Change) (t : ℕ) → t < c.tick
    → value_from before (c ∷ cs) t ≡ value_from before cs t
unfolding value_from
value_skip before c cs t early = ap (λ b. value_from (if b then c.value else before) cs t) (lt-leb c.tick t early)

-- before the first change the value is the one before the list
pub value_early : (before kept : List Bit) (cs : List Change) (floor t : ℕ) → AreChangesFrom floor kept cs → t < floor
    → value_from before cs t ≡ before
unfolding value_from
value_early before kept [] floor t rise early = refl
value_early before kept (c ∷ cs) floor t (from, other, wide, rest) early =
    value_skip before c cs t (omega arith) ∙ value_early before c.value cs (c.tick + 1) t rest (omega arith)

-- ---- the list of changes of a function

-- a change is listed where the values differ
pub put_cases : (P : List Change → Type 0) (v before : List Bit) (c : Change) (cs : List Change)
    → (v ≡ before → P cs) → (v ≢ before → P (c ∷ cs)) → P (unless_same (same_letters v before) c cs)
put_cases P v before c cs same other =
    elim (cases_Bool (same_letters v before)) [
      | inl e ↦ rw e (same ((same_letters-Decides v before).0 e))
      | inr e ↦ rw e (other (not_from_Decides _ (same_letters-Decides v before) e))
    ]

-- no change is listed at a tick at which the value stays
quiet_tick : (before : List Bit) (t n : ℕ) (cs : List Change) (f : ℕ → List Bit) → before ≡ f t
    → cs ≡ changes_from before (suc t) n f → cs ≡ changes_from before t (suc n) f
unfolding changes_from
quiet_tick before t n cs f here rest =
    put_cases (λ l. cs ≡ l) (f t) before (change t (f t)) (changes_from (f t) (suc t) n f)
    (λ _. subst (λ b. cs ≡ changes_from b (suc t) n f) here rest) (λ other. absurd (other (sym here)))

-- a list in the one form of a wave, with the values of f, is the list of changes of f
pub changes_are : (before : List Bit) (t n end : ℕ) (cs : List Change) (f : ℕ → List Bit)
    → t + n ≡ suc end → AreChangesFrom t before cs → AllUpTo end cs
    → ((s : ℕ) → t ≤ s → s ≤ end → value_from before cs s ≡ f s)
    → cs ≡ changes_from before t n f
unfolding changes_from value_from
changes_are before t zero end [] f all rise upto same = refl
changes_are before t zero end (c ∷ cs) f all rise upto same = absurd (omega (arith, rise.0, upto.0))
changes_are before t (suc n) end [] f all rise upto same =
    quiet_tick before t n [] f (same t (omega arith) (omega arith))
    (changes_are before (suc t) n end [] f (omega arith) tt tt (λ s from to. same s (omega arith) to))
changes_are before t (suc n) end (c ∷ cs) f all (from, other, wide, rest) (within, upto) same =
    elim (cases_eq t c.tick) [
      | inl at ↦
          let value : c.value ≡ f t =
          sym (value_past before c cs t (omega arith)
          ∙ value_early c.value c.value cs (c.tick + 1) t rest (omega arith))
          ∙ same t (omega arith) (omega arith) in
          let head : c ≡ change t (f t) = λ i. record { tick = sym at i; value = value i } in
          let rest_at : AreChangesFrom (suc t) c.value cs =
          subst (λ u. AreChangesFrom u c.value cs) (add-one c.tick ∙ ap suc (sym at)) rest in
          let tail : cs ≡ changes_from (f t) (suc t) n f =
          subst (λ b. cs ≡ changes_from b (suc t) n f) value
          (changes_are c.value (suc t) n end cs f (omega arith) rest_at upto
          (λ s later to. sym (value_past before c cs s (omega arith)) ∙ same s (omega arith) to)) in
          put_cases (λ l. c ∷ cs ≡ l) (f t) before (change t (f t)) (changes_from (f t) (suc t) n f)
          (λ equal. absurd (other (value ∙ equal)))
          (λ _ i. head i ∷ tail i)
      | inr apart ↦
          let later : t < c.tick = omega arith in
          let here : before ≡ f t =
          sym (value_skip before c cs t later ∙ value_early before c.value cs (c.tick + 1) t rest (omega arith))
          ∙ same t (omega arith) (omega arith) in
          quiet_tick before t n (c ∷ cs) f here
          (changes_are before (suc t) n end (c ∷ cs) f (omega arith) (omega arith, other, wide, rest) (within, upto)
          (λ s from' to. same s (omega arith) to))
    ]

-- the same for a whole wave
pub wave_is : (width end : ℕ) (cs : List Change) (f : ℕ → List Bit) → IsWave width cs → AllUpTo end cs
    → ((t : ℕ) → t ≤ end → value_at width cs t ≡ f t) → cs ≡ changes_of width end f
wave_is width end cs f is upto same =
    changes_are (all_x width) 0 (suc end) end cs f (omega arith) is.rise upto (λ s _ to. same s to)

-- a wave is the list of changes of its own values
pub changes_of-value_at : (width end : ℕ) (cs : List Change) → IsWave width cs → AllUpTo end cs
    → changes_of width end (value_at width cs) ≡ cs
changes_of-value_at width end cs is upto = sym (wave_is width end cs (value_at width cs) is upto (λ t _. refl))

-- two waves with the same value at each tick have the same changes
pub waves_equal : (width end : ℕ) (xs ys : List Change) → IsWave width xs → IsWave width ys → AllUpTo end xs
    → AllUpTo end ys
    → ((t : ℕ) → t ≤ end → value_at width xs t ≡ value_at width ys t) → xs ≡ ys
waves_equal width end xs ys is_xs is_ys xs_upto ys_upto same =
    wave_is width end xs (value_at width ys) is_xs xs_upto same ∙ changes_of-value_at width end ys is_ys ys_upto

-- the changes from a tick on do not depend on the ticks before
changes_later : (kept before : List Bit) (t n s : ℕ) (f : ℕ → List Bit) → s < t
    → value_from kept (changes_from before t n f) s ≡ kept
unfolding changes_from value_from
changes_later kept before t zero s f early = refl
changes_later kept before t (suc n) s f early =
    let rest = changes_later kept (f t) (suc t) n s f (omega arith) in
    put_cases (λ l. value_from kept l s ≡ kept) (f t) before (change t (f t)) (changes_from (f t) (suc t) n f)
    (λ _. rest) (λ _. value_skip kept (change t (f t)) (changes_from (f t) (suc t) n f) s early ∙ rest)

values_from : (before : List Bit) (t n s : ℕ) (f : ℕ → List Bit) → t ≤ s → s < t + n
    → value_from before (changes_from before t n f) s ≡ f s
unfolding changes_from
values_from before t zero s f from to = absurd (omega arith)
values_from before t (suc n) s f from to =
    let here : value_from (f t) (changes_from (f t) (suc t) n f) s ≡ f s =
    elim (cases_eq t s) [
      | inl at ↦ changes_later (f t) (f t) (suc t) n s f (omega arith) ∙ ap f at
      | inr apart ↦ values_from (f t) (suc t) n s f (omega arith) (omega arith)
    ] in
    put_cases (λ l. value_from before l s ≡ f s) (f t) before (change t (f t)) (changes_from (f t) (suc t) n f)
    (λ equal. subst (λ b. value_from b (changes_from (f t) (suc t) n f) s ≡ f s) equal here)
    (λ _. value_past before (change t (f t)) (changes_from (f t) (suc t) n f) s from ∙ here)

-- the changes of f have its value at each tick
pub value_at-changes_of : (width end t : ℕ) (f : ℕ → List Bit) → t ≤ end
    → value_at width (changes_of width end f) t ≡ f t
value_at-changes_of width end t f to = values_from (all_x width) 0 (suc end) t f (omega arith) (omega arith)

-- the floor of a list may be lowered
pub lower_floor : (low high : ℕ) (before : List Bit) (cs : List Change) → low ≤ high → AreChangesFrom high before cs
    → AreChangesFrom low before cs
lower_floor low high before [] le rise = tt
lower_floor low high before (c ∷ cs) le (from, other, wide, rest) = (omega arith, other, wide, rest)

changes_rise_from : (width : ℕ) (before : List Bit) (t n : ℕ) (f : ℕ → List Bit) → length before ≡ width
    → ((s : ℕ) → length (f s) ≡ width)
    → AreChangesFrom t before (changes_from before t n f)
unfolding changes_from
changes_rise_from width before t zero f long wide = tt
changes_rise_from width before t (suc n) f long wide =
    let rest = changes_rise_from width (f t) (suc t) n f (wide t) wide in
    put_cases (λ l. AreChangesFrom t before l) (f t) before (change t (f t)) (changes_from (f t) (suc t) n f)
    (λ equal. lower_floor t (suc t) before _ (omega arith)
    (subst (λ b. AreChangesFrom (suc t) b (changes_from (f t) (suc t) n f)) equal rest))
    (λ other. (
      omega arith,
      other,
      wide t ∙ sym long,
      subst (λ u. AreChangesFrom u (f t) (changes_from (f t) (suc t) n f)) (sym (add-one t)) rest,
    ))

-- the changes of f are a wave, where its values have the width
pub changes_rise : (width end : ℕ) (f : ℕ → List Bit) → ((s : ℕ) → length (f s) ≡ width)
    → IsWave width (changes_of width end f)
changes_rise width end f wide =
    record { rise = changes_rise_from width (all_x width) 0 (suc end) f (length-replicate width _) wide }

changes_end_from : (before : List Bit) (t n end : ℕ) (f : ℕ → List Bit) → t + n ≤ suc end
    → AllUpTo end (changes_from before t n f)
unfolding changes_from
changes_end_from before t zero end f within = tt
changes_end_from before t (suc n) end f within =
    let rest = changes_end_from (f t) (suc t) n end f (omega arith) in
    put_cases (λ l. AllUpTo end l) (f t) before (change t (f t)) (changes_from (f t) (suc t) n f) (λ _. rest)
    (λ _. (omega arith, rest))

-- no change of f is past the end
pub changes_end : (width end : ℕ) (f : ℕ → List Bit) → AllUpTo end (changes_of width end f)
changes_end width end f = changes_end_from (all_x width) 0 (suc end) end f (omega arith)

changes_same_from : (before : List Bit) (t n : ℕ) (f g : ℕ → List Bit) → ((s : ℕ) → t ≤ s → s < t + n → f s ≡ g s)
    → changes_from before t n f ≡ changes_from before t n g
unfolding changes_from
changes_same_from before t zero f g same = refl
changes_same_from before t (suc n) f g same =
    let here : f t ≡ g t = same t (omega arith) (omega arith) in
    ap (λ v. unless_same (same_letters v before) (change t v) (changes_from v (suc t) n f)) here
    ∙ ap (unless_same (same_letters (g t) before) (change t (g t)))
    (changes_same_from (g t) (suc t) n f g (λ s from to. same s (omega arith) (omega arith)))

-- functions with the same values up to the end have the same changes
pub changes_same : (width end : ℕ) (f g : ℕ → List Bit) → ((t : ℕ) → t ≤ end → f t ≡ g t)
    → changes_of width end f ≡ changes_of width end g
changes_same width end f g same = changes_same_from (all_x width) 0 (suc end) f g (λ s _ to. same s (omega arith))

-- ==== a wave at a tick, and after its next change

-- a wave of these parts
abbrev pub line : Option (List Bit) → List Change → Trace
line before changes = record { before = before; changes = changes }

-- ---- where there is no change

pub same_value-refl : (v : Option (List Bit)) → same_value v v ≡ true
same_value-refl None = refl
same_value-refl (Some v) = (same_letters-Decides v v).1 refl

-- different values have different letters
other_letters : (v w : List Bit) → v ≢ w → same_letters v w ≡ false
other_letters v w other = false_from_ne_true _ (λ e. other ((same_letters-Decides v w).0 e))

-- before its first change a wave has the value before it
pub quiet_value : (before : Option (List Bit)) (changes : List Change) (floor t : ℕ) → Rises floor (line before changes)
    → t < floor → value_on (line before changes) t ≡ before
quiet_value None changes floor t rises early = refl
quiet_value (Some v) changes floor t rises early =
    ap (λ (w : List Bit). Some w) (value_early v v changes floor t rises early)

pub quiet_before : (before : Option (List Bit)) (changes : List Change) (floor t : ℕ)
    → Rises floor (line before changes) → t ≤ floor → value_before (line before changes) t ≡ before
quiet_before before changes floor zero rises early = refl
quiet_before before changes floor (suc t) rises early = quiet_value before changes floor t rises (omega arith)

-- so it changes at none of these ticks
pub quiet : (l : Trace) (floor t : ℕ) → Rises floor l → t < floor → changes_at t l ≡ false
quiet l floor t rises early =
    let on = quiet_value l.before l.changes floor t rises early in
    let just_before = quiet_before l.before l.changes floor t rises (omega arith) in
    rw (on, just_before) (ap not (same_value-refl l.before))

-- ---- past a change

-- a wave after its change at a tick has the same values from there on
pub after_agrees : (before : Option (List Bit)) (changes : List Change) (t u : ℕ) → Rises t (line before changes)
    → t ≤ u → value_on (line before changes) u ≡ value_on (trace_past t before changes) u
after_agrees before [] t u rises later = refl
after_agrees None (c ∷ cs) t u rises later = absurd (cc)
after_agrees (Some v) (c ∷ cs) t u rises later =
    cond_both (c.tick == t) _ _ (λ l. value_on (line (Some v) (c ∷ cs)) u ≡ value_on l u)
    (λ e. ap (λ (w : List Bit). Some w) (value_past v c cs u (omega (arith, eqb-true c.tick t e)))) (λ _. refl)

-- and its changes rise from the next tick on
pub after_rises : (before : Option (List Bit)) (changes : List Change) (t : ℕ) → Rises t (line before changes)
    → Rises (suc t) (trace_past t before changes)
after_rises None [] t rises = refl
after_rises (Some v) [] t rises = tt
after_rises None (c ∷ cs) t rises = absurd (cc)
after_rises (Some v) (c ∷ cs) t (from, other, wide, rest) =
    cond_both (c.tick == t) _ _ (Rises (suc t))
    (λ e. subst (λ u. AreChangesFrom u c.value cs) (add-one c.tick ∙ ap suc (eqb-true c.tick t e)) rest)
    (λ e. let apart : c.tick ≢ t = eqb-false c.tick t e in (omega arith, other, wide, rest))

-- a wave changes at the tick of its next change
pub changes_there : (before : Option (List Bit)) (changes : List Change) (t : ℕ) → Rises t (line before changes)
    → next_tick changes ≡ Some t → changes_at t (line before changes) ≡ true
changes_there before [] t rises next = absurd (cc)
changes_there None (c ∷ cs) t rises next = absurd (cc)
changes_there (Some v) (c ∷ cs) t rises next =
    let here : c.tick ≡ t = same_Some c.tick t next in
    let on : value_on (line (Some v) (c ∷ cs)) t ≡ Some c.value =
    ap (λ (w : List Bit). Some w) (value_past v c cs t (omega arith)
    ∙ value_early c.value c.value cs (c.tick + 1) t rises.3 (omega arith)) in
    let just_before = quiet_before (Some v) (c ∷ cs) t t rises (omega arith) in
    rw (on, just_before) (ap not (other_letters c.value v rises.1))

-- ---- raising the floor to the next change

pub rises_next : (before : Option (List Bit)) (changes : List Change) (t : ℕ) → Rises 0 (line before changes)
    → ((u : ℕ) → next_tick changes ≡ Some u → t ≤ u) → Rises t (line before changes)
rises_next None changes t rises least = rises
rises_next (Some v) [] t rises least = tt
rises_next (Some v) (c ∷ cs) t (from, other, wide, rest) least = (least c.tick refl, other, wide, rest)

pub lower_rises : (before : Option (List Bit)) (changes : List Change) (low high : ℕ) → low ≤ high
    → Rises high (line before changes) → Rises low (line before changes)
lower_rises None changes low high le rises = rises
lower_rises (Some v) changes low high le rises = lower_floor low high v changes le rises

-- ---- past the last change

pub value_last : (before : List Bit) (cs : List Change) (end t : ℕ) → AllUpTo end cs → end ≤ t
    → value_from before cs t ≡ last_value before cs
unfolding value_from last_value
value_last before [] end t upto late = refl
value_last before (c ∷ cs) end t (within, rest) late = value_past before c cs t (omega arith)
    ∙ value_last c.value cs end t rest late

pub ended : (before : Option (List Bit)) (changes : List Change) (end t : ℕ) → AllUpTo end changes → end < t
    → changes_at t (line before changes) ≡ false
ended before changes end zero upto late = absurd (omega arith)
ended None changes end (suc t) upto late = refl
ended (Some v) changes end (suc t) upto late =
    let on = value_last v changes end (suc t) upto (omega arith) in
    let just_before = value_last v changes end t upto (omega arith) in
    rw (on, just_before) (ap not (same_value-refl (Some (last_value v changes))))
