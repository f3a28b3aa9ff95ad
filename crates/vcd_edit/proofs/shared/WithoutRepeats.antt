-- Changes without those that leave the value as it is, and the functions that have these changes.
use Rattle.std.proofs.Common.{◌≡◌, ℕ, ◌+◌, ◌<◌, ◌≤◌, Bool, true, false, nat_le, if◌then◌else◌, List, [], ◌∷◌, length}
use Rattle.std.proofs.Common.{map, inl, inr, refl, sym, ap, subst, ◌∙◌, arith}
use Rattle.std.proofs.lemmas.Bool.{cases_lt}
use Rattle.std.proofs.lemmas.List.{length-replicate}
use Rattle.vcd_core.specs.declared.bit.Bit.{Bit}
use Rattle.vcd_core.specs.declared.bit.Bit.TheVariants.{X}
use Rattle.vcd_core.specs.declared.wave.Change.{Change}
use Rattle.vcd_core.specs.Value.{all_x}
use Rattle.vcd_core.specs.Wave.{value_from, changes_of, AreChangesFrom, AllUpTo}
use Rattle.vcd_core.proofs.shared.Waves.{put_cases, value_past, value_skip, value_early, lower_floor, wave_is}
use Rattle.vcd_edit.specs.inside.plans.RemainingChanges.{TicksRise, without_repeats, mapped_change}

-- ---- a choice

pub either_value : {A B : Type 0} (h : A → B) (b : Bool) (x y : A) → (if b then h x else h y) ≡ h (if b then x else y)
either_value h true x y = refl
either_value h false x y = refl

pub either_same : {A : Type 0} (b : Bool) (x : A) → (if b then x else x) ≡ x
either_same true x = refl
either_same false x = refl

-- ---- lists whose ticks rise

pub rise_lower : (width low high : ℕ) (cs : List Change) → low ≤ high → TicksRise width high cs → TicksRise width low cs
rise_lower width low high [] le rise = tt
rise_lower width low high (c ∷ cs) le (from, wide, rest) = (omega arith, wide, rest)

-- before the first change the value is the one before the list
pub early_value : (width : ℕ) (v : List Bit) (cs : List Change) (floor t : ℕ) → TicksRise width floor cs → t < floor
    → value_from v cs t ≡ v
unfolding value_from
early_value width v [] floor t rise early = refl
early_value width v (c ∷ cs) floor t (from, wide, rest) early =
    value_skip v c cs t (omega arith) ∙ early_value width v cs (c.tick + 1) t rest (omega arith)

without_repeats_rise : (width floor : ℕ) (before : List Bit) (cs : List Change) → length before ≡ width
    → TicksRise width floor cs → AreChangesFrom floor before (without_repeats before cs)
unfolding without_repeats
without_repeats_rise width floor before [] long rise = tt
without_repeats_rise width floor before (c ∷ cs) long (from, wide, rest) =
    let tail = without_repeats_rise width (c.tick + 1) c.value cs wide rest in
    put_cases (λ l. AreChangesFrom floor before l) c.value before c (without_repeats c.value cs)
    (λ equal. lower_floor floor (c.tick + 1) before (without_repeats c.value cs) (omega arith)
    (subst (λ v. AreChangesFrom (c.tick + 1) v (without_repeats c.value cs)) equal tail))
    (λ other. (from, other, wide ∙ sym long, tail))

without_repeats_upto : (end : ℕ) (before : List Bit) (cs : List Change) → AllUpTo end cs
    → AllUpTo end (without_repeats before cs)
unfolding without_repeats
without_repeats_upto end before [] upto = tt
without_repeats_upto end before (c ∷ cs) (here, upto) =
    let tail = without_repeats_upto end c.value cs upto in
    put_cases (λ l. AllUpTo end l) c.value before c (without_repeats c.value cs) (λ _. tail) (λ _. (here, tail))

-- and the values are the same
without_repeats_value : (width floor : ℕ) (before : List Bit) (cs : List Change) (t : ℕ) → length before ≡ width
    → TicksRise width floor cs → value_from before (without_repeats before cs) t ≡ value_from before cs t
unfolding without_repeats value_from
without_repeats_value width floor before [] t long rise = refl
without_repeats_value width floor before (c ∷ cs) t long (from, wide, rest) =
    let kept = without_repeats c.value cs in
    let tail = without_repeats_value width (c.tick + 1) c.value cs t wide rest in
    put_cases (λ l. value_from before l t ≡ value_from before (c ∷ cs) t) c.value before c kept
    (λ equal. subst (λ v. value_from v kept t ≡ value_from (if nat_le c.tick t then c.value else v) cs t) equal
    (tail ∙ ap (λ v. value_from v cs t) (sym (either_same (nat_le c.tick t) c.value))))
    (λ other. elim (cases_lt t c.tick) [
      | inl early ↦
          value_skip before c kept t early ∙ value_early before c.value kept (c.tick + 1) t
          (without_repeats_rise width (c.tick + 1) c.value cs wide rest) (omega arith)
          ∙ sym (early_value width before (c ∷ cs) c.tick t (omega arith, wide, rest) early)
      | inr late ↦ value_past before c kept t late ∙ tail ∙ sym (value_past before c cs t late)
    ])

-- such a list has the changes of the function that has its values
pub without_repeats_is : (width end : ℕ) (cs : List Change) (f : ℕ → List Bit) → TicksRise width 0 cs → AllUpTo end cs
    → ((t : ℕ) → t ≤ end → value_from (all_x width) cs t ≡ f t)
    → without_repeats (all_x width) cs ≡ changes_of width end f
without_repeats_is width end cs f rise upto same =
    let long = length-replicate width X in
    wave_is width end (without_repeats (all_x width) cs) f
    (record { rise = without_repeats_rise width 0 (all_x width) cs long rise })
    (without_repeats_upto end (all_x width) cs upto)
    (λ t to. without_repeats_value width 0 (all_x width) cs t long rise ∙ same t to)

-- the changes of a wave rise
pub wave_rises : (width floor : ℕ) (before : List Bit) (cs : List Change) → length before ≡ width
    → AreChangesFrom floor before cs → TicksRise width floor cs
wave_rises width floor before [] long rise = tt
wave_rises width floor before (c ∷ cs) long (from, other, wide, rest) =
    (from, wide ∙ long, wave_rises width (c.tick + 1) c.value cs (wide ∙ long) rest)

-- ---- the same function of each value

pub mapped_rise : (width floor : ℕ) (h : List Bit → List Bit) (cs : List Change)
    → ((v : List Bit) → length (h v) ≡ length v) → TicksRise width floor cs
    → TicksRise width floor (map (mapped_change h) cs)
mapped_rise width floor h [] keeps rise = tt
mapped_rise width floor h (c ∷ cs) keeps (from, wide, rest) =
    (from, keeps c.value ∙ wide, mapped_rise width (c.tick + 1) h cs keeps rest)

pub mapped_upto : (end : ℕ) (h : List Bit → List Bit) (cs : List Change) → AllUpTo end cs
    → AllUpTo end (map (mapped_change h) cs)
mapped_upto end h [] upto = tt
mapped_upto end h (c ∷ cs) (here, upto) = (here, mapped_upto end h cs upto)

pub mapped_value : (h : List Bit → List Bit) (before : List Bit) (cs : List Change) (t : ℕ)
    → value_from (h before) (map (mapped_change h) cs) t ≡ h (value_from before cs t)
unfolding value_from
mapped_value h before [] t = refl
mapped_value h before (c ∷ cs) t =
    ap (λ v. value_from v (map (mapped_change h) cs) t) (either_value h (nat_le c.tick t) c.value before)
    ∙ mapped_value h (if nat_le c.tick t then c.value else before) cs t
