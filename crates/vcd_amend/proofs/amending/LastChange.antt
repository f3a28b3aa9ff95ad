-- The last change up to a tick shows whether there is one at the tick.
use Rattle.std.proofs.Common.{◌≡◌, ◌<◌, ◌≤◌, ◌+◌, ◌-◌, ◌==◌, ◌||◌, ℕ, zero, suc, Bool, false, nat_le, List, []}
use Rattle.std.proofs.Common.{◌∷◌, get_or, refl, sym, ap, ap₂, ◌∙◌, arith, inl, inr, count_by, if◌then◌else◌, ◌&&◌, not}
use Rattle.std.proofs.lemmas.Bool.{cases_lt, le-leb, lt-leb, ne_eqb}
use Rattle.std.proofs.Math.Bool.{or-false}
use Rattle.std.proofs.lemmas.List.Sums.{sum_by-cons}
use Rattle.vcd_core.specs.declared.bit.Bit.{Bit}
use Rattle.vcd_core.specs.declared.wave.Change.{Change}
use Rattle.vcd_core.specs.Wave.{AreChangesFrom}
use Rattle.vcd_core.specs.Value.{same_letters}
use Rattle.vcd_amend.specs.Amendment.{AmendedCode, old_value, new_value, wave_has_change, needs_change}

-- how many changes are at most at a tick
abbrev pub early_count : List Change → ℕ → ℕ
early_count cs t = count_by (λ c. nat_le c.tick t) cs

one_counted : (c : Change) (cs : List Change) (t : ℕ) → c.tick ≤ t → early_count (c ∷ cs) t ≡ 1 + early_count cs t
one_counted c cs t early = sum_by-cons (λ (x : Change). if nat_le x.tick t then 1 else 0) c cs
    ∙ ap (λ (b : Bool). (if b then 1 else 0) + early_count cs t) (le-leb c.tick t early)

none_counted : (c : Change) (cs : List Change) (t : ℕ) → t < c.tick → early_count (c ∷ cs) t ≡ early_count cs t
none_counted c cs t late = sum_by-cons (λ (x : Change). if nat_le x.tick t then 1 else 0) c cs
    ∙ ap (λ (b : Bool). (if b then 1 else 0) + early_count cs t) (lt-leb c.tick t late) ∙ omega arith

-- before the first change
pub none_early : (floor : ℕ) (before : List Bit) (cs : List Change) (t : ℕ) → AreChangesFrom floor before cs → t < floor
    → (early_count cs t ≡ 0) × (wave_has_change cs t ≡ false)
none_early floor before [] t rise early = (refl, refl)
none_early floor before (c ∷ cs) t (from, other, wide, rest) early =
    let later = none_early (c.tick + 1) c.value cs t rest (omega arith) in (
      none_counted c cs t (omega arith) ∙ later.0,
      ap₂ (λ a b. a || b)
          (ne_eqb c.tick t (λ same. omega (arith, same, from, early))) later.1,
    )

pub none_at : (floor : ℕ) (before : List Bit) (cs : List Change) (t : ℕ) → AreChangesFrom floor before cs
    → early_count cs t ≡ 0 → wave_has_change cs t ≡ false
none_at floor before [] t rise none = refl
none_at floor before (c ∷ cs) t (from, other, wide, rest) none = elim (cases_lt t c.tick) [
  | inl late ↦ (none_early c.tick before (c ∷ cs) t (omega arith, other, wide, rest) late).1
  | inr early ↦ absurd (omega (arith, one_counted c cs t early, none))
]

pub last_at : (floor : ℕ) (before : List Bit) (cs : List Change) (t : ℕ) (d : Change) → AreChangesFrom floor before cs
    → 0 < early_count cs t → ((get_or cs (early_count cs t - 1) d).tick == t) ≡ wave_has_change cs t
last_at floor before [] t d rise some = absurd (omega (arith, some))
last_at floor before (c ∷ cs) t d (from, other, wide, rest) some = elim (cases_lt t c.tick) [
  | inl late ↦ absurd (omega (
    arith,
    some,
    (none_early c.tick before (c ∷ cs) t (omega arith, other, wide, rest)
        late).0,
  ))
  | inr early ↦ elim (cases_lt 0 (early_count cs t)) [
    | inl more ↦
        let here = last_at (c.tick + 1) c.value cs t d rest more in
        let index : early_count (c ∷ cs) t - 1 ≡ suc (early_count cs t - 1) =
        omega (arith, one_counted c cs t early, more) in
        let past : c.tick < t = elim (cases_lt c.tick t) [
          | inl before ↦ before
          | inr same ↦ absurd (omega (arith, more, (none_early (c.tick + 1) c.value cs t rest (omega arith)).0))
        ] in
        let other : (c.tick == t) ≡ false = ne_eqb c.tick t (λ same. omega (arith, same, past)) in
        ap (λ i. (get_or (c ∷ cs) i d).tick == t) index ∙ here ∙ ap (λ b. b || wave_has_change cs t) (sym other)
    | inr none ↦
        let zero_more : early_count cs t ≡ 0 = omega arith in
        let index : early_count (c ∷ cs) t - 1 ≡ 0 = omega (arith, one_counted c cs t early, zero_more) in
        ap (λ i. (get_or (c ∷ cs) i d).tick == t) index
        ∙ sym (ap (λ b. (c.tick == t) || b) (none_at (c.tick + 1) c.value cs t rest zero_more) ∙ or-false (c.tick == t))
  ]
]

-- a change is due by the values at its tick, too
pub needed_by : (c : AmendedCode) (t : ℕ)
    → (wave_has_change c.new t || ((t == 0) && not (same_letters (old_value c t) (new_value c t)))) ≡ needs_change c t
needed_by c zero = refl
needed_by c (suc t) =
    let later : (suc t == 0) ≡ false = ne_eqb (suc t) 0 (λ same. omega (arith, same)) in
    let has = wave_has_change c.new (suc t) in
    let differ : ℕ → Bool = λ u. not (same_letters (old_value c u) (new_value c u)) in
    ap (λ b. has || (b && differ (suc t))) later ∙ sym (ap (λ b. has || (b && differ 0)) later)

pub later_needs : (c : AmendedCode) (t : ℕ) → wave_has_change c.new (suc t) ≡ needs_change c (suc t)
later_needs c t =
    let later : (suc t == 0) ≡ false = ne_eqb (suc t) 0 (λ same. omega (arith, same)) in
    let has = wave_has_change c.new (suc t) in
    sym (ap (λ b. has || (b && not (same_letters (old_value c 0) (new_value c 0)))) later ∙ or-false has)
