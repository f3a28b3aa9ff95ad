-- The factors of two timescales that files give, and the ends of their captures.
use Rattle.std.proofs.Common.{◌≡◌, ◌⊎◌, ℕ, ◌-◌, ◌*◌, ◌/◌, ◌^◌, ◌≤◌, ◌==◌, ◌||◌, nat_le, min, true}
use Rattle.std.proofs.Common.{refl, sym, ap, ◌∙◌, subst, inl, inr, arith, Option, Some, None}
use Rattle.std.specs.Prelude.{IfSome, IsTrue}
use Rattle.std.proofs.Math.Nat.{div_self, div-le_self, mul-one}
use Rattle.std.proofs.lemmas.Bool.{cases_Bool, or_cases, eqb-true, leb-true, leb-false}
use Rattle.std.proofs.lemmas.Nat.{le-div}
use Rattle.vcd_core.specs.declared.capture.TimeUnit.{TimeUnit}
use Rattle.vcd_core.specs.declared.capture.TimeUnit.TheVariants.{Second, Millisecond, Microsecond, Nanosecond}
use Rattle.vcd_core.specs.declared.capture.TimeUnit.TheVariants.{Picosecond, Femtosecond}
use Rattle.vcd_core.specs.declared.capture.Timescale.{Timescale}
use Rattle.vcd_core.specs.declared.capture.TheConstants.{END_LIMIT}
use Rattle.vcd_core.specs.Sound.{is_sound_timescale}
use Rattle.vcd_part.specs.Times.{femtoseconds}
use Rattle.vcd_compare.specs.Captures.{tick_length, finer, factor_of}

-- ---- a tick

unit_length : (u : TimeUnit) → (1 ≤ femtoseconds u) × (femtoseconds u ≤ 10 ^ 15)
unit_length Second = (omega arith, omega arith)
unit_length Millisecond = (omega arith, omega arith)
unit_length Microsecond = (omega arith, omega arith)
unit_length Nanosecond = (omega arith, omega arith)
unit_length Picosecond = (omega arith, omega arith)
unit_length Femtosecond = (omega arith, omega arith)

abbrev IsTick : ℕ → Type 0
IsTick n = (1 ≤ n) × (n ≤ 10 ^ 17)

counted : (count length : ℕ) → (1 ≤ length) × (length ≤ 10 ^ 15)
    → (count == 1 || count == 10 || count == 100) ≡ true → IsTick (count * length)
counted count length (least, most) is =
    elim (or_cases (count == 1 || count == 10) (count == 100) is) [
      | inl few ↦ elim (or_cases (count == 1) (count == 10) few) [
        | inl one ↦ subst (λ n. IsTick (n * length)) (sym (eqb-true count 1 one)) (omega arith, omega arith)
        | inr ten ↦ subst (λ n. IsTick (n * length)) (sym (eqb-true count 10 ten)) (omega arith, omega arith)
      ]
      | inr many ↦ subst (λ n. IsTick (n * length)) (sym (eqb-true count 100 many)) (omega arith, omega arith)
    ]

sound_tick : (t : Timescale) → IsTrue (is_sound_timescale t) → IsTick (tick_length t)
sound_tick t sound = counted t.count (femtoseconds t.unit) (unit_length t.unit) sound

-- ---- factors

-- a factor that is at least 1, and fits
abbrev pub IsFactor : ℕ → Type 0
IsFactor n = (1 ≤ n) × (n ≤ 2 ^ 64 - 1)

-- the factors of both captures, of which one is 1
pub record AreFactors (f g : ℕ) : Type 0 where
  pub first : IsFactor f
  pub second : IsFactor g
  pub one : (f ≡ 1) ⊎ (g ≡ 1)

one_is : IsFactor 1
one_is = (omega arith, omega arith)

own_factor : (s : Timescale) → IsTrue (is_sound_timescale s) → tick_length s / tick_length s ≡ 1
own_factor s sound = div_self (sound_tick s sound).0

ratio : (x y : ℕ) → IsTick x → IsTick y → y ≤ x → IsFactor (x / y)
ratio x y (x_least, x_most) (y_least, y_most) less =
    let most = div-le_self x y in
    (le-div 1 x y y_least (omega arith), omega arith)

both : (f g : ℕ) → f ≡ 1 → IsFactor g → AreFactors f g
both f g is other = record { first = subst IsFactor (sym is) one_is; second = other; one = inl is }

both_back : (f g : ℕ) → g ≡ 1 → IsFactor f → AreFactors f g
both_back f g is other = record { first = other; second = subst IsFactor (sym is) one_is; one = inr is }

pub factors_are : (s t : Option Timescale) → IfSome s (λ x. IsTrue (is_sound_timescale x))
    → IfSome t (λ x. IsTrue (is_sound_timescale x))
    → AreFactors (factor_of (finer s t) s) (factor_of (finer s t) t)
factors_are None None sound_s sound_t = both 1 1 refl one_is
factors_are None (Some t) sound_s sound_t = both 1 _ refl (subst IsFactor (sym (own_factor t sound_t)) one_is)
factors_are (Some s) None sound_s sound_t = both_back _ 1 refl (subst IsFactor (sym (own_factor s sound_s)) one_is)
factors_are (Some s) (Some t) sound_s sound_t =
    elim (cases_Bool (nat_le (tick_length s) (tick_length t))) [
      | inl less ↦
          let same : finer (Some s) (Some t) ≡ Some s = rw less refl in
          let least = leb-true (tick_length s) (tick_length t) less in
          subst (λ f. AreFactors (factor_of f (Some s)) (factor_of f (Some t))) (sym same)
          (both _ _ (own_factor s sound_s)
          (ratio (tick_length t) (tick_length s) (sound_tick t sound_t) (sound_tick s sound_s) least))
      | inr more ↦
          let same : finer (Some s) (Some t) ≡ Some t = rw more refl in
          let least : tick_length t ≤ tick_length s = omega (arith, leb-false (tick_length s) (tick_length t) more) in
          subst (λ f. AreFactors (factor_of f (Some s)) (factor_of f (Some t))) (sym same)
          (both_back _ _ (own_factor t sound_t)
          (ratio (tick_length s) (tick_length t) (sound_tick s sound_s) (sound_tick t sound_t) least))
    ]

-- ---- ends

-- the lesser end is one that a capture can have
pub common_is_small : (x y f g : ℕ) → AreFactors f g → x ≤ END_LIMIT → y ≤ END_LIMIT
    → min (x * f) (y * g) ≤ END_LIMIT
common_is_small x y f g are small other =
    elim are.one [
      | inl is ↦
          let same : x * f ≡ x = ap (λ n. x * n) is ∙ mul-one x in
          omega (arith, same, small)
      | inr is ↦
          let same : y * g ≡ y = ap (λ n. y * n) is ∙ mul-one y in
          omega (arith, same, other)
    ]
