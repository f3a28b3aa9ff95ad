-- Runs of one value: which one contains a tick, and whether it is steady.
use Rattle.std.proofs.Common.{◌≡◌, ◌≢◌, ℕ, zero, suc, ◌+◌, ◌-◌, ◌<◌, ◌≤◌, ◌==◌, ◌||◌, nat_le, if◌then◌else◌, List}
use Rattle.std.proofs.Common.{inl, inr, sym, ap, ◌∙◌, arith}
use Rattle.std.proofs.lemmas.Bool.{cases_lt, cases_eq, cond_both, iff_false}
use Rattle.vcd_core.specs.declared.bit.Bit.{Bit}
use Rattle.vcd_core.specs.Value.{same_letters}
use Rattle.vcd_core.specs.inside.value.EqualByLetters.{same_letters-Decides}
use Rattle.vcd_edit.specs.Effect.{run_start, run_end, is_steady}

-- ---- ranges with one value

-- a range with one value has no start of a run after its first tick
pub starts_before : (f : ℕ → List Bit) (v : List Bit) (a b c : ℕ) → ((s : ℕ) → a ≤ s → s ≤ b → f s ≡ v)
    → ((p : ℕ) → suc p ≡ c → f c ≢ f p) → c ≤ b → c ≤ a
starts_before f v a b c same begins within =
    elim (cases_lt a c) [
      | inl less ↦ absurd (begins (c - 1) (omega arith) (same c (omega arith) within
          ∙ sym (same (c - 1) (omega arith) (omega arith))))
      | inr more ↦ more
    ]

-- and no end before its last tick
pub ends_after : (f : ℕ → List Bit) (v : List Bit) (a b c : ℕ) → ((s : ℕ) → a ≤ s → s ≤ b → f s ≡ v)
    → (c < b → f (suc c) ≢ f c) → a ≤ c → b ≤ c
ends_after f v a b c same ends within =
    elim (cases_lt c b) [
      | inl less ↦ absurd (ends less (same (suc c) (omega arith) (omega arith) ∙ sym (same c within (omega arith))))
      | inr more ↦ more
    ]

-- ---- the run that contains a tick

-- a choice by whether two values are the same
same_cases : {A : Type 0} (P : A → Type 0) (v w : List Bit) (x y : A) → (v ≡ w → P x) → (v ≢ w → P y)
    → P (if same_letters v w then x else y)
same_cases P v w x y same other =
    cond_both (same_letters v w) x y P (λ is. same ((same_letters-Decides v w).0 is))
    (λ is. other (iff_false (same_letters-Decides v w) is))

-- its first tick `a`
abbrev pub StartsAt : (ℕ → List Bit) → ℕ → ℕ → Type 0
StartsAt f t a = (a ≤ t) × ((s : ℕ) → a ≤ s → s ≤ t → f s ≡ f t) × ((p : ℕ) → suc p ≡ a → f a ≢ f p)

pub start_is : (f : ℕ → List Bit) (t : ℕ) → StartsAt f t (run_start f t)
unfolding run_start
start_is f zero = (omega arith, (λ s from to. ap f (omega arith)), (λ p is. absurd (omega arith)))
start_is f (suc t) =
    same_cases (StartsAt f (suc t)) (f (suc t)) (f t) (run_start f t) (suc t)
    (λ same. let before = start_is f t in (
      omega (arith, before.0),
      (λ s from to. elim (cases_eq s (suc t)) [
        | inl at ↦ ap f at
        | inr apart ↦ before.1 s from (omega arith) ∙ sym same
      ]),
      before.2,
    ))
    (λ other. (omega arith, (λ s from to. ap f (omega arith)), (λ p is equal. other (equal ∙ ap f (omega arith)))))

start_same : (f : ℕ → List Bit) (t a b : ℕ) → StartsAt f t a → StartsAt f t b → a ≡ b
start_same f t a b x y =
    omega (arith, starts_before f (f t) a t b x.1 y.2 y.0, starts_before f (f t) b t a y.1 x.2 x.0)

-- its last tick `b`, in a capture with n more ticks
abbrev pub EndsAt : (ℕ → List Bit) → ℕ → ℕ → ℕ → Type 0
EndsAt f t n b = (t ≤ b) × (b ≤ t + n) × ((s : ℕ) → t ≤ s → s ≤ b → f s ≡ f t) × (b < t + n → f (suc b) ≢ f b)

pub end_is : (f : ℕ → List Bit) (t n : ℕ) → EndsAt f t n (run_end f t n)
unfolding run_end
end_is f t zero = (omega arith, omega arith, (λ s from to. ap f (omega arith)), (λ less. absurd (omega arith)))
end_is f t (suc n) =
    same_cases (EndsAt f t (suc n)) (f (suc t)) (f t) (run_end f (suc t) n) t
    (λ same. let later = end_is f (suc t) n in (
      omega (arith, later.0),
      omega (arith, later.1),
      (λ s from to. elim (cases_eq s t) [
        | inl at ↦ ap f at
        | inr apart ↦ later.2 s (omega arith) to ∙ same
      ]),
      (λ less. later.3 (omega (arith, less))),
    ))
    (λ other. (omega arith, omega arith, (λ s from to. ap f (omega arith)), (λ less. other)))

end_same : (f : ℕ → List Bit) (t n b c : ℕ) → EndsAt f t n b → EndsAt f t n c → b ≡ c
end_same f t n b c x y =
    let first = ends_after f (f t) t b c x.2 (λ less. y.3 (omega (arith, less, x.1))) y.0 in
    omega (arith, first, ends_after f (f t) t c b y.2 (λ less. x.3 (omega (arith, less, y.1))) x.0)

-- its ticks have one value
pub run_same : (f : ℕ → List Bit) (t n a b : ℕ) → StartsAt f t a → EndsAt f t n b → (s : ℕ) → a ≤ s → s ≤ b
    → f s ≡ f t
run_same f t n a b start stop s from to = elim (cases_lt s t) [
  | inl less ↦ start.1 s from (omega arith)
  | inr more ↦ stop.2 s more to
]

-- ---- steady ticks

-- all ticks of a run are steady if one is
module _ (n end : ℕ) (f : ℕ → List Bit) (a b : ℕ) (ordered : a ≤ b) (within : b ≤ end) (same : (s : ℕ) → a ≤ s → s ≤ b
    → f s ≡ f a)
    (begins : (p : ℕ) → suc p ≡ a → f a ≢ f p) (ends : b < end → f (suc b) ≢ f b) where
  pub steady_here : (t : ℕ) → a ≤ t → t ≤ b → is_steady n end f t ≡ (a == 0 || b == end || nat_le n (b - a + 1))
  steady_here t from to =
      let first = start_same f t (run_start f t) a (start_is f t)
      (from, (λ s late early. same s late (omega arith) ∙ sym (same t from to)), begins) in
      let last = end_same f t (end - t) (run_end f t (end - t)) b (end_is f t (end - t)) (
        to,
        omega arith,
        (λ s late early. same s (omega arith) early ∙ sym (same t from to)),
        (λ less. ends (omega arith)),
      ) in
      λ i. first i == 0 || last i == end || nat_le n (last i - first i + 1)
