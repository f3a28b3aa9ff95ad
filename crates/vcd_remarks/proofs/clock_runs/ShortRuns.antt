-- The short runs of a level, by those that are below each power of two.
use Rattle.std.proofs.Common.{◌≡◌, ℕ, zero, suc, ◌+◌, ◌-◌, ◌*◌, ◌/◌, ◌^◌, ◌<◌, ◌≤◌, nat_lt, nat_le, not, Bool, true}
use Rattle.std.proofs.Common.{false}
use Rattle.std.proofs.Common.{if◌then◌else◌, List, [], ◌∷◌, length, map, refl, sym, ap, ◌∙◌, arith, rules, tests, inl}
use Rattle.std.proofs.Common.{inr}
use mir.Val.{bool_byte}
use Rattle.std.proofs.lemmas.List.Filters.{length-filter_both}
use Rattle.std.specs.List.{filter, count_by}
use Rattle.std.proofs.Math.Nat.{pow-suc}
use Rattle.std.proofs.lemmas.Bool.{cases_lt, lt-ltb, le-ltb}
use Rattle.std.proofs.lemmas.List.{length-map}
use Rattle.std.proofs.lemmas.List.Sums.{length-filter}
use Rattle.vcd_remarks.specs.declared.findings.found_ticks.FoundTicks.{FoundTicks}
use Rattle.vcd_remarks.specs.ClockRuns as spec
use Rattle.vcd_remarks.specs.ClockRuns.{count_below, short_among}
use Rattle.vcd_remarks.specs.FoundTicks.{found_ticks}
use Rattle.vcd_remarks.specs.ValueRuns.{ValueRun, ticks_of_run}
use Rattle.vcd_remarks.specs.inside.ClockRuns.{below, is_often_reached, short_noted}

-- one bound or another that is the same
pub at_last : (p : ℕ → Bool) (m n : ℕ) → m ≡ n → count_below p m ≡ count_below p n
at_last p m n same = ap (count_below p) same

-- one number more
pub one_below : (p : ℕ → Bool) (n : ℕ) → count_below p (n + 1) ≡ count_below p n + (if p n then 1 else 0)
unfolding count_below
one_below p n = at_last p (n + 1) (suc n) (omega arith)

pub number_is : (b : Bool) → bool_byte b ≡ (if b then 1 else 0)
number_is true = refl
number_is false = refl

pub at_most_one : (n : ℕ) (b : Bool) → n ≡ bool_byte b → n ≤ 1
at_most_one n true is = omega (arith, is)
at_most_one n false is = omega (arith, is)

-- by one test or another that answers the same
same_below : (p q : ℕ → Bool) (n : ℕ) → ((k : ℕ) → k < n → p k ≡ q k) → count_below p n ≡ count_below q n
unfolding count_below
same_below p q zero same = refl
same_below p q (suc n) same =
    let here : p n ≡ q n = same n (omega arith) in
    λ i. same_below p q n (λ k less. same k (omega (arith, less))) i + (if here i then 1 else 0)

-- ---- runs from a power of two on

-- those that are not below
not_below : (m n : ℕ) → nat_le n m ≡ not (nat_lt m n)
not_below m n = search (rules, tests, arith)

from_power : (k : ℕ) (rs : List ValueRun) → count_by (λ r. nat_le (2 ^ k) (ticks_of_run r)) rs
    ≡ length rs - length (below k rs)
unfolding below
from_power k rs =
    let low : ValueRun → Bool = λ r. nat_lt (ticks_of_run r) (2 ^ k) in
    let high : ValueRun → Bool = λ r. nat_le (2 ^ k) (ticks_of_run r) in
    omega (
      arith,
      length-filter high rs,
      length-filter_both low high (λ r. not_below (ticks_of_run r) (2 ^ k)) rs,
      length-map (filter low rs) (λ r. r.first),
    )

-- ---- a quarter of a power of two

four_times : (n m : ℕ) → m ≡ suc (suc n) → 2 ^ m ≡ 4 * 2 ^ n
four_times n m is = ap (λ k. 2 ^ k) is ∙ (omega (arith, pow-suc 2 (suc n), pow-suc 2 n))

at_most_two : (n : ℕ) → n < 2 → 2 ^ n ≤ 2
at_most_two zero few = omega arith
at_most_two (suc zero) few = omega arith
at_most_two (suc (suc n)) few = absurd (omega (arith, few))

quarter : (t a b : ℕ) → b ≡ 4 * a → nat_lt t a ≡ nat_lt (4 * t) b
quarter t a b is = elim (cases_lt t a) [
  | inl less ↦ lt-ltb t a less ∙ sym (lt-ltb (4 * t) b (omega (arith, less, is)))
  | inr past ↦ le-ltb t a past ∙ sym (le-ltb (4 * t) b (omega (arith, past, is)))
]

same_filter : (p q : ValueRun → Bool) (rs : List ValueRun) → ((r : ValueRun) → p r ≡ q r) → filter p rs ≡ filter q rs
same_filter p q [] same = refl
same_filter p q (r ∷ rs) same =
    λ i. if same r i then r ∷ same_filter p q rs same i else same_filter p q rs same i

none_pass : (p : ValueRun → Bool) (rs : List ValueRun) → ((r : ValueRun) → p r ≡ false) → filter p rs ≡ []
none_pass p [] fails = refl
none_pass p (r ∷ rs) fails =
    ap (λ (b : Bool). if b then r ∷ filter p rs else filter p rs) (fails r) ∙ none_pass p rs fails

-- ---- a test by the ticks below each power

at_most : (p : ℕ → Bool) (n : ℕ) → count_below p n ≤ n
unfolding count_below
at_most p zero = omega arith
at_most p (suc n) = by_test (at_most p n) (p n)
  where
    by_test : count_below p n ≤ n → (b : Bool) → count_below p n + (if b then 1 else 0) ≤ suc n
    by_test few true = omega (arith, few)
    by_test few false = omega (arith, few)

-- the short ones by other ticks that are the same
module _ (usual other found others : ℕ → FoundTicks) (same_usual : (k : ℕ) → k < 65 → usual k ≡ other k)
    (same_found : (k : ℕ) → k < 65 → found k ≡ others k) where
  abbrev count : ℕ
  count = count_below (is_often_reached other) 64

  pub same_short : short_noted usual found ≡ short_noted other others
  same_short =
      let last : usual 64 ≡ other 64 = same_usual 64 (omega arith) in
      let counts : count_below (is_often_reached usual) 64 ≡ count =
      same_below (is_often_reached usual) (is_often_reached other) 64 (λ k less.
      let here = same_usual k (omega (arith, less)) in
      λ i. nat_lt ((last i).count / 4) ((last i).count - (here i).count)) in
      ap (λ n. if nat_lt n 2 then found_ticks [] else found (n - 2)) counts
      ∙ ap (λ f. if nat_lt count 2 then found_ticks [] else f)
      (same_found (count - 2) (omega (arith, at_most (is_often_reached other) 64)))

module _ (usual : List ValueRun) (reached : ℕ → FoundTicks)
    (are : (k : ℕ) → k < 65 → reached k ≡ found_ticks (below k usual)) (all : length usual ≡ (reached 64).count) where
  tests_agree : (k : ℕ) → k < 64 → is_often_reached reached k ≡ spec.is_often_reached usual k
  tests_agree k less =
      let some = ap (λ (f : FoundTicks). f.count) (are k (omega (arith, less))) in
      (λ i. nat_lt (sym all i / 4) (sym all i - some i))
      ∙ ap (nat_lt (length usual / 4)) (sym (from_power k usual))

  abbrev often : ℕ
  often = count_below (spec.is_often_reached usual) 64

  counts_agree : count_below (is_often_reached reached) 64 ≡ often
  counts_agree = same_below (is_often_reached reached) (spec.is_often_reached usual) 64 tests_agree

  -- those of other runs
  pub short_is : (rs : List ValueRun) (found : ℕ → FoundTicks)
      → ((k : ℕ) → k < 65 → found k ≡ found_ticks (below k rs))
      → short_noted reached found ≡ found_ticks (short_among usual rs)
  unfolding short_among below
  short_is rs found under =
      ap (λ n. if nat_lt n 2 then found_ticks [] else found (n - 2)) counts_agree
      ∙ elim (cases_lt often 2) [
        | inl few ↦
            ap (λ b. if b then found_ticks [] else found (often - 2)) (lt-ltb often 2 few)
            ∙ ap (λ ts. found_ticks (map (λ r. r.first) ts))
            (sym (none_pass _ rs (λ r. le-ltb (4 * ticks_of_run r) (2 ^ often) (omega (arith, at_most_two often few)))))
        | inr two ↦
            ap (λ b. if b then found_ticks [] else found (often - 2)) (le-ltb often 2 two)
            ∙ under (often - 2) (omega (arith, at_most (spec.is_often_reached usual) 64))
            ∙ ap (λ ts. found_ticks (map (λ r. r.first) ts))
            (same_filter _ _ rs (λ r. quarter (ticks_of_run r) (2 ^ (often - 2)) (2 ^ often)
            (four_times (often - 2) often (omega (arith, two)))))
      ]
