-- The runs below each power of two, by how many have so many bits.
use Rattle.std.proofs.Common.{◌≡◌, ℕ, zero, suc, ◌+◌, ◌-◌, ◌*◌, ◌^◌, ◌<◌, ◌≤◌, min, nat_le, Bool, if◌then◌else◌}
use Rattle.std.proofs.Common.{List, [], length, replicate, get_or, slice_set, refl, sym, ap, ◌∙◌, arith, inl, inr}
use Rattle.std.proofs.Math.Pow.{pow_mono}
use Rattle.std.proofs.Math.Nat.{pow-suc}
use Rattle.std.proofs.lemmas.Bool.{cases_lt, lt-ltb, le-ltb, lt-leb, le-leb}
use Rattle.std.proofs.lemmas.Grind.{get_or-set_at}
use Rattle.std.proofs.lemmas.List.{get_or-set_same, get_or-set_other, get_or-replicate}
use Rattle.vcd_remarks.specs.declared.findings.found_ticks.TheConstants.{SHOWN_TICKS}
use Rattle.vcd_remarks.specs.FoundTicks.{found_ticks, first_ticks}
use Rattle.vcd_remarks.specs.inside.FoundTicks.{with_tick}
use Rattle.vcd_remarks.specs.inside.RunsBelow.{count_to, found_below, at_power, none_below, is_below}

-- the least power of two that is greater
pub least_power : (ticks bits : ℕ) → ticks < 2 ^ bits → 2 ^ bits ≤ 2 * ticks + 1 → (power : ℕ)
    → nat_le bits power ≡ is_below ticks power
least_power ticks bits above least power = elim (cases_lt power bits) [
  | inl less ↦
      lt-leb bits power less ∙ sym (le-ltb ticks (2 ^ power) (omega (
        arith,
        least,
        pow-suc 2 power,
        pow_mono {i = suc power} {j = bits} (omega (arith, less)),
      )))
  | inr from ↦
      le-leb bits power from
      ∙ sym (lt-ltb ticks (2 ^ power) (omega (arith, above, pow_mono {i = bits} {j = power} from)))
]

none_here : (n k : ℕ) → get_or (replicate n zero) k 0 ≡ 0
none_here zero k = refl
none_here (suc n) zero = refl
none_here (suc n) (suc k) = none_here n k

-- before the first run
none_counted : (n bits : ℕ) → count_to (replicate n 0) bits ≡ 0
unfolding count_to
none_counted n zero = refl
none_counted n (suc bits) = omega (arith, none_counted n bits, none_here n bits)

pub none_noted : (power : ℕ) → power < 65 → at_power none_below power ≡ found_ticks []
none_noted power less =
    let count = none_counted 65 (power + 1) in
    let first = get_or-replicate 65 power (first_ticks SHOWN_TICKS []) [] less in
    λ i. record { count = count i; first = first i }

-- what is stored at one place, after all places before it
pub one_stored : (first : List (List ℕ)) (place : ℕ) (value : List ℕ) (next : ℕ → List ℕ) → place < length first
    → value ≡ next place → ((k : ℕ) → k < place → get_or first k [] ≡ next k) → (k : ℕ) → k < place + 1
    → get_or (slice_set first place value) k [] ≡ next k
one_stored first place value next within is before k less = elim (cases_lt k place) [
  | inl earlier ↦ get_or-set_other first place k value [] (λ same. omega (arith, earlier, same)) ∙ before k earlier
  | inr last ↦
      let at : place ≡ k = omega (arith, less, last) in
      get_or-set_at first place k value [] (sym at) within ∙ is ∙ ap next at
]

-- the runs of one number of bits more
pub one_counted : (of_bits : List ℕ) (bits more : ℕ)
    → more ≡ min (count_to of_bits bits + get_or of_bits bits 0) (2 ^ 64 - 1)
    → more ≡ count_to of_bits (bits + 1)
unfolding count_to
one_counted of_bits bits more is =
    let next : suc bits ≡ bits + 1 = omega arith in
    is ∙ ap (count_to of_bits) next

-- a run more of so many bits
module _ (of_bits : List ℕ) (bits : ℕ) (within : bits < length of_bits) where
  abbrev now : ℕ
  now = min (get_or of_bits bits 0 + 1) (2 ^ 64 - 1)

  abbrev pub one_more : List ℕ
  one_more = slice_set of_bits bits now

  here : get_or one_more bits 0 ≡ now
  here = get_or-set_same of_bits bits now 0 within

  -- is not counted among those of fewer
  pub below_it : (n : ℕ) → n ≤ bits → count_to one_more n ≡ count_to of_bits n
  unfolding count_to
  below_it zero few = refl
  below_it (suc n) few = omega (
    arith,
    below_it n (omega (arith, few)),
    get_or-set_other of_bits bits n now 0 (λ same. omega (arith, few, same)),
  )

  -- and is among those of at most as many
  pub from_it : (n : ℕ) → bits < n → count_to one_more n ≡ min (count_to of_bits n + 1) (2 ^ 64 - 1)
  unfolding count_to
  from_it zero more = absurd (omega (arith, more))
  from_it (suc n) more = elim (cases_lt bits n) [
    | inl later ↦
        omega (arith, from_it n later, get_or-set_other of_bits bits n now 0 (λ same. omega (arith, later, same)))
    | inr last ↦
        let at : n ≡ bits = omega (arith, more, last) in
        omega (arith, below_it n last, here, ap (λ k. get_or one_more k 0) at, ap (λ k. get_or of_bits k 0) at)
  ]

-- those of a number of bits are among those of fewer than any greater number
pub each_counted : (of_bits : List ℕ) (bits n : ℕ) → bits < n
    → min (get_or of_bits bits 0) (2 ^ 64 - 1) ≤ count_to of_bits n
unfolding count_to
each_counted of_bits bits zero more = absurd (omega (arith, more))
each_counted of_bits bits (suc n) more = elim (cases_lt bits n) [
  | inl later ↦ omega (arith, each_counted of_bits bits n later)
  | inr last ↦
      let at : n ≡ bits = omega (arith, more, last) in
      omega (arith, ap (λ k. get_or of_bits k 0) at)
]

-- ---- the first ticks below a power

module _ (of_bits : List ℕ) (first : List (List ℕ)) (bits tick power : ℕ) where
  abbrev pub noted : Bool → List ℕ
  noted passes = if passes then (with_tick (found_below of_bits first power) tick).first else get_or first power []

  -- they stay once there are enough of one number of bits
  pub enough : 5 ≤ get_or of_bits bits 0 → get_or first power [] ≡ noted (nat_le bits power)
  enough many = elim (cases_lt power bits) [
    | inl fewer ↦ sym (ap noted (lt-leb bits power fewer))
    | inr from ↦
        let full = le-ltb (count_to of_bits (power + 1)) SHOWN_TICKS
        (omega (arith, many, each_counted of_bits bits (power + 1) (omega (arith, from)))) in
        sym (ap noted (le-leb bits power from)
        ∙ ap (λ (b : Bool). if b then slice_set (get_or first power []) (count_to of_bits (power + 1)) tick
        else get_or first power []) full)
  ]

  -- a run of so many bits is counted and shown
  pub one_noted : (within : bits < length of_bits) → (next : List (List ℕ))
      → get_or next power [] ≡ noted (nat_le bits power)
      → found_below (one_more of_bits bits within) next power
      ≡ (if nat_le bits power then with_tick (found_below of_bits first power) tick
      else found_below of_bits first power)
  one_noted within next is = elim (cases_lt power bits) [
    | inl fewer ↦
        let fails = lt-leb bits power fewer in
        let count = below_it of_bits bits within (power + 1) (omega (arith, fewer)) in
        let shown = is ∙ ap noted fails in
        (λ i. record { count = count i; first = shown i })
        ∙ sym (ap (λ (b : Bool). if b then with_tick (found_below of_bits first power) tick
        else found_below of_bits first power) fails)
    | inr from ↦
        let passes = le-leb bits power from in
        let count = from_it of_bits bits within (power + 1) (omega (arith, from)) in
        let shown = is ∙ ap noted passes in
        (λ i. record { count = count i; first = shown i })
        ∙ sym (ap (λ (b : Bool). if b then with_tick (found_below of_bits first power) tick
        else found_below of_bits first power) passes)
  ]
