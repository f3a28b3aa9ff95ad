-- The positions of the signals with a name, and which of them is a partner.
use Rattle.std.proofs.Common.{◌≡◌, ℕ, zero, suc, ◌+◌, ◌-◌, ◌<◌, ◌≤◌, ◌↔◌, Bool, true, false, List, [], ◌∷◌}
use Rattle.std.proofs.Common.{length, take, refl, sym, ap, subst, ◌∙◌, inl, inr, arith, Option, Some, None, get_or}
use Rattle.std.proofs.Common.{if◌then◌else◌, length-append}
use Rattle.std.proofs.Math.Seq.{get_or-append_seam}
use Rattle.std.proofs.lemmas.List.{get_or_append_left}
use Rattle.std.specs.Prelude.{bytes_eq, count_by, find}
use Rattle.std.specs.List.{slice_get, range_with_len}
use Rattle.std.proofs.lemmas.Bool.{cases_Bool, cases_eq, both_ways, and_parts, and_from, eqb-true, eq-eqb}
use Rattle.std.proofs.lemmas.Bool.{false_from_ne_true}
use Rattle.std.proofs.lemmas.List.Sums.{sum_by-cons}
use Rattle.std.proofs.lemmas.Option.{same_Some}
use Rattle.std.proofs.lemmas.Slice.Eq.{bytes_eq-Decides}
use Rattle.vcd_compare.specs.Pairs.{name_at, namesakes_before, are_pair, partner_of}
use Rattle.vcd_compare.specs.inside.Pairing.{positions_from, next_positions, next_partner}

same_bytes : (a b : List ℕ) → bytes_eq a b ≡ true → a ≡ b
same_bytes a b = (bytes_eq-Decides a b).0

own_bytes : (a : List ℕ) → bytes_eq a a ≡ true
own_bytes a = (bytes_eq-Decides a a).1 refl

-- ==== positions

-- the signal at a position has a name, and so many before it have it
pub record IsNth (name : List ℕ) (count : ℕ) (names : List (List ℕ)) (j : ℕ) : Type 0 where
  pub within : j < length names
  pub named : bytes_eq name (name_at names j) ≡ true
  pub before : count_by (bytes_eq name) (take j names) ≡ count

count_on : (p : List ℕ → Bool) (x : List ℕ) (xs : List (List ℕ)) → p x ≡ true
    → count_by p (x ∷ xs) ≡ suc (count_by p xs)
count_on p x xs on =
    sum_by-cons (λ y. if p y then 1 else 0) x xs
    ∙ ap (λ (b : Bool). (if b then 1 else 0) + count_by p xs) on
    ∙ omega arith

count_off : (p : List ℕ → Bool) (x : List ℕ) (xs : List (List ℕ)) → p x ≡ false
    → count_by p (x ∷ xs) ≡ count_by p xs
count_off p x xs off =
    sum_by-cons (λ y. if p y then 1 else 0) x xs
    ∙ ap (λ (b : Bool). (if b then 1 else 0) + count_by p xs) off
    ∙ omega arith

nth_on : (name x : List ℕ) (xs : List (List ℕ)) (count j : ℕ) → bytes_eq name x ≡ true → IsNth name count xs j
    → IsNth name (suc count) (x ∷ xs) (suc j)
nth_on name x xs count j on is =
    let within = is.within in
    record {
      within = omega arith;
      named = is.named;
      before = count_on (bytes_eq name) x (take j xs) on ∙ ap (λ n. suc n) is.before;
    }

nth_off : (name x : List ℕ) (xs : List (List ℕ)) (count j : ℕ) → bytes_eq name x ≡ false → IsNth name count xs j
    → IsNth name count (x ∷ xs) (suc j)
nth_off name x xs count j off is =
    let within = is.within in
    record {
      within = omega arith;
      named = is.named;
      before = count_off (bytes_eq name) x (take j xs) off ∙ is.before;
    }

-- each position is that of a signal with the name
pub nth_from : (name : List ℕ) (count at : ℕ) (names : List (List ℕ)) (k : ℕ)
    → slice_get (positions_from name at names) count ≡ Some k
    → (j : ℕ) × (k ≡ at + j) × IsNth name count names j
nth_from name count at [] k is = absurd (let none : None ≡ Some k = is in cc)
nth_from name zero at (x ∷ xs) k is =
    elim (cases_Bool (bytes_eq name x)) [
      | inl on ↦
          let here : at ≡ k = same_Some _ _ (rw on at is) in
          (0, omega arith, record { within = omega arith; named = on; before = refl })
      | inr off ↦
          let (j, at_j, nth) = nth_from name 0 (suc at) xs k (rw off at is) in
          (suc j, omega arith, nth_off name x xs 0 j off nth)
    ]
nth_from name (suc count) at (x ∷ xs) k is =
    elim (cases_Bool (bytes_eq name x)) [
      | inl on ↦
          let (j, at_j, nth) = nth_from name count (suc at) xs k (rw on at is) in
          (suc j, omega arith, nth_on name x xs count j on nth)
      | inr off ↦
          let (j, at_j, nth) = nth_from name (suc count) (suc at) xs k (rw off at is) in
          (suc j, omega arith, nth_off name x xs (suc count) j off nth)
    ]

-- the positions of a name among names that begin with another or with it
abbrev after_one : Bool → (name : List ℕ) → (at : ℕ) → List (List ℕ) → List ℕ
after_one b name at xs = if b then at ∷ positions_from name (suc at) xs else positions_from name (suc at) xs

-- and each such signal is there
pub nth_there : (name : List ℕ) (count at : ℕ) (names : List (List ℕ)) (j k : ℕ) → k ≡ at + j
    → IsNth name count names j
    → slice_get (positions_from name at names) count ≡ Some k
nth_there name count at [] j k place is = absurd (let within = is.within in omega arith)
nth_there name count at (x ∷ xs) zero k place is =
    let none : 0 ≡ count = is.before in
    let start : at ≡ k = omega arith in
    ap (slice_get (positions_from name at (x ∷ xs))) (sym none)
    ∙ ap (λ (b : Bool). slice_get (after_one b name at xs) 0) is.named
    ∙ ap (λ n. Some n) start
nth_there name count at (x ∷ xs) (suc j) k place is =
    let within = is.within in
    elim (cases_Bool (bytes_eq name x)) [
      | inl on ↦
          let sum : suc (count_by (bytes_eq name) (take j xs)) ≡ count =
          sym (count_on (bytes_eq name) x (take j xs) on) ∙ is.before in
          let less : suc (count - 1) ≡ count = omega arith in
          ap (λ (b : Bool). slice_get (after_one b name at xs) count) on
          ∙ ap (slice_get (at ∷ positions_from name (suc at) xs)) (sym less)
          ∙ nth_there name (count - 1) (suc at) xs j k (omega arith)
          (record { within = omega arith; named = is.named; before = omega arith })
      | inr off ↦
          let sum : count_by (bytes_eq name) (take j xs) ≡ count =
          sym (count_off (bytes_eq name) x (take j xs) off) ∙ is.before in
          ap (λ (b : Bool). slice_get (after_one b name at xs) count) off
          ∙ nth_there name count (suc at) xs j k (omega arith)
          (record { within = omega arith; named = is.named; before = sum })
    ]

-- ==== partners

pub later : (p : ℕ → Bool) (at j : ℕ) → at ≤ j → p at ≡ false → p j ≡ true → at + 1 ≤ j
later p at j from off passes =
    elim (cases_eq at j) [
      | inl e ↦ absurd (both_ways (p at) off (ap p e ∙ passes))
      | inr other ↦ omega arith
    ]

pub found_one : (p : ℕ → Bool) (at n j : ℕ) → at ≤ j → j < at + n → p j ≡ true
    → ((i : ℕ) → i < at + n → p i ≡ true → i ≡ j)
    → find p (range_with_len at n) ≡ Some j
found_one p at zero j from to passes only = absurd (omega arith)
found_one p at (suc n) j from to passes only =
    elim (cases_Bool (p at)) [
      | inl on ↦
          ap (λ (b : Bool). if b then Some at else find p (range_with_len (at + 1) n)) on
          ∙ ap (λ n. Some n) (only at (omega arith) on)
      | inr off ↦
          ap (λ (b : Bool). if b then Some at else find p (range_with_len (at + 1) n)) off
          ∙ found_one p (at + 1) n j (later p at j from off passes) (omega arith) passes
          (λ i within. only i (omega arith))
    ]

pub found_none : (p : ℕ → Bool) (at n : ℕ) → ((i : ℕ) → i < at + n → p i ≡ true → ⊥)
    → find p (range_with_len at n) ≡ None
found_none p at zero none = refl
found_none p at (suc n) none =
    ap (λ (b : Bool). if b then Some at else find p (range_with_len (at + 1) n))
    (false_from_ne_true _ (none at (omega arith)))
    ∙ found_none p (at + 1) n (λ i within. none i (omega arith))

module _ (names others : List (List ℕ)) (k : ℕ) where
  abbrev pub own_name : List ℕ
  own_name = name_at names k

  abbrev pub own_count : ℕ
  own_count = namesakes_before names k

  -- which signal is a partner
  paired : (j : ℕ) → IsNth own_name own_count others j → are_pair names others k j ≡ true
  paired j nth =
      let is : own_name ≡ name_at others j = same_bytes own_name (name_at others j) nth.named in
      and_from _ _ nth.named
      (eq-eqb _ _ (sym nth.before ∙ ap (λ x. count_by (bytes_eq x) (take j others)) is))

  nth_paired : (j : ℕ) → j < length others → are_pair names others k j ≡ true → IsNth own_name own_count others j
  nth_paired j within pair =
      let both = and_parts _ _ pair in
      let is : own_name ≡ name_at others j = same_bytes own_name (name_at others j) both.0 in
      record {
        within = within;
        named = both.0;
        before = ap (λ x. count_by (bytes_eq x) (take j others)) is ∙ sym (eqb-true _ _ both.1);
      }

  -- the partner is among the positions with the name
  by_position : (o : Option ℕ) → slice_get (positions_from own_name 0 others) own_count ≡ o
      → partner_of names others k ≡ o
  by_position None none =
      found_none (are_pair names others k) 0 (length others)
      (λ j within pair. let some : None ≡ Some j =
      sym none ∙ nth_there own_name own_count 0 others j j (omega arith) (nth_paired j (omega arith) pair) in
      absurd (cc))
  by_position (Some j) some =
      let (i, at, nth) = nth_from own_name own_count 0 others j some in
      let within = nth.within in
      let same : j ≡ i = omega arith in
      found_one (are_pair names others k) 0 (length others) j (omega arith) (omega arith)
      (ap (are_pair names others k) same ∙ paired i nth)
      (λ h inside pair. same_Some _ _
      (sym (nth_there own_name own_count 0 others h h (omega arith) (nth_paired h (omega arith) pair)) ∙ some))

  pub partner_by_position : partner_of names others k ≡ slice_get (positions_from own_name 0 others) own_count
  partner_by_position = by_position (slice_get (positions_from own_name 0 others) own_count) refl

-- a partner is one of the signals
pub partner_within : (names others : List (List ℕ)) (k j : ℕ) → partner_of names others k ≡ Some j → j < length others
partner_within names others k j is =
    let (i, at, nth) = nth_from (name_at names k) (namesakes_before names k) 0 others j
    (sym (partner_by_position names others k) ∙ is) in
    let within = nth.within in
    omega arith

-- a signal is the partner of its partner
pub partner_back : (names others : List (List ℕ)) (k j : ℕ) → k < length names → partner_of names others k ≡ Some j
    → partner_of others names j ≡ Some k
partner_back names others k j within is =
    let (i, at, nth) = nth_from (name_at names k) (namesakes_before names k) 0 others j
    (sym (partner_by_position names others k) ∙ is) in
    let same : i ≡ j = omega arith in
    let there : IsNth (name_at names k) (namesakes_before names k) others j =
    subst (IsNth (name_at names k) (namesakes_before names k) others) same nth in
    let named : name_at others j ≡ name_at names k =
    sym (same_bytes (name_at names k) (name_at others j) there.named) in
    partner_by_position others names j
    ∙ nth_there (name_at others j) (namesakes_before others j) 0 names k k (omega arith) (record {
      within = within;
      named = ap (bytes_eq (name_at others j)) (sym named) ∙ own_bytes (name_at others j);
      before = ap (λ x. count_by (bytes_eq x) (take k names)) named ∙ sym there.before
          ∙ ap (λ x. count_by (bytes_eq x) (take j others)) (sym named);
    })

pub both_ways_partner : (names others : List (List ℕ)) (k j : ℕ) → k < length names → j < length others
    → (partner_of names others k ≡ Some j) ↔ (partner_of others names j ≡ Some k)
both_ways_partner names others k j within within_others =
    (partner_back names others k j within, partner_back others names j k within_others)

-- ==== the next of a name

pub next_length : (at : ℕ) (names : List (List ℕ)) → length (next_positions at names) ≡ length names
next_length at [] = refl
next_length at (x ∷ xs) = simp length-append (omega (arith, next_length (suc at) xs))

-- of a signal past the first
next_past : (name : List ℕ) (count at j k : ℕ) (x : List ℕ) (xs : List (List ℕ)) → k ≡ at + j
    → ((i : ℕ) → k ≡ suc at + i
    → get_or (next_positions (suc at) xs) (length xs - 1 - i) None
    ≡ slice_get (positions_from name (suc at) xs) (suc count))
    → slice_get (positions_from name (suc at) xs) count ≡ Some k
    → get_or (next_positions at (x ∷ xs)) (length (x ∷ xs) - 1 - j) None
    ≡ slice_get (positions_from name (suc at) xs) (suc count)
next_past name count at j k x xs at_j before is =
    let (i, at_i, nth) = nth_from name count (suc at) xs k is in
    let within = nth.within in
    let place : length (x ∷ xs) - 1 - j ≡ length xs - 1 - i = omega arith in
    ap (λ n. get_or (next_positions at (x ∷ xs)) n None) place
    ∙ get_or_append_left (next_positions (suc at) xs) (slice_get (positions_from x (suc at) xs) 0 ∷ []) None
    (length xs - 1 - i) (omega (arith, next_length (suc at) xs))
    ∙ before i at_i

-- of the first
next_here : (name : List ℕ) (at j : ℕ) (x : List ℕ) (xs : List (List ℕ)) → name ≡ x → j ≡ 0
    → get_or (next_positions at (x ∷ xs)) (length (x ∷ xs) - 1 - j) None
    ≡ slice_get (positions_from name (suc at) xs) 0
next_here name at j x xs same first =
    let place : length (x ∷ xs) - 1 - j ≡ length (next_positions (suc at) xs) =
    omega (arith, next_length (suc at) xs) in
    ap (λ n. get_or (next_positions at (x ∷ xs)) n None) place
    ∙ get_or-append_seam (next_positions (suc at) xs) (slice_get (positions_from x (suc at) xs) 0) [] None
    ∙ ap (λ y. slice_get (positions_from y (suc at) xs) 0) (sym same)

next_there : (name : List ℕ) (count at j k : ℕ) (names : List (List ℕ)) → k ≡ at + j
    → slice_get (positions_from name at names) count ≡ Some k
    → get_or (next_positions at names) (length names - 1 - j) None
    ≡ slice_get (positions_from name at names) (suc count)
next_there name count at j k [] place is = absurd (let none : None ≡ Some k = is in cc)
next_there name zero at j k (x ∷ xs) place is =
    elim (cases_Bool (bytes_eq name x)) [
      | inl on ↦
          let here : at ≡ k = same_Some _ _ (rw on at is) in
          next_here name at j x xs (same_bytes name x on) (omega arith)
          ∙ sym (ap (λ (b : Bool). slice_get (after_one b name at xs) 1) on)
      | inr off ↦
          let rest : slice_get (positions_from name (suc at) xs) 0 ≡ Some k = rw off at is in
          next_past name 0 at j k x xs place (λ i at_i. next_there name 0 (suc at) i k xs at_i rest) rest
          ∙ sym (ap (λ (b : Bool). slice_get (after_one b name at xs) 1) off)
    ]
next_there name (suc count) at j k (x ∷ xs) place is =
    elim (cases_Bool (bytes_eq name x)) [
      | inl on ↦
          let rest : slice_get (positions_from name (suc at) xs) count ≡ Some k = rw on at is in
          next_past name count at j k x xs place (λ i at_i. next_there name count (suc at) i k xs at_i rest) rest
          ∙ sym (ap (λ (b : Bool). slice_get (after_one b name at xs) (suc (suc count))) on)
      | inr off ↦
          let rest : slice_get (positions_from name (suc at) xs) (suc count) ≡ Some k = rw off at is in
          next_past name (suc count) at j k x xs place
          (λ i at_i. next_there name (suc count) (suc at) i k xs at_i rest) rest
          ∙ sym (ap (λ (b : Bool). slice_get (after_one b name at xs) (suc (suc count))) off)
    ]

none_later : (xs : List ℕ) (n : ℕ) → slice_get xs n ≡ None → slice_get xs (suc n) ≡ None
none_later [] n none = refl
none_later (x ∷ xs) zero none = absurd (let some : None ≡ Some x = sym none in cc)
none_later (x ∷ xs) (suc n) none = none_later xs n none

pub next_is : (name : List ℕ) (count : ℕ) (names : List (List ℕ)) (o : Option ℕ)
    → slice_get (positions_from name 0 names) count ≡ o
    → next_partner (next_positions 0 names) o ≡ slice_get (positions_from name 0 names) (suc count)
next_is name count names None none = sym (none_later (positions_from name 0 names) count none)
next_is name count names (Some k) is =
    ap (λ n. get_or (next_positions 0 names) (n - 1 - k) None) (next_length 0 names)
    ∙ next_there name count 0 k k names (omega arith) is
