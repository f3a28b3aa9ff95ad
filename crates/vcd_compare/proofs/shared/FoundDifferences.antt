-- The differences in a window are all ticks that are one.
use Rattle.std.proofs.Common.{◌≡◌, ℕ, zero, suc, ◌+◌, ◌-◌, ◌<◌, ◌≤◌, Bool, true, false, List, [], ◌∷◌, ◌++◌}
use Rattle.std.proofs.Common.{◌↔◌, refl, sym, ap, subst, ◌∙◌, inl, inr, arith, Option, Some, None}
use Rattle.std.specs.List.{Contains, filter}
use Rattle.std.proofs.lemmas.Bool.{cases_eq, cases_Bool, cases_lt, both_ways}
use Rattle.std.proofs.lemmas.List.Elements.{Contains-append_left, Contains-append_right, Contains-append_cases}
use Rattle.vcd_text.specs.declared.reading.choice.TickRange.{TickRange}
use Rattle.vcd_compare.specs.Differences.{IsDifference, ended_before, begun_at, differences_from, ticks_between}
use Rattle.vcd_compare.specs.Laws.{RiseFrom}

-- ==== lists

nothing_in : {X : Type 0} (x : X) → Contains [] x → ⊥
nothing_in x (k, within, is) = omega arith

pub one_in : {X : Type 0} (x : X) → Contains (x ∷ []) x
one_in x = (0, omega arith, refl)

pub only_in : {X : Type 0} (x y : X) → Contains (y ∷ []) x → y ≡ x
only_in x y (zero, within, is) = is
only_in x y (suc k, within, is) = absurd (omega arith)

-- what a test leaves out
pub none_kept : {X : Type 0} (p : X → Bool) (xs : List X) → filter p xs ≡ [] → (x : X) → Contains xs x → p x ≡ false
none_kept p [] e x (k, within, is) = absurd (omega arith)
none_kept p (y ∷ ys) e x (zero, within, is) =
    elim (cases_Bool (p y)) [
      | inl on ↦ absurd (let kept : y ∷ filter p ys ≡ [] = rw on at e in cc)
      | inr off ↦ ap p (sym is) ∙ off
    ]
none_kept p (y ∷ ys) e x (suc k, within, is) =
    elim (cases_Bool (p y)) [
      | inl on ↦ absurd (let kept : y ∷ filter p ys ≡ [] = rw on at e in cc)
      | inr off ↦ none_kept p ys (rw off at e) x (k, omega arith, is)
    ]

pub keeps_none : {X : Type 0} (p : X → Bool) (xs : List X) → ((x : X) → Contains xs x → p x ≡ false) → filter p xs ≡ []
keeps_none p [] each = refl
keeps_none p (y ∷ ys) each =
    rw (each y (0, omega arith, refl))
    (keeps_none p ys (λ x (k, within, is). each x (suc k, omega arith, is)))

-- a difference of the list that has this tick
abbrev Covers : List TickRange → ℕ → Type 0
Covers all at = (d : TickRange) × Contains all d × (d.first ≤ at) × (at ≤ d.last)

covers_later : (xs ys : List TickRange) (at : ℕ) → Covers ys at → Covers (xs ++ ys) at
covers_later xs ys at (d, there, begins, ends) = (d, Contains-append_right xs ys d there, begins, ends)

-- ==== where two waves differ

-- the tick from which on differences are to come
abbrev pub floor_of : Option ℕ → ℕ → ℕ
floor_of None t = t
floor_of (Some first) t = first

module _ (differ : ℕ → Bool) where
  -- a difference goes on
  pub difference_goes_on : (first t m n later rest : ℕ) → t + m ≡ later → m + rest ≡ n
      → ((s : ℕ) → t ≤ s → s < later → differ s ≡ true)
      → differences_from differ (Some first) t n ≡ differences_from differ (Some first) later rest
  unfolding differences_from
  difference_goes_on first t zero n later rest at all holds =
      let same : t ≡ later = omega arith in
      let size : n ≡ rest = omega arith in
      λ i. differences_from differ (Some first) (same i) (size i)
  difference_goes_on first t (suc m) n later rest at all holds =
      ap (differences_from differ (Some first) t) {x = n} {y = suc (m + rest)} (omega arith)
      ∙ ap (λ b. ended_before b (Some first) t
      ++ differences_from differ (begun_at b (Some first) t) (suc t) (m + rest))
      (holds t (omega arith) (omega arith))
      ∙ difference_goes_on first (suc t) m (m + rest) later rest (omega arith) refl
      (λ s from to. holds s (omega arith) to)

  -- none begins
  pub none_begins : (t m n later rest : ℕ) → t + m ≡ later → m + rest ≡ n
      → ((s : ℕ) → t ≤ s → s < later → differ s ≡ false)
      → differences_from differ None t n ≡ differences_from differ None later rest
  unfolding differences_from
  none_begins t zero n later rest at all fails =
      let same : t ≡ later = omega arith in
      let size : n ≡ rest = omega arith in
      λ i. differences_from differ None (same i) (size i)
  none_begins t (suc m) n later rest at all fails =
      ap (differences_from differ None t) {x = n} {y = suc (m + rest)} (omega arith)
      ∙ ap (λ b. ended_before b None t ++ differences_from differ (begun_at b None t) (suc t) (m + rest))
      (fails t (omega arith) (omega arith))
      ∙ none_begins (suc t) m (m + rest) later rest (omega arith) refl
      (λ s from to. fails s (omega arith) to)

  -- where a difference began that holds just before a tick, if one does, in a window from `low` on
  abbrev pub HasBegun : (low : ℕ) → Option ℕ → ℕ → Type 0
  HasBegun low None t = low < t → differ (t - 1) ≡ false
  HasBegun low (Some first) t = (low ≤ first) × (first < t) × (low < first → differ (first - 1) ≡ false)
      × ((s : ℕ) → first ≤ s → s < t → differ s ≡ true)

  -- a tick more
  has_begun_at : (low t : ℕ) (begun : Option ℕ) → low ≤ t → HasBegun low begun t
      → HasBegun low (begun_at (differ t) begun t) (suc t)
  has_begun_at low t None from was =
      elim (cases_Bool (differ t)) [
        | inl on ↦ subst (λ b. HasBegun low (begun_at b None t) (suc t)) (sym on) (
          from,
          omega arith,
          was,
          λ s first to. let e : s ≡ t = omega arith in ap differ e ∙ on,
        )
        | inr off ↦ subst (λ b. HasBegun low (begun_at b None t) (suc t)) (sym off)
            (λ _. let e : suc t - 1 ≡ t = omega arith in ap differ e ∙ off)
      ]
  has_begun_at low t (Some first) from (within, before, alone, holds) =
      elim (cases_Bool (differ t)) [
        | inl on ↦ subst (λ b. HasBegun low (begun_at b (Some first) t) (suc t)) (sym on) (
          within,
          omega arith,
          alone,
          λ s after to. elim (cases_eq s t) [
            | inl e ↦ ap differ e ∙ on
            | inr other ↦ holds s after (omega arith)
          ],
        )
        | inr off ↦ subst (λ b. HasBegun low (begun_at b (Some first) t) (suc t)) (sym off)
            (λ _. let e : suc t - 1 ≡ t = omega arith in ap differ e ∙ off)
      ]

  -- they rise, whether the waves differ at a tick or not
  abbrev rising : (floor t n : ℕ) → Option ℕ → Bool → Type 0
  rising floor t n begun b =
      RiseFrom floor (ended_before b begun t ++ differences_from differ (begun_at b begun t) (suc t) n)

  pub all_rise : (floor : ℕ) (begun : Option ℕ) (t n : ℕ)
      → floor ≤ floor_of begun t → floor_of begun t ≤ t → (floor_of begun t ≡ t → begun ≡ None)
      → RiseFrom floor (differences_from differ begun t n)
  unfolding differences_from
  all_rise floor None t zero from upto none = tt
  all_rise floor (Some first) t zero from upto none = (
    from,
    elim (cases_eq first t) [
      | inl e ↦ absurd (let other : Some first ≡ None = none e in cc)
      | inr other ↦ omega arith
    ],
    tt,
  )
  all_rise floor None t (suc n) from upto none =
      elim (cases_Bool (differ t)) [
        | inl on ↦ subst (rising floor t n None) (sym on)
            (all_rise floor (Some t) (suc t) n from (omega arith) (λ e. absurd (omega arith)))
        | inr off ↦ subst (rising floor t n None) (sym off)
            (all_rise floor None (suc t) n (omega arith) (omega arith) (λ _. refl))
      ]
  all_rise floor (Some first) t (suc n) from upto none =
      let less : first < t =
      elim (cases_eq first t) [
        | inl e ↦ absurd (let other : Some first ≡ None = none e in cc)
        | inr other ↦ omega arith
      ] in
      elim (cases_Bool (differ t)) [
        | inl on ↦ subst (rising floor t n (Some first)) (sym on)
            (all_rise floor (Some first) (suc t) n from (omega arith) (λ e. absurd (omega arith)))
        | inr off ↦ subst (rising floor t n (Some first)) (sym off)
            (from, omega arith, all_rise (t - 1 + 2) None (suc t) n (omega arith) (omega arith) (λ _. refl))
      ]

-- ==== in a window
module _ (differ : ℕ → Bool) (window : TickRange) where
  -- the difference that ends before a tick at which the waves are the same, or where the window ends
  ended_is_difference : (ticks : TickRange) (t first : ℕ)
      → HasBegun differ window.first (Some first) t → t ≤ suc window.last → (t ≤ window.last → differ t ≡ false)
      → ticks_between first (t - 1) ≡ ticks → IsDifference differ window ticks
  ended_is_difference ticks t first (within, before, alone, holds) upto fails is =
      subst (IsDifference differ window) is (record {
        begins_within = within;
        in_order = omega arith;
        ends_within = omega arith;
        holds = λ s after to. holds s after (omega arith);
        not_before = alone;
        not_after = λ more. let e : t - 1 + 1 ≡ t = omega arith in ap differ e ∙ fails (omega arith);
      })

  -- each is a difference
  pub each_is_difference : (ticks : TickRange) (begun : Option ℕ) (t n : ℕ)
      → window.first ≤ t → t + n ≡ suc window.last → HasBegun differ window.first begun t
      → Contains (differences_from differ begun t n) ticks → IsDifference differ window ticks
  unfolding differences_from
  each_is_difference ticks None t zero from all was is = absurd (nothing_in ticks is)
  each_is_difference ticks (Some first) t zero from all was is =
      ended_is_difference ticks t first was (omega arith) (λ more. absurd (omega arith)) (only_in ticks _ is)
  each_is_difference ticks begun t (suc n) from all was is =
      elim (Contains-append_cases (ended_before (differ t) begun t)
      (differences_from differ (begun_at (differ t) begun t) (suc t) n) ticks is) [
        | inl here ↦ ended_here ticks begun t (omega arith) was here
        | inr later ↦
            each_is_difference ticks (begun_at (differ t) begun t) (suc t) n (omega arith) (omega arith)
            (has_begun_at differ window.first t begun from was) later
      ]
    where
      ended_here : (ticks : TickRange) (begun : Option ℕ) (t : ℕ) → t ≤ window.last
          → HasBegun differ window.first begun t
          → Contains (ended_before (differ t) begun t) ticks → IsDifference differ window ticks
      ended_here ticks None t upto was is =
          elim (cases_Bool (differ t)) [
            | inl on ↦ absurd (nothing_in ticks (rw on at is))
            | inr off ↦ absurd (nothing_in ticks (rw off at is))
          ]
      ended_here ticks (Some first) t upto was is =
          elim (cases_Bool (differ t)) [
            | inl on ↦ absurd (nothing_in ticks (rw on at is))
            | inr off ↦ ended_is_difference ticks t first was (omega arith) (λ _. off) (only_in ticks _ (rw off at is))
          ]

  -- a difference that begins where one has begun begins with it
  begins_with : (ticks : TickRange) (first t : ℕ) → HasBegun differ window.first (Some first) t
      → first ≤ ticks.first → ticks.first < t → IsDifference differ window ticks → first ≡ ticks.first
  begins_with ticks first t (within, before, alone, holds) floor begins d =
      elim (cases_lt first ticks.first) [
        | inl later ↦
            absurd (both_ways (differ (ticks.first - 1)) (d.not_before (omega arith))
            (holds (ticks.first - 1) (omega arith) (omega arith)))
        | inr here ↦ omega arith
      ]

  -- and ends with it
  ends_with : (ticks : TickRange) (first t : ℕ) → HasBegun differ window.first (Some first) t
      → first ≤ ticks.first → ticks.first < t → t ≤ suc window.last → (t ≤ window.last → differ t ≡ false)
      → IsDifference differ window ticks → t - 1 ≡ ticks.last
  ends_with ticks first t (within, before, alone, holds) floor begins upto fails d =
      let in_order = d.in_order in
      let ends_within = d.ends_within in
      elim (cases_lt ticks.last t) [
        | inl here ↦
            elim (cases_lt (ticks.last + 1) t) [
              | inl early ↦
                  absurd (both_ways (differ (ticks.last + 1)) (d.not_after (omega arith))
                  (holds (ticks.last + 1) (omega arith) early))
              | inr there ↦ omega arith
            ]
        | inr late ↦ absurd (both_ways (differ t) (fails (omega arith)) (d.holds t (omega arith) late))
      ]

  -- so it is what ends there
  the_difference : (ticks : TickRange) (first t : ℕ) → HasBegun differ window.first (Some first) t
      → first ≤ ticks.first → ticks.first < t → t ≤ suc window.last → (t ≤ window.last → differ t ≡ false)
      → IsDifference differ window ticks → ticks_between first (t - 1) ≡ ticks
  the_difference ticks first t was floor begins upto fails d =
      let at : first ≡ ticks.first = begins_with ticks first t was floor begins d in
      let to : t - 1 ≡ ticks.last = ends_with ticks first t was floor begins upto fails d in
      λ i. record { first = at i; last = to i }

  -- it does not begin at a tick at which the waves are the same
  begins_later : (ticks : TickRange) (t : ℕ) → t ≤ ticks.first → differ t ≡ false
      → IsDifference differ window ticks → suc t ≤ ticks.first
  begins_later ticks t from off d =
      elim (cases_eq t ticks.first) [
        | inl e ↦
            absurd (both_ways (differ t) off
            (d.holds t (omega arith) (let in_order = d.in_order in omega arith)))
        | inr other ↦ omega arith
      ]

  -- each difference is there
  pub each_difference_is_there : (ticks : TickRange) (begun : Option ℕ) (t n : ℕ)
      → window.first ≤ t → t + n ≡ suc window.last → HasBegun differ window.first begun t
      → floor_of begun t ≤ ticks.first → IsDifference differ window ticks
      → Contains (differences_from differ begun t n) ticks
  unfolding differences_from
  each_difference_is_there ticks None t zero from all was floor d =
      absurd (let a = d.in_order in let b = d.ends_within in omega arith)
  each_difference_is_there ticks (Some first) t zero from all was floor d =
      let in_order = d.in_order in
      let ends_within = d.ends_within in
      subst (λ x. Contains (x ∷ []) ticks)
      (sym (the_difference ticks first t was floor (omega arith) (omega arith) (λ more. absurd (omega arith)) d))
      (one_in ticks)
  each_difference_is_there ticks None t (suc n) from all was floor d =
      Contains-append_right (ended_before (differ t) None t) _ ticks
      (each_difference_is_there ticks (begun_at (differ t) None t) (suc t) n (omega arith) (omega arith)
      (has_begun_at differ window.first t None from was)
      (elim (cases_Bool (differ t)) [
        | inl on ↦ subst (λ b. floor_of (begun_at b None t) (suc t) ≤ ticks.first) (sym on) floor
        | inr off ↦ subst (λ b. floor_of (begun_at b None t) (suc t) ≤ ticks.first) (sym off)
            (begins_later ticks t floor off d)
      ])
      d)
  each_difference_is_there ticks (Some first) t (suc n) from all was floor d =
      elim (cases_Bool (differ t)) [
        | inl on ↦
            Contains-append_right (ended_before (differ t) (Some first) t) _ ticks
            (each_difference_is_there ticks (begun_at (differ t) (Some first) t) (suc t) n (omega arith) (omega arith)
            (has_begun_at differ window.first t (Some first) from was)
            (subst (λ b. floor_of (begun_at b (Some first) t) (suc t) ≤ ticks.first) (sym on) floor)
            d)
        | inr off ↦
            elim (cases_lt ticks.first t) [
              | inl here ↦
                  Contains-append_left (ended_before (differ t) (Some first) t) _ ticks
                  (subst (λ b. Contains (ended_before b (Some first) t) ticks) (sym off)
                  (subst (λ x. Contains (x ∷ []) ticks)
                  (sym (the_difference ticks first t was floor here (omega arith) (λ _. off) d))
                  (one_in ticks)))
              | inr later ↦
                  Contains-append_right (ended_before (differ t) (Some first) t) _ ticks
                  (each_difference_is_there ticks (begun_at (differ t) (Some first) t) (suc t) n
                  (omega arith) (omega arith)
                  (has_begun_at differ window.first t (Some first) from was)
                  (subst (λ b. floor_of (begun_at b (Some first) t) (suc t) ≤ ticks.first) (sym off)
                  (begins_later ticks t later off d))
                  d)
            ]
      ]

  -- a tick at which the waves differ is in one of them
  pub covered : (begun : Option ℕ) (t n at : ℕ)
      → window.first ≤ t → t + n ≡ suc window.last → HasBegun differ window.first begun t
      → floor_of begun t ≤ at → at ≤ window.last → differ at ≡ true
      → Covers (differences_from differ begun t n) at
  unfolding differences_from
  covered None t zero at from all was floor upto holds = absurd (omega arith)
  covered (Some first) t zero at from all was floor upto holds =
      (ticks_between first (t - 1), one_in _, floor, omega arith)
  covered None t (suc n) at from all was floor upto holds =
      let step : floor_of (begun_at (differ t) None t) (suc t) ≤ at =
      elim (cases_Bool (differ t)) [
        | inl on ↦ subst (λ b. floor_of (begun_at b None t) (suc t) ≤ at) (sym on) floor
        | inr off ↦ subst (λ b. floor_of (begun_at b None t) (suc t) ≤ at) (sym off)
            (elim (cases_eq t at) [
              | inl e ↦ absurd (both_ways (differ t) off (ap differ e ∙ holds))
              | inr other ↦ omega arith
            ])
      ] in
      covers_later (ended_before (differ t) None t) _ at
      (covered (begun_at (differ t) None t) (suc t) n at (omega arith) (omega arith)
      (has_begun_at differ window.first t None from was) step upto holds)
  covered (Some first) t (suc n) at from all was floor upto holds =
      let later = λ (step : floor_of (begun_at (differ t) (Some first) t) (suc t) ≤ at).
      covers_later (ended_before (differ t) (Some first) t) _ at
      (covered (begun_at (differ t) (Some first) t) (suc t) n at (omega arith) (omega arith)
      (has_begun_at differ window.first t (Some first) from was) step upto holds) in
      elim (cases_Bool (differ t)) [
        | inl on ↦ later (subst (λ b. floor_of (begun_at b (Some first) t) (suc t) ≤ at) (sym on) floor)
        | inr off ↦
            elim (cases_lt at t) [
              | inl here ↦ (
                ticks_between first (t - 1),
                Contains-append_left (ended_before (differ t) (Some first) t) _ _
                    (subst (λ b. Contains (ended_before b (Some first) t) (ticks_between first (t - 1))) (sym off)
                    (one_in _)),
                floor,
                omega arith,
              )
              | inr late ↦
                  later (subst (λ b. floor_of (begun_at b (Some first) t) (suc t) ≤ at) (sym off)
                  (elim (cases_eq t at) [
                    | inl e ↦ absurd (both_ways (differ t) off (ap differ e ∙ holds))
                    | inr other ↦ omega arith
                  ]))
            ]
      ]

  -- those of a window
  pub differences_of_window : (ticks : TickRange)
      → Contains (differences_from differ None window.first (suc window.last - window.first)) ticks
      ↔ IsDifference differ window ticks
  unfolding differences_from
  differences_of_window ticks =
      elim (cases_lt window.last window.first) [
        | inl empty ↦ (
          (λ is. absurd (nothing_in ticks
              (let size : suc window.last - window.first ≡ 0 = omega arith in
              subst (λ n. Contains (differences_from differ None window.first n) ticks) size is))),
          (λ d. absurd (let a = d.begins_within in let b = d.in_order in let c = d.ends_within in omega arith)),
        )
        | inr some ↦ (
          each_is_difference ticks None window.first _ (omega arith) (omega arith) (λ more. absurd (omega arith)),
          (λ d. each_difference_is_there ticks None window.first _ (omega arith) (omega arith)
              (λ more. absurd (omega arith)) d.begins_within d),
        )
      ]

  pub differences_rise :
      RiseFrom window.first (differences_from differ None window.first (suc window.last - window.first))
  differences_rise =
      all_rise differ window.first None window.first (suc window.last - window.first) (omega arith) (omega arith)
      (λ _. refl)

  -- a tick of the window at which the waves differ is in one of them
  pub window_covered : (at : ℕ) → window.first ≤ at → at ≤ window.last
      → differ at ≡ true
      → Covers (differences_from differ None window.first (suc window.last - window.first)) at
  window_covered at from upto holds =
      covered None window.first _ at (omega arith) (omega arith) (λ more. absurd (omega arith)) from upto holds

  -- two differences with one tick are the same
  pub same_difference : (one other : TickRange) (t : ℕ) → IsDifference differ window one
      → IsDifference differ window other → one.first ≤ t → t ≤ one.last → other.first ≤ t → t ≤ other.last
      → one ≡ other
  same_difference one other t is is_other from to other_from other_to =
      let begins : one.first ≡ other.first =
      elim (cases_lt one.first other.first) [
        | inl less ↦ absurd (both_ways _ (is_other.not_before (let w = is.begins_within in omega arith))
            (is.holds (other.first - 1) (omega arith) (omega arith)))
        | inr more ↦ elim (cases_lt other.first one.first) [
          | inl less ↦ absurd (both_ways _ (is.not_before (let w = is_other.begins_within in omega arith))
              (is_other.holds (one.first - 1) (omega arith) (omega arith)))
          | inr same ↦ omega arith
        ]
      ] in
      let ends : one.last ≡ other.last =
      elim (cases_lt one.last other.last) [
        | inl less ↦ absurd (both_ways _ (is.not_after (let w = is_other.ends_within in omega arith))
            (is_other.holds (one.last + 1) (omega arith) (omega arith)))
        | inr more ↦ elim (cases_lt other.last one.last) [
          | inl less ↦ absurd (both_ways _ (is_other.not_after (let w = is.ends_within in omega arith))
              (is.holds (other.last + 1) (omega arith) (omega arith)))
          | inr same ↦ omega arith
        ]
      ] in
      λ i. record { first = begins i; last = ends i }
