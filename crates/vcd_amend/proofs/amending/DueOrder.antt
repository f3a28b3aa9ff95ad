-- The due changes in the order of their ticks.
use Rattle.std.proofs.Common.{◌≡◌, ◌<◌, ◌≤◌, ◌+◌, ◌&&◌, ◌||◌, not, ℕ, zero, suc, Bool, true, false, nat_lt, List}
use Rattle.std.proofs.Common.{[]}
use Rattle.std.proofs.Common.{◌∷◌, ◌++◌, length, map, get_or, refl, sym, ap, ap₂, ◌∙◌, arith, inl, inr}
use Rattle.std.proofs.Common.{if◌then◌else◌, All, subst}
use Rattle.std.specs.Ordering.{is_lt, nat_cmp, ordering_then}
use Rattle.std.specs.declared.cmp.Ordering.{Ordering}
use Rattle.std.specs.List.Sorted.{IsPermutation, IsSorted}
use Rattle.std.proofs.lemmas.Bool.{cases_eq, cases_lt, eq-eqb, ne_eqb, lt-ltb, le-ltb}
use Rattle.std.proofs.lemmas.List.Sorted.{IsPermutation-map}
use Rattle.std.proofs.lemmas.List.Elements.{All-nil, All-cons, All-head, All-tail}
use Rattle.vcd_core.specs.declared.bit.Bit.{Bit}
use Rattle.vcd_core.specs.declared.wave.Change.{Change}
use Rattle.vcd_core.specs.Value.{all_x}
use Rattle.vcd_core.specs.Wave.{AreChangesFrom, IsWave}
use Rattle.vcd_text.specs.inside.writing.Transitions.{Transition, transition_of}
use Rattle.vcd_text.proofs.shared.TransitionOrder.{AtLeast, RisesFrom, times, times-append, counted, once}
use Rattle.vcd_text.proofs.shared.TransitionOrder.{times_permuted, same_transitions}
use Rattle.vcd_amend.specs.Amendment.{AmendedCode, needs_change, wave_has_change}
use Rattle.vcd_amend.specs.inside.amending.DueChanges.{code_transitions, unsorted_transitions, due_at, due_in}
use Rattle.vcd_amend.specs.inside.amending.DueChanges.{before_tick, from_tick, AreDueFrom}
use Rattle.vcd_amend.specs.inside.amending.DueChanges.{due_transition}
use Rattle.vcd_amend.specs.declared.amending.due_changes.DueChange.{DueChange}
use Rattle.vcd_amend.proofs.amending.LastChange.{none_early, later_needs}

-- ---- how often a due change is listed

once_here : (u k : ℕ) → once u k (transition_of u k) ≡ 1
once_here u k = grind (arith, eq-eqb)

once_apart : (u j t k : ℕ) → (j ≡ k → ⊥) → once u j (transition_of t k) ≡ 0
once_apart u j t k apart = grind (arith, ne_eqb)

once_other : (u j t k : ℕ) → (u ≡ t → ⊥) → once u j (transition_of t k) ≡ 0
once_other u j t k apart = grind (arith, ne_eqb)

-- those of another code
changes_apart : (u j k : ℕ) (cs : List Change) → (j ≡ k → ⊥) → times u j (map (λ x. transition_of x.tick k) cs) ≡ 0
changes_apart u j k [] apart = refl
changes_apart u j k (c ∷ cs) apart = omega (arith, once_apart u j c.tick k apart, changes_apart u j k cs apart)

-- those of a wave
changes_times : (u k floor : ℕ) (before : List Bit) (cs : List Change) → AreChangesFrom floor before cs
    → times u k (map (λ x. transition_of x.tick k) cs) ≡ counted (wave_has_change cs u)
changes_times u k floor before [] rise = refl
changes_times u k floor before (c ∷ cs) (from, other, wide, rest) =
    let later = changes_times u k (c.tick + 1) c.value cs rest in
    elim (cases_eq c.tick u) [
      | inl same ↦
          let none = (none_early (c.tick + 1) c.value cs u rest (omega (arith, same))).1 in
          let one : once u k (transition_of c.tick k) ≡ 1 = ap (λ n. once u k (transition_of n k)) same ∙ once_here u k
          in
          ap₂ (λ a b. a + b) one (later ∙ ap counted none)
          ∙ ap (λ b. counted (b || wave_has_change cs u)) (sym (eq-eqb c.tick u same))
      | inr apart ↦
          ap₂ (λ a b. a + b) (once_other u k c.tick k (λ e. apart (sym e))) later
          ∙ (let e : 0 + counted (wave_has_change cs u) ≡ counted (wave_has_change cs u) = omega arith in e)
          ∙ ap (λ b. counted (b || wave_has_change cs u)) (sym (ne_eqb c.tick u apart))
    ]

-- one at a tick, if a test says so
abbrev pub one_if : Bool → ℕ → ℕ → List Transition
one_if b t k = if b then transition_of t k ∷ [] else []

one_if_here : (b : Bool) (u k : ℕ) → times u k (one_if b u k) ≡ counted b
one_if_here true u k = omega (arith, once_here u k)
one_if_here false u k = refl

one_if_apart : (b : Bool) (u j t k : ℕ) → (j ≡ k → ⊥) → times u j (one_if b t k) ≡ 0
one_if_apart true u j t k apart = omega (arith, once_apart u j t k apart)
one_if_apart false u j t k apart = refl

one_if_other : (b : Bool) (u j t k : ℕ) → (u ≡ t → ⊥) → times u j (one_if b t k) ≡ 0
one_if_other true u j t k apart = omega (arith, once_other u j t k apart)
one_if_other false u j t k apart = refl

-- of one code each tick is listed once, if a change is due there
both_counted : (has differ : Bool) → counted ((has || differ) && not has) + counted has ≡ counted (has || differ)
both_counted true differ = refl
both_counted false true = refl
both_counted false false = refl

code_here : (u k : ℕ) (c : AmendedCode) → IsWave c.width c.new → times u k (code_transitions k c)
    ≡ counted (needs_change c u)
code_here zero k c is =
    let changes = map (λ (x : Change). transition_of x.tick k) c.new in
    times-append 0 k (one_if (needs_change c 0 && not (wave_has_change c.new 0)) 0 k) changes
    ∙ ap₂ (λ a b. a + b) (one_if_here (needs_change c 0 && not (wave_has_change c.new 0)) 0 k)
    (changes_times 0 k 0 (all_x c.width) c.new is.rise)
    ∙ both_counted (wave_has_change c.new 0) _
code_here (suc u) k c is =
    let changes = map (λ (x : Change). transition_of x.tick k) c.new in
    times-append (suc u) k (one_if (needs_change c 0 && not (wave_has_change c.new 0)) 0 k) changes
    ∙ ap₂ (λ a b. a + b) (one_if_other (needs_change c 0 && not (wave_has_change c.new 0)) (suc u) k 0 k (λ e. omega
    (arith, e)))
    (changes_times (suc u) k 0 (all_x c.width) c.new is.rise)
    ∙ (let e : 0 + counted (wave_has_change c.new (suc u)) ≡ counted (wave_has_change c.new (suc u)) = omega arith in e)
    ∙ ap counted (later_needs c u)

one_code : (u j k : ℕ) (c : AmendedCode) → IsWave c.width c.new → times u j (code_transitions k c)
    ≡ times u j (one_if (needs_change c u) u k)
one_code u j k c is = elim (cases_eq j k) [
  | inl same ↦ ap (λ n. times u n (code_transitions k c)) same ∙ code_here u k c is
      ∙ sym (ap (λ n. times u n (one_if (needs_change c u) u k)) same ∙ one_if_here (needs_change c u) u k)
  | inr apart ↦
      times-append u j (one_if (needs_change c 0 && not (wave_has_change c.new 0)) 0 k)
      (map (λ (x : Change). transition_of x.tick k) c.new)
      ∙ ap₂ (λ a b. a + b) (one_if_apart (needs_change c 0 && not (wave_has_change c.new 0)) u j 0 k apart)
      (changes_apart u j k c.new apart)
      ∙ sym (one_if_apart (needs_change c u) u j u k apart)
]

pub unsorted_times : (u j k : ℕ) (cs : List AmendedCode) → All (λ c. IsWave c.width c.new) cs
    → times u j (unsorted_transitions k cs) ≡ times u j (due_at k cs u)
unfolding unsorted_transitions due_at
unsorted_times u j k [] sound = refl
unsorted_times u j k (c ∷ cs) sound =
    times-append u j (code_transitions k c) (unsorted_transitions (k + 1) cs)
    ∙ ap₂ (λ a b. a + b) (one_code u j k c (All-head (λ (x : AmendedCode). IsWave x.width x.new) c cs sound))
    (unsorted_times u j (k + 1) cs (All-tail (λ (x : AmendedCode). IsWave x.width x.new) c cs sound))
    ∙ sym (times-append u j (one_if (needs_change c u) u k) (due_at (k + 1) cs u))

at_other : (u j k t : ℕ) (cs : List AmendedCode) → (u ≡ t → ⊥) → times u j (due_at k cs t) ≡ 0
unfolding due_at
at_other u j k t [] apart = refl
at_other u j k t (c ∷ cs) apart =
    times-append u j (one_if (needs_change c t) t k) (due_at (k + 1) cs t)
    ∙ ap₂ (λ a b. a + b) (one_if_other (needs_change c t) u j t k apart) (at_other u j (k + 1) t cs apart)

in_before : (u j t n : ℕ) (cs : List AmendedCode) → u < t → times u j (due_in cs t n) ≡ 0
unfolding due_in
in_before u j t zero cs early = refl
in_before u j t (suc n) cs early =
    times-append u j (due_at 0 cs t) (due_in cs (suc t) n)
    ∙ ap₂ (λ a b. a + b) (at_other u j 0 t cs (λ e. omega (arith, e, early))) (in_before u j (suc t) n cs (omega arith))

in_times : (u j t n : ℕ) (cs : List AmendedCode) → t ≤ u → u < t + n → times u j (due_in cs t n)
    ≡ times u j (due_at 0 cs u)
unfolding due_in
in_times u j t zero cs from to = absurd (omega (arith, from, to))
in_times u j t (suc n) cs from to = times-append u j (due_at 0 cs t) (due_in cs (suc t) n) ∙ elim (cases_eq u t) [
  | inl same ↦ ap₂ (λ a b. a + b) (ap (λ x. times u j (due_at 0 cs x)) (sym same))
      (in_before u j (suc t) n cs (omega (arith, same)))
      ∙ (let e : times u j (due_at 0 cs u) + 0 ≡ times u j (due_at 0 cs u) = omega arith in e)
  | inr apart ↦ ap₂ (λ a b. a + b) (at_other u j 0 t cs apart) (in_times u j (suc t) n cs (omega arith) (omega arith))
      ∙ (let e : 0 + times u j (due_at 0 cs u) ≡ times u j (due_at 0 cs u) = omega arith in e)
]

in_past : (u j t n : ℕ) (cs : List AmendedCode) → t + n ≤ u → times u j (due_in cs t n) ≡ 0
unfolding due_in
in_past u j t zero cs late = refl
in_past u j t (suc n) cs late =
    times-append u j (due_at 0 cs t) (due_in cs (suc t) n)
    ∙ ap₂ (λ a b. a + b) (at_other u j 0 t cs (λ e. omega (arith, e, late))) (in_past u j (suc t) n cs (omega arith))

-- ---- they rise

from_next : (f g t : ℕ) (ys : List Transition) → f ≤ t → RisesFrom (suc t) 0 ys → RisesFrom f g ys
from_next f g t [] before rise = tt
from_next f g t (m ∷ ms) before (first, rest) = (grind arith, rest)

at_rises : (f g t k : ℕ) (cs : List AmendedCode) (ys : List Transition) → AtLeast f g (transition_of t k)
    → RisesFrom (suc t) 0 ys → RisesFrom f g (due_at k cs t ++ ys)
unfolding due_at
at_rises f g t k [] ys from rise = from_next f g t ys (grind arith) rise
at_rises f g t k (c ∷ cs) ys from rise =
    let here = at_rises t k t (k + 1) cs ys (inr (refl, omega arith)) rise in
    let later = at_rises f g t (k + 1) cs ys (grind arith) rise in
    by_need (needs_change c t) here later
  where
    by_need : (b : Bool) → RisesFrom t k (due_at (k + 1) cs t ++ ys) → RisesFrom f g (due_at (k + 1) cs t ++ ys)
        → RisesFrom f g ((one_if b t k ++ due_at (k + 1) cs t) ++ ys)
    by_need true here later = (from, here)
    by_need false here later = later

in_rises : (t n : ℕ) (cs : List AmendedCode) → RisesFrom t 0 (due_in cs t n)
unfolding due_in
in_rises t zero cs = tt
in_rises t (suc n) cs = at_rises t 0 t 0 cs (due_in cs (suc t) n) (inr (refl, omega arith)) (in_rises (suc t) n cs)

-- ---- a list in two

pub split_at : (t : ℕ) (ms : List Transition) → ms ≡ before_tick t ms ++ from_tick t ms
unfolding before_tick from_tick
split_at t [] = refl
split_at t (m ∷ ms) = by_test (nat_lt m.tick t) (split_at t ms)
  where
    by_test : (b : Bool) → ms ≡ before_tick t ms ++ from_tick t ms
        → m ∷ ms ≡ (if b then m ∷ before_tick t ms else []) ++ (if b then from_tick t ms else m ∷ ms)
    by_test true rest = ap (λ l. m ∷ l) rest
    by_test false rest = refl

late_all : (t f g : ℕ) (ms : List Transition) → t ≤ f → RisesFrom f g ms → All (λ m. t ≤ m.tick) ms
late_all t f g [] late rise = All-nil (λ (m : Transition). t ≤ m.tick)
late_all t f g (m ∷ ms) late (first, rest) = All-cons (λ (x : Transition). t ≤ x.tick) m ms (grind arith)
    (late_all t m.tick m.position ms (grind arith) rest)

pub from_is_late : (t f g : ℕ) (ms : List Transition) → RisesFrom f g ms → All (λ m. t ≤ m.tick) (from_tick t ms)
unfolding from_tick
from_is_late t f g [] rise = All-nil (λ (m : Transition). t ≤ m.tick)
from_is_late t f g (m ∷ ms) (first, rest) = elim (cases_lt m.tick t) [
  | inl early ↦ rw (lt-ltb m.tick t early) (from_is_late t m.tick m.position ms rest)
  | inr late ↦ rw (le-ltb m.tick t late) (All-cons (λ (x : Transition). t ≤ x.tick) m ms late
      (late_all t m.tick m.position ms late rest))
]

before_rises : (t f g : ℕ) (ms : List Transition) → RisesFrom f g ms → RisesFrom f g (before_tick t ms)
unfolding before_tick
before_rises t f g [] rise = tt
before_rises t f g (m ∷ ms) (first, rest) = by_test (nat_lt m.tick t) (before_rises t m.tick m.position ms rest)
  where
    by_test : (b : Bool) → RisesFrom m.tick m.position (before_tick t ms)
        → RisesFrom f g (if b then m ∷ before_tick t ms else [])
    by_test true later = (first, later)
    by_test false later = tt

none_late : (u j t : ℕ) (ms : List Transition) → u < t → All (λ m. t ≤ m.tick) ms → times u j ms ≡ 0
none_late u j t [] early late = refl
none_late u j t (m ∷ ms) early late =
    let here : t ≤ m.tick = All-head (λ (x : Transition). t ≤ x.tick) m ms late in
    omega (
      arith,
      once_other u j m.tick m.position (λ e. omega (arith, e, here, early)),
      none_late u j t ms early (All-tail (λ (x : Transition). t ≤ x.tick) m ms late),
    )

none_before : (u j t : ℕ) (ms : List Transition) → t ≤ u → times u j (before_tick t ms) ≡ 0
unfolding before_tick
none_before u j t [] late = refl
none_before u j t (m ∷ ms) late = elim (cases_lt m.tick t) [
  | inl early ↦ rw (lt-ltb m.tick t early) (omega (
    arith,
    once_other u j m.tick m.position
        (λ e. omega (arith, e, early, late)),
    none_before u j t ms late,
  ))
  | inr past ↦ rw (le-ltb m.tick t past) refl
]

-- ---- all of them

pub sorted_are_due : (cs : List AmendedCode) (ms : List Transition) → RisesFrom 0 0 ms
    → ((u j : ℕ) → times u j ms ≡ times u j (due_at 0 cs u)) → AreDueFrom cs 0 ms
sorted_are_due cs ms rise same n =
    let late = from_is_late n 0 0 ms rise in
    let counts : (u j : ℕ) → times u j (before_tick n ms) ≡ times u j (due_in cs 0 n) = λ u j. elim (cases_lt u n) [
      | inl early ↦ omega (
        arith,
        ap (times u j) (split_at n ms),
        times-append u j (before_tick n ms) (from_tick n ms),
        none_late u j n (from_tick n ms) early late,
        same u j,
        in_times u j 0 n cs (omega arith)
            (omega (arith, early)),
      )
      | inr past ↦ none_before u j n ms past ∙ sym (in_past u j 0 n cs (omega arith))
    ] in
    record {
      rest = from_tick n ms;
      split = split_at n ms ∙ ap (λ l. l ++ from_tick n ms)
          (same_transitions (before_tick n ms) (due_in cs 0 n) 0 0 0 0 (before_rises n 0 0 ms rise) (in_rises 0 n cs)
          counts);
      later = subst (λ x. All (λ m. x ≤ m.tick) (from_tick n ms)) (let e : n ≡ 0 + n = omega arith in e) late;
    }

-- ---- sorted changes rise

-- the order of due changes
abbrev pub due_cmp : DueChange → DueChange → Ordering
due_cmp a b = ordering_then (nat_cmp a.tick b.tick) (nat_cmp a.index b.index)

pub not_less_at : (a b : DueChange) → is_lt (due_cmp b a) ≡ false → AtLeast a.tick a.index (due_transition b)
not_less_at a b late = grind (arith, cases_lt, lt-ltb)

module _ (cmp : DueChange → DueChange → Ordering) (not_less : (a b : DueChange) → is_lt (cmp b a) ≡ false
    → AtLeast a.tick a.index (due_transition b)) where
  rises_after : (d : DueChange) (ds : List DueChange) → ((k : ℕ) (x : DueChange) → k + 1 < length (d ∷ ds)
      → is_lt (cmp (get_or (d ∷ ds) (k + 1) x) (get_or (d ∷ ds) k x)) ≡ false)
      → RisesFrom d.tick d.index (map due_transition ds)
  rises_after d [] up = tt
  rises_after d (e ∷ ds) up = (
    not_less d e (up 0 d (omega arith)),
    rises_after e ds (λ k x within. rw (let s : suc k + 1 ≡ suc (k + 1) = omega arith in s) at (up (suc k) x (omega
        arith))),
  )

  pub sorted_rise : (ds : List DueChange) → IsSorted cmp ds → RisesFrom 0 0 (map due_transition ds)
  sorted_rise [] up = tt
  sorted_rise (d ∷ ds) up = (grind (arith, cases_lt), rises_after d ds (λ k x within. up k x (omega arith) within))

  -- so they are due from the first tick on
  pub sorted_due : (cs : List AmendedCode) (ds sorted : List DueChange) → All (λ c. IsWave c.width c.new) cs
      → map due_transition ds ≡ unsorted_transitions 0 cs → IsPermutation ds sorted → IsSorted cmp sorted
      → AreDueFrom cs 0 (map due_transition sorted)
  sorted_due cs ds sorted sound listed moved up =
      sorted_are_due cs (map due_transition sorted) (sorted_rise sorted up) (λ u j.
      times_permuted u j _ _ (IsPermutation-map due_transition ds sorted moved) ∙ ap (times u j) listed
      ∙ unsorted_times u j 0 cs sound)
