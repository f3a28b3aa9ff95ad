-- The edges of several waves, one step at a time.
use Rattle.std.proofs.Common.{◌≡◌, ℕ, zero, suc, ◌+◌, ◌-◌, ◌<◌, ◌≤◌, Bool, true, false, cond, List, [], ◌∷◌, map, refl}
use Rattle.std.proofs.Common.{sym, ap, ◌∙◌, inl, inr, arith, ◌⊎◌, ◌||◌, min, not, Option, Some, None, subst}
use Rattle.std.specs.List.{filter, range_with_len, list_any}
use Rattle.std.proofs.lemmas.Bool.{cases_Bool, cases_lt, or_left, or_right, both_ways}
use Rattle.std.proofs.lemmas.Option.{same_Some}
use Rattle.vcd_core.specs.declared.wave.Change.{Change}
use Rattle.vcd_core.specs.declared.edges.Edge.{Edge}
use Rattle.vcd_core.specs.Value.{all_x}
use Rattle.vcd_core.specs.Wave.{AllUpTo}
use Rattle.vcd_core.specs.WaveView.{WaveView}
use Rattle.vcd_core.specs.Edges.{Trace, trace_of, value_on, value_before, same_value, changes_at, edge_on, edges_on}
use Rattle.vcd_core.specs.Edges.{EachUpTo}
use Rattle.vcd_core.specs.inside.EdgeWalk.{edges_left, next_tick, earlier_tick, next_tick_of, trace_after, EachRises}
use Rattle.vcd_core.specs.inside.EdgeWalk.{ticks_sum, reach}
use Rattle.vcd_core.proofs.shared.TicksInARow.{skip_ticks}
use Rattle.vcd_core.proofs.shared.Waves.{quiet, quiet_value, quiet_before, after_agrees, after_rises, changes_there}
use Rattle.vcd_core.proofs.shared.Waves.{rises_next, lower_rises, ended}

-- ==== the edges of several waves, after the next tick at which one changes

-- tests and functions that agree from a tick on give the same list
pub same_from : {X : Type 0} (p q : ℕ → Bool) (f g : ℕ → X) (a n : ℕ) → ((u : ℕ) → a ≤ u → p u ≡ q u)
    → ((u : ℕ) → a ≤ u → f u ≡ g u) → map f (filter p (range_with_len a n)) ≡ map g (filter q (range_with_len a n))
same_from p q f g a zero tests values = refl
same_from p q f g a (suc n) tests values =
    let later = same_from p q f g (a + 1) n (λ u from. tests u (omega arith)) (λ u from. values u (omega arith)) in
    elim (cases_Bool (q a)) [
      | inl e ↦ rw (tests a (omega arith), e) (λ i. values a (omega arith) i ∷ later i)
      | inr e ↦ rw (tests a (omega arith), e) later
    ]

-- where p alone keeps one tick, no test keeps one before it, and both agree later, p's list begins
-- with that tick
pub first_kept : {X : Type 0} (p q : ℕ → Bool) (f g : ℕ → X) (t a n : ℕ) → a ≤ t → t < a + n
    → ((u : ℕ) → u < t → p u ≡ false) → p t ≡ true → ((u : ℕ) → u < suc t → q u ≡ false)
    → ((u : ℕ) → t < u → p u ≡ q u) → ((u : ℕ) → t < u → f u ≡ g u)
    → map f (filter p (range_with_len a n)) ≡ f t ∷ map g (filter q (range_with_len a n))
first_kept p q f g t a n from to none here neither tests values =
    let rest = a + n - suc t in
    let later = same_from p q f g (t + 1) rest (λ u from. tests u (omega arith)) (λ u from. values u (omega arith)) in
    let there : map f (filter p (range_with_len t (suc rest))) ≡ f t ∷ map g (filter q (range_with_len (t + 1) rest)) =
    rw here (λ i. f t ∷ later i) in
    ap (map f) (skip_ticks (filter p) (t - a) a n t (suc rest) (omega arith) (omega arith)
    (λ s ts from before. rw (none s before) refl)) ∙ there
    ∙ sym (ap (λ us. f t ∷ map g us) (skip_ticks (filter q) (suc t - a) a n (t + 1) rest (omega arith) (omega arith)
    (λ s ts from before. rw (neither s (omega arith)) refl)))

-- a test that keeps nothing from a tick on keeps no more of a longer list
pub none_from : (p : ℕ → Bool) (a n : ℕ) → ((u : ℕ) → a ≤ u → p u ≡ false) → filter p (range_with_len a n) ≡ []
none_from p a zero none = refl
none_from p a (suc n) none = rw (none a (omega arith)) (none_from p (a + 1) n (λ u from. none u (omega arith)))

pub none_past : (p : ℕ → Bool) (end a m n : ℕ) → end < a + m → m ≤ n → ((u : ℕ) → end < u → p u ≡ false)
    → filter p (range_with_len a n) ≡ filter p (range_with_len a m)
none_past p end a zero n past le none = none_from p a n (λ u from. none u (omega arith))
none_past p end a (suc m) zero past le none = absurd (omega arith)
none_past p end a (suc m) (suc n) past le none =
    let later = none_past p end (a + 1) m n (omega arith) (omega arith) none in
    ap (λ (us : List ℕ). cond (p a) (a ∷ us) us) later

-- ==== the edges of several waves, one step at a time

-- ---- the tick of the next change

earlier_both : (x y : Option ℕ) (t : ℕ) → ((u : ℕ) → earlier_tick x y ≡ Some u → t ≤ u)
    → ((u : ℕ) → x ≡ Some u → t ≤ u) × ((u : ℕ) → y ≡ Some u → t ≤ u)
earlier_both None y t least = ((λ u is. absurd (cc)), least)
earlier_both (Some w) None t least = (least, (λ u is. absurd (cc)))
earlier_both (Some w) (Some v) t least =
    let both = least (min w v) refl in
    ((λ u is. omega (arith, same_Some w u is)), (λ u is. omega (arith, same_Some v u is)))

earlier_one : (x y : Option ℕ) (t : ℕ) → earlier_tick x y ≡ Some t → (x ≡ Some t) ⊎ (y ≡ Some t)
earlier_one None y t is = inr is
earlier_one (Some w) None t is = inl is
earlier_one (Some w) (Some v) t is =
    let least : min w v ≡ t = same_Some (min w v) t is in
    elim (cases_lt w v) [
      | inl below ↦ let same : w ≡ t = omega arith in inl (ap (λ (n : ℕ). Some n) same)
      | inr above ↦ let same : v ≡ t = omega arith in inr (ap (λ (n : ℕ). Some n) same)
    ]

-- no wave changes before the next tick
pub rises_each : (ls : List Trace) (t : ℕ) → EachRises 0 ls → ((u : ℕ) → next_tick_of ls ≡ Some u → t ≤ u)
    → EachRises t ls
rises_each [] t rise least = tt
rises_each (l ∷ ls) t (rises, rise) least =
    let (first, others) = earlier_both (next_tick l.changes) (next_tick_of ls) t least in
    (rises_next l.before l.changes t rises first, rises_each ls t rise others)

pub rises_to_next : (ls : List Trace) (t : ℕ) → EachRises 0 ls → next_tick_of ls ≡ Some t → EachRises t ls
rises_to_next ls t rise next =
    rises_each ls t rise (λ u is. let same : Some t ≡ Some u = sym next ∙ is in omega (arith, same_Some t u same))

-- one wave changes at the next tick
pub change_each : (ls : List Trace) (t : ℕ) → EachRises t ls → next_tick_of ls ≡ Some t
    → list_any (changes_at t) ls ≡ true
change_each [] t rise next = absurd (cc)
change_each (l ∷ ls) t (rises, rise) next =
    elim (earlier_one (next_tick l.changes) (next_tick_of ls) t next) [
      | inl first ↦ or_left _ _ (changes_there l.before l.changes t rises first)
      | inr later ↦ or_right _ _ (change_each ls t rise later)
    ]

-- ---- all waves at once

pub quiet_each : (ls : List Trace) (floor t : ℕ) → EachRises floor ls → t < floor → list_any (changes_at t) ls ≡ false
quiet_each [] floor t rise early = refl
quiet_each (l ∷ ls) floor t (rises, rise) early = rw (quiet l floor t rises early) (quiet_each ls floor t rise early)

pub lower_each : (ls : List Trace) (low high : ℕ) → low ≤ high → EachRises high ls → EachRises low ls
lower_each [] low high le rise = tt
lower_each (l ∷ ls) low high le (rises, rise) =
    (lower_rises l.before l.changes low high le rises, lower_each ls low high le rise)

pub after_each : (ls : List Trace) (t : ℕ) → EachRises t ls → EachRises (suc t) (map (trace_after t) ls)
after_each [] t rise = tt
after_each (l ∷ ls) t (rises, rise) = (after_rises l.before l.changes t rises, after_each ls t rise)

-- after the tick the waves and their rests have the same values
values_agree : (ls : List Trace) (t u : ℕ) → EachRises t ls → t ≤ u
    → map (λ l. value_on l u) ls ≡ map (λ l. value_on l u) (map (trace_after t) ls)
values_agree [] t u rise later = refl
values_agree (l ∷ ls) t u (rises, rise) later =
    λ i. after_agrees l.before l.changes t u rises later i ∷ values_agree ls t u rise later i

edges_agree : (ls : List Trace) (t u : ℕ) → EachRises t ls → t < u → edge_on ls u ≡ edge_on (map (trace_after t) ls) u
edges_agree ls t zero rise later = absurd (omega arith)
edges_agree ls t (suc u) rise later =
    let before = values_agree ls t u rise (omega arith) in
    let at = values_agree ls t (suc u) rise (omega arith) in
    λ i. record { tick = suc u; before = before i; at = at i }

-- they change at the same ticks
tests_agree : (ls : List Trace) (t u : ℕ) → EachRises t ls → t < u
    → list_any (changes_at u) ls ≡ list_any (changes_at u) (map (trace_after t) ls)
tests_agree ls t zero rise later = absurd (omega arith)
tests_agree [] t (suc u) rise later = refl
tests_agree (l ∷ ls) t (suc u) (rises, rise) later =
    let just_before = after_agrees l.before l.changes t u rises (omega arith) in
    let at = after_agrees l.before l.changes t (suc u) rises (omega arith) in
    let rest = tests_agree ls t (suc u) rise later in
    λ i. not (same_value (at i) (just_before i)) || rest i

-- the values at the edge itself are those before each rest
befores : (ls : List Trace) (t : ℕ) → EachRises t ls → map (λ l. value_before l t) ls ≡ map (λ l. l.before) ls
befores [] t rise = refl
befores (l ∷ ls) t (rises, rise) = λ i. quiet_before l.before l.changes t t rises (omega arith) i ∷ befores ls t rise i

afters : (ls : List Trace) (t : ℕ) → EachRises t ls
    → map (λ l. value_on l t) ls ≡ map (λ l. l.before) (map (trace_after t) ls)
afters [] t rise = refl
afters (l ∷ ls) t (rises, rise) =
    let next = trace_after t l in
    let agree = after_agrees l.before l.changes t t rises (omega arith) in
    let kept = quiet_value next.before next.changes (suc t) t (after_rises l.before l.changes t rises) (omega arith) in
    λ i. (agree ∙ kept) i ∷ afters ls t rise i

-- ---- the list of edges

-- the edge at the next tick
abbrev pub next_edge : List Trace → ℕ → Edge
next_edge ls t = record { tick = t; before = map (λ l. l.before) ls; at = map (λ l. l.before) (map (trace_after t) ls) }

next_edge_is : (ls : List Trace) (t : ℕ) → EachRises t ls → edge_on ls t ≡ next_edge ls t
next_edge_is ls t rise =
    let before = befores ls t rise in
    let at = afters ls t rise in
    λ i. record { tick = t; before = before i; at = at i }

-- the next edge comes first, and then those of the rests
pub edges_step : (ls : List Trace) (end t : ℕ) → EachRises 0 ls → next_tick_of ls ≡ Some t → t ≤ end
    → edges_on ls end ≡ next_edge ls t ∷ edges_on (map (trace_after t) ls) end
unfolding edges_on
edges_step ls end t rise next within =
    let here = rises_to_next ls t rise next in
    let past = map (trace_after t) ls in
    let split = first_kept (λ u. list_any (changes_at u) ls) (λ u. list_any (changes_at u) past) (edge_on ls)
    (edge_on past) t 0 (suc end) (omega arith) (omega arith)
    (λ u early. quiet_each ls t u here early) (change_each ls t here next)
    (λ u early. quiet_each past (suc t) u (after_each ls t here) early)
    (λ u later. tests_agree ls t u here later) (λ u later. edges_agree ls t u here later) in
    split ∙ ap (λ (e : Edge). e
    ∷ map (edge_on past) (filter (λ u. list_any (changes_at u) past) (range_with_len 0 (suc end))))
    (next_edge_is ls t here)

-- where no change is left, no edge is left
pub walk_over : (ls : List Trace) → EachRises 0 ls → next_tick_of ls ≡ None → edges_left ls ≡ []
unfolding edges_left edges_on
walk_over ls rise next =
    ap (map (edge_on ls)) (none_from (λ u. list_any (changes_at u) ls) 0 (suc (reach ls))
    (λ u _. quiet_each ls (suc u) u (rises_each ls (suc u) rise (λ w is. let both : None ≡ Some w = sym next ∙ is in
    absurd (cc))) (omega arith)))

-- ---- the end

-- no wave changes past the tick
abbrev Ends : ℕ → List Trace → Type 0
Ends end ls = (t : ℕ) → end < t → list_any (changes_at t) ls ≡ false

-- two ends give the same edges where no change is past either
pub edges_same : (ls : List Trace) (m n : ℕ) → Ends m ls → Ends n ls → edges_on ls m ≡ edges_on ls n
unfolding edges_on
edges_same ls m n ends_m ends_n =
    let test : ℕ → Bool = λ u. list_any (changes_at u) ls in
    elim (cases_lt m n) [
      | inl below ↦ sym (ap (map (edge_on ls))
          (none_past test m 0 (suc m) (suc n) (omega arith) (omega arith) ends_m))
      | inr above ↦ ap (map (edge_on ls))
          (none_past test n 0 (suc n) (suc m) (omega arith) (omega arith) ends_n)
    ]

ticks_within : (cs : List Change) (n : ℕ) → ticks_sum cs ≤ n → AllUpTo n cs
ticks_within [] n le = tt
ticks_within (c ∷ cs) n le = (omega arith, ticks_within cs n (omega arith))

reach_ends : (ls : List Trace) → Ends (reach ls) ls
reach_ends [] t late = refl
reach_ends (l ∷ ls) t late =
    let within = ticks_within l.changes (ticks_sum l.changes) (omega arith) in
    rw (ended l.before l.changes (ticks_sum l.changes) t within (omega arith)) (reach_ends ls t (omega arith))

-- the waves still rise after a step
pub walk_kept : (ls ks : List Trace) (t : ℕ) → EachRises 0 ls → next_tick_of ls ≡ Some t
    → ks ≡ map (trace_after t) ls → EachRises 0 ks
walk_kept ls ks t rise next is = subst (EachRises 0) (sym is)
    (lower_each (map (trace_after t) ls) 0 (suc t) (omega arith) (after_each ls t (rises_to_next ls t rise next)))

-- ---- the beginning

waves_end : (waves : List (Option WaveView)) (end : ℕ) → EachUpTo end waves → Ends end (map trace_of waves)
waves_end [] end upto t late = refl
waves_end (None ∷ waves) end (_, rest) t late = rw (ended None [] end t tt late) (waves_end waves end rest t late)
waves_end (Some w ∷ waves) end (upto, rest) t late =
    rw (ended (Some (all_x w.width)) w.changes end t upto late) (waves_end waves end rest t late)

-- ---- the edges that are left

-- the edge of the next tick comes first, and then those of the waves after it
pub walk_next : (ls ks : List Trace) (t : ℕ) → EachRises 0 ls → next_tick_of ls ≡ Some t → ks ≡ map (trace_after t) ls
    → edges_left ls
    ≡ record { tick = t; before = map (λ l. l.before) ls; at = map (λ l. l.before) ks } ∷ edges_left ks
unfolding edges_left
walk_next ls ks t rise next is =
    let here = rises_to_next ls t rise next in
    let past = map (trace_after t) ls in
    let within : t ≤ reach ls = elim (cases_lt (reach ls) t) [
      | inl late ↦ absurd (both_ways _ (reach_ends ls t late) (change_each ls t here next))
      | inr early ↦ early
    ] in
    let P : List Trace → Type 0 =
    λ ks. edges_on ls (reach ls) ≡ record { tick = t; before = map (λ l. l.before) ls; at = map (λ l. l.before) ks }
    ∷ edges_on ks (reach ks) in
    subst P (sym is) (edges_step ls (reach ls) t rise next within ∙ ap (λ (es : List Edge). next_edge ls t ∷ es)
    (edges_same past (reach ls) (reach past)
    (λ u late. sym (tests_agree ls t u here (omega arith)) ∙ reach_ends ls u late) (reach_ends past)))

-- a walk over whole waves has all their edges to come
pub walk_from : (ls : List Trace) (waves : List (Option WaveView)) (end : ℕ) → ls ≡ map trace_of waves
    → EachUpTo end waves → edges_left ls ≡ edges_on (map trace_of waves) end
unfolding edges_left
walk_from ls waves end is upto =
    let P : List Trace → Type 0 = λ ks. edges_on ks (reach ks) ≡ edges_on (map trace_of waves) end in
    subst P (sym is) (edges_same _ _ end (reach_ends (map trace_of waves)) (waves_end waves end upto))
