-- The runs of a wave: a deglitch leaves no short one, and keeps the long ones.
use Rattle.std.proofs.Common.{◌≡◌, ◌≢◌, ℕ, zero, suc, ◌+◌, ◌-◌, ◌<◌, ◌≤◌, ◌==◌, ◌||◌, true, false, nat_le}
use Rattle.std.proofs.Common.{if◌then◌else◌, List, length, None, ◌⊎◌, inl, inr, refl, sym, ap, ◌∙◌, arith}
use Rattle.std.proofs.lemmas.Bool.{cases_eq, true_from_ne_false}
use Rattle.std.proofs.lemmas.Bool.Decides.{nat_tests}
use Rattle.std.proofs.lemmas.List.{length-set, get_or-set_same, set-get_or}
use Rattle.vcd_core.specs.declared.bit.Bit.{Bit}
use Rattle.vcd_core.specs.Wave.{changes_of}
use Rattle.vcd_core.specs.Contents.{Contents, SignalContents, no_signal, signal_at, with_signal, signal_value}
use Rattle.vcd_core.proofs.shared.Waves.{value_at-changes_of, changes_of-value_at, changes_same}
use Rattle.vcd_edit.specs.declared.edit.Edit.TheVariants.{Deglitch}
use Rattle.vcd_edit.specs.Effect.{run_start, run_end, is_steady, steady_value, with_values, effect}
use Rattle.vcd_edit.specs.EditFaults.{edit_fault}
use Rattle.vcd_edit.specs.EffectLaws.{value_of}
use Rattle.vcd_edit.specs.Laws.{IsRunOfOneValue, HasNoShortRun, DeglitchLeavesNoShortRun, DeglitchKeepsLongRuns}
use Rattle.vcd_edit.specs.Laws.{DeglitchFillsShortRuns, DeglitchWithoutShortRuns, DeglitchTwice}
use Rattle.vcd_edit.proofs.checking.Faults.{no_fault, position_below}
use Rattle.vcd_edit.proofs.shared.SoundEffects.{effect_is_sound, sound_at}
use Rattle.vcd_edit.proofs.shared.RunsOfOneValue.{StartsAt, EndsAt, start_is, end_is, run_same}
use Rattle.vcd_edit.proofs.shared.RunsOfOneValue.{starts_before, ends_after}
use Rattle.vcd_edit.proofs.shared.Runs.{run_stays, run_falls, deglitch_is_wave}

-- ---- steady values

-- where the value becomes another, it is steady
changes_steady : (n end : ℕ) (f : ℕ → List Bit) (t : ℕ) → steady_value n end f t ≢ steady_value n end f (suc t)
    → is_steady n end f (suc t) ≡ true
unfolding steady_value
changes_steady n end f t other =
    true_from_ne_false _ (λ is. other (ap (λ b. if b then f (suc t) else steady_value n end f t) (sym is)))

long_by : (n end a b : ℕ) → (a == 0 || b == end || nat_le n (b - a + 1)) ≡ true → 0 < a → b < end → n ≤ b - a + 1
long_by n end a b steady late early = grind (arith, nat_tests)

-- a run of these values that begins at a steady tick is long
long_from : (n end first last : ℕ) (f : ℕ → List Bit) → 0 < first → last < end
    → IsRunOfOneValue (steady_value n end f) first last → is_steady n end f first ≡ true → n ≤ last - first + 1
long_from n end first last f late early (ordered, same, before, after) steady =
    let g = steady_value n end f in
    let a = run_start f first in
    let b = run_end f first (end - first) in
    let start : StartsAt f first a = start_is f first in
    let stop : EndsAt f first (end - first) b = end_is f first (end - first) in
    let all_same = run_same f first (end - first) a b start stop in
    let held : (s : ℕ) → a ≤ s → s ≤ b → g s ≡ f first = λ s from to.
    run_stays n end f a b (omega arith) (omega arith)
    (λ r late' early'. all_same r late' early' ∙ sym (all_same a (omega arith) (omega arith))) start.2
    (λ less. stop.3 (omega arith)) steady s from to ∙ all_same s from to in
    let at_start = starts_before g (f first) a b first held
    (λ p is equal. before (ap g {x = first - 1} {y = p} (omega arith) ∙ sym equal)) (omega arith) in
    let within = ends_after g (f first) a b last held (λ less. after) (omega arith) in
    let long : n ≤ b - a + 1 = long_by n end a b steady (omega arith) (omega arith) in
    omega arith

no_short_run : (n end : ℕ) (f : ℕ → List Bit) → HasNoShortRun n end (steady_value n end f)
no_short_run n end f zero last late early run = absurd (omega arith)
no_short_run n end f (suc first) last late early run =
    let previous : suc first - 1 ≡ first = omega arith in
    long_from n end (suc first) last f late early run
    (changes_steady n end f first (λ equal. run.2 (ap (steady_value n end f) previous ∙ equal)))

-- ---- waves without short runs

steady_by : (n end a b : ℕ) → (0 < a → b < end → n ≤ b - a + 1) → b ≤ end
    → (a == 0 || b == end || nat_le n (b - a + 1)) ≡ true
steady_by n end a b long within = elim (cases_eq a 0) [
  | inl first ↦ grind (arith, nat_tests)
  | inr later ↦ elim (cases_eq b end) [
    | inl last ↦ grind (arith, nat_tests)
    | inr earlier ↦ let enough = long (omega arith) (omega arith) in grind (arith, nat_tests)
  ]
]

-- each tick is steady
all_steady : (n end : ℕ) (f : ℕ → List Bit) → HasNoShortRun n end f → (t : ℕ) → t ≤ end → is_steady n end f t ≡ true
all_steady n end f none t upto =
    let a = run_start f t in
    let b = run_end f t (end - t) in
    let start : StartsAt f t a = start_is f t in
    let stop : EndsAt f t (end - t) b = end_is f t (end - t) in
    let here : f a ≡ f t = start.1 a (omega arith) (omega arith) in
    steady_by n end a b (λ late early.
    none a b late early (
      omega arith,
      (λ s from to. run_same f t (end - t) a b start stop s from to ∙ sym here),
      (λ equal. start.2 (a - 1) (omega arith) (sym equal)),
      stop.3 (omega arith),
    ))
    (omega arith)

-- and keeps its value
all_stay : (n end : ℕ) (f : ℕ → List Bit) → HasNoShortRun n end f → (t : ℕ) → t ≤ end → steady_value n end f t ≡ f t
unfolding steady_value
all_stay n end f none zero upto = refl
all_stay n end f none (suc t) upto =
    ap (λ q. if q then f (suc t) else steady_value n end f t) (all_steady n end f none (suc t) upto)

-- ---- the effect

-- the values after a deglitch
values_after : (k n : ℕ) (c : Contents) → edit_fault (Deglitch k n) c ≡ None → (t : ℕ) → t ≤ c.end
    → value_of (effect (Deglitch k n) c) k t ≡ steady_value n c.end (value_of c k) t
values_after k n c none t upto =
    let within = position_below c k (no_fault (Deglitch k n) c none).0 in
    let s : SignalContents = signal_at c k in
    let f : ℕ → List Bit = steady_value n c.end (value_of c k) in
    ap (λ (d : Contents). value_of d k t) (deglitch_is_wave k n c)
    ∙ ap (λ (u : SignalContents). signal_value u t)
    (get_or-set_same c.signals k (with_values c.end f s) no_signal within) ∙ value_at-changes_of s.width c.end t f upto

-- a run stays one where the values at its ticks and beside them are the same
same_run : (f g : ℕ → List Bit) (end first last : ℕ) → 0 < first → last < end
    → ((t : ℕ) → t ≤ end → f t ≡ g t) → IsRunOfOneValue f first last → IsRunOfOneValue g first last
same_run f g end first last late early same (ordered, one, before, after) = (
  ordered,
  (λ t from to. sym (same t (omega arith)) ∙ one t from to ∙ same first (omega arith)),
  (λ equal. before (same (first - 1) (omega arith) ∙ equal ∙ sym (same first (omega arith)))),
  (λ equal. after (same (suc last) (omega arith) ∙ equal ∙ sym (same last (omega arith)))),
)

end_stays : (k n : ℕ) (c : Contents) → (effect (Deglitch k n) c).end ≡ c.end
end_stays k n c = ap (λ (d : Contents). d.end) (deglitch_is_wave k n c)

pub leaves_none : DeglitchLeavesNoShortRun
leaves_none k n c sound none first last late early run =
    no_short_run n c.end (value_of c k) first last late (omega (arith, end_stays k n c))
    (same_run (value_of (effect (Deglitch k n) c) k) (steady_value n c.end (value_of c k)) c.end first last late
    (omega (arith, end_stays k n c)) (values_after k n c none) run)

-- ticks of one value lie within a run of it
kept : (n end : ℕ) (f : ℕ → List Bit) (first last t : ℕ) → last ≤ end → ((s : ℕ) → first ≤ s → s ≤ last → f s ≡ f first)
    → (first ≡ 0) ⊎ (last ≡ end) ⊎ (n ≤ last - first + 1) → first ≤ t → t ≤ last → steady_value n end f t ≡ f t
kept n end f first last t within one long from to =
    let a = run_start f t in
    let b = run_end f t (end - t) in
    let start : StartsAt f t a = start_is f t in
    let stop : EndsAt f t (end - t) b = end_is f t (end - t) in
    let early = starts_before f (f first) first last a one start.2 (omega arith) in
    let late = ends_after f (f first) first last b one (λ less. stop.3 (omega arith)) (omega arith) in
    let all_same = run_same f t (end - t) a b start stop in
    run_stays n end f a b (omega arith) (omega arith)
    (λ s after before. all_same s after before ∙ sym (all_same a (omega arith) (omega arith))) start.2
    (λ less. stop.3 (omega arith))
    (steady_by n end a b (λ later sooner. long_enough a b early late later sooner long) (omega arith)) t (omega arith)
    (omega arith)
  where
    long_enough : (a b : ℕ) → a ≤ first → last ≤ b → 0 < a → b < end
        → (first ≡ 0) ⊎ (last ≡ end) ⊎ (n ≤ last - first + 1) → n ≤ b - a + 1
    long_enough a b early late later sooner (inl is) = omega arith
    long_enough a b early late later sooner (inr (inl is)) = omega arith
    long_enough a b early late later sooner (inr (inr is)) = omega arith

pub keeps_long : DeglitchKeepsLongRuns
keeps_long k n c sound none first last t within one long from to =
    values_after k n c none t (omega arith) ∙ kept n c.end (value_of c k) first last t within one long from to

not_steady : (n end a b : ℕ) → 0 < a → b < end → b - a + 1 < n → (a == 0 || b == end || nat_le n (b - a + 1)) ≡ false
not_steady n end a b late early short = grind (arith, nat_tests)

pub fills_short : DeglitchFillsShortRuns
fills_short k n c sound none first last t late early (ordered, one, before, after) short from to =
    let g = steady_value n c.end (value_of c k) in
    values_after k n c none t (omega arith)
    ∙ run_falls n c.end (value_of c k) first last ordered (omega arith) one
    (λ p is equal. before (ap (value_of c k) (omega arith) ∙ sym equal)) (λ less. after)
    (not_steady n c.end first last late early short) (g (first - 1)) (λ p is. ap g (omega arith)) t from to
    ∙ sym (values_after k n c none (first - 1) (omega arith))

pub without_short_runs : DeglitchWithoutShortRuns
without_short_runs k n c sound none long =
    let within = position_below c k (no_fault (Deglitch k n) c none).0 in
    let s : SignalContents = signal_at c k in
    let is = sound_at c k within sound in
    let changes : changes_of s.width c.end (steady_value n c.end (value_of c k)) ≡ s.changes =
    changes_same s.width c.end (steady_value n c.end (value_of c k)) (value_of c k)
    (all_stay n c.end (value_of c k) long) ∙ changes_of-value_at s.width c.end s.changes is.wave is.ticks in
    deglitch_is_wave k n c ∙ ap (λ cs. with_signal c k (record s { changes = cs })) changes
    ∙ ap (λ (ss : List SignalContents). record c { signals = ss }) (set-get_or c.signals k no_signal)

-- its fault hangs on the number of signals alone
same_fault : (k n : ℕ) (c d : Contents) → length c.signals ≡ length d.signals
    → edit_fault (Deglitch k n) c ≡ edit_fault (Deglitch k n) d
unfolding edit_fault
same_fault k n c d size = rw size refl

-- the same deglitch has no fault a second time
still_accepted : (k n : ℕ) (c : Contents) → edit_fault (Deglitch k n) c ≡ None
    → edit_fault (Deglitch k n) (effect (Deglitch k n) c) ≡ None
still_accepted k n c none =
    let s : SignalContents = with_values c.end (steady_value n c.end (value_of c k)) (signal_at c k) in
    same_fault k n (effect (Deglitch k n) c) c
    (ap (λ (d : Contents). length d.signals) (deglitch_is_wave k n c) ∙ length-set c.signals k s) ∙ none

pub twice : DeglitchTwice
twice k n c sound none =
    without_short_runs k n (effect (Deglitch k n) c) (effect_is_sound (Deglitch k n) c sound none)
    (still_accepted k n c none) (leaves_none k n c sound none)
