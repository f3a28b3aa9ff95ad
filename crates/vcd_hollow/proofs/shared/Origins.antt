-- The origins of the signals that edits leave.
use Rattle.std.proofs.Common.{◌≡◌, ◌≤◌, ℕ, zero, suc, ◌+◌, ◌-◌, true, false, if◌then◌else◌, nat_lt, List, [], ◌∷◌, ◌++◌}
use Rattle.std.proofs.Common.{length, map, get_or, set, Some, None, refl, sym, ap, subst, ◌∙◌, arith}
use Rattle.std.specs.List.{range_with_len, remove, slice_get}
use Rattle.std.proofs.lemmas.Bool.Decides.{nat_tests}
use Rattle.std.proofs.lemmas.List.{append_assoc, get_or_at, length-append}
use Rattle.vcd_core.specs.Contents.{Contents, SignalContents, no_signal, signal_at, signal_value}
use Rattle.vcd_edit.specs.declared.edit.Edit.{Edit}
use Rattle.vcd_edit.specs.declared.edit.Edit.TheVariants.{Rename, Remove, Invert, Shift, Cut, Deglitch, Force, Derive}
use Rattle.vcd_edit.specs.Effect.{with_values, renamed_signal, inverse_value, shift_value, steady_value, force_value}
use Rattle.vcd_edit.specs.Effect.{signal_after_cut, derived_signal, effect}
use Rattle.vcd_journal.specs.History.{replay}
use Rattle.vcd_hollow.specs.Origins.{origins, origin, OriginsRise, OriginIsInList}
use Rattle.vcd_core.specs.SignalOrigins.{RiseWithin, HaveSamePlace, ComeFrom}
use Rattle.vcd_hollow.specs.Origins.{SignalsComeFromOrigins}

-- ---- origins rise

-- from a lower floor
lower : (floor less count : ℕ) (ks : List ℕ) → less ≤ floor → RiseWithin floor count ks → RiseWithin less count ks
lower floor less count [] below rise = tt
lower floor less count (k ∷ ks) below rise = (omega (arith, below, rise.0), rise.1, rise.2)

-- without one of them
rise-remove : (floor count : ℕ) (ks : List ℕ) (k : ℕ) → RiseWithin floor count ks
    → RiseWithin floor count (remove ks k)
rise-remove floor count [] zero rise = tt
rise-remove floor count [] (suc k) rise = tt
rise-remove floor count (j ∷ ks) zero rise = lower (suc j) floor count ks (omega (arith, rise.0)) rise.2
rise-remove floor count (j ∷ ks) (suc k) rise = (rise.0, rise.1, rise-remove (suc j) count ks k rise.2)

all_rise : (from n count : ℕ) → from + n ≤ count → RiseWithin from count (range_with_len from n)
all_rise from zero count within = tt
all_rise from (suc n) count within = (
  omega arith,
  omega (arith, within),
  lower (from + 1) (suc from) count (range_with_len (from + 1) n) (omega arith)
      (all_rise (from + 1) n count (omega (arith, within))),
)

pub origins_rise : OriginsRise
unfolding origins
origins_rise count [] = all_rise 0 count count (omega arith)
origins_rise count (Remove k ∷ es) = rise-remove 0 count (origins count es) k (origins_rise count es)
origins_rise count (e ∷ es) = origins_rise count es

-- ---- the origin of one position

-- a position after a removal, as it was before
before_removal : ℕ → ℕ → ℕ
before_removal j k = if nat_lt k j then k else suc k

before_next : (j k : ℕ) → before_removal (suc j) (suc k) ≡ suc (before_removal j k)
unfolding before_removal
before_next j k = grind (arith, nat_tests)

before_first : (k : ℕ) → before_removal 0 k ≡ suc k
unfolding before_removal
before_first k = grind (arith, nat_tests)

first_before : (j : ℕ) → before_removal (suc j) 0 ≡ 0
unfolding before_removal
first_before j = grind (arith, nat_tests)

get-remove : (ks : List ℕ) (j k : ℕ) → slice_get (remove ks j) k ≡ slice_get ks (before_removal j k)
get-remove [] zero k = refl
get-remove [] (suc j) k = refl
get-remove (i ∷ ks) zero k = sym (ap (slice_get (i ∷ ks)) (before_first k))
get-remove (i ∷ ks) (suc j) zero = sym (ap (slice_get (i ∷ ks)) (first_before j))
get-remove (i ∷ ks) (suc j) (suc k) =
    get-remove ks j k ∙ sym (ap (slice_get (i ∷ ks)) (before_next j k))

none_below : (k : ℕ) → nat_lt k 0 ≡ false
none_below k = grind (arith, nat_tests)

same_test : (k n : ℕ) → nat_lt k n ≡ nat_lt (suc k) (suc n)
same_test k n = grind (arith, nat_tests)

same_sum : (from k : ℕ) → from + 1 + k ≡ from + suc k
same_sum from k = omega arith

nothing_more : (from : ℕ) → from ≡ from + 0
nothing_more from = omega arith

nothing_before : (k : ℕ) → 0 + k ≡ k
nothing_before k = omega arith

some_below : (n : ℕ) → nat_lt 0 (suc n) ≡ true
some_below n = grind (arith, nat_tests)

get-range : (from n k : ℕ) → slice_get (range_with_len from n) k ≡ (if nat_lt k n then Some (from + k) else None)
get-range from zero k = λ i. if sym (none_below k) i then Some (from + k) else None
get-range from (suc n) zero = λ i. if sym (some_below n) i then Some (nothing_more from i) else None
get-range from (suc n) (suc k) =
    get-range (from + 1) n k ∙ λ i. if same_test k n i then Some (same_sum from k i) else None

pub origin_is_in_list : OriginIsInList
unfolding origins origin before_removal
origin_is_in_list count [] k =
    sym (get-range 0 count k ∙ λ i. if nat_lt k count then Some (nothing_before k i) else None)
origin_is_in_list count (Remove j ∷ es) k =
    origin_is_in_list count es (if nat_lt k j then k else suc k) ∙ sym (get-remove (origins count es) j k)
origin_is_in_list count (e ∷ es) k = origin_is_in_list count es k

-- ---- where signals come from

same_place : (s : SignalContents) → HaveSamePlace s s
same_place s = (refl, refl, refl)

-- what a function leaves of scopes, kind and width
abbrev KeepsPlace : (SignalContents → SignalContents) → Type 0
KeepsPlace f = (s : SignalContents) → HaveSamePlace (f s) s

place_then : (r s t : SignalContents) → HaveSamePlace r s → HaveSamePlace s t → HaveSamePlace r t
place_then r s t first second = (first.0 ∙ second.0, first.1 ∙ second.1, first.2 ∙ second.2)

module _ (c : Contents) where
  from-set : (f : SignalContents → SignalContents) → KeepsPlace f → (ks : List ℕ) (ss : List SignalContents) (k : ℕ)
      → ComeFrom c ks ss → ComeFrom c ks (set ss k (f (get_or ss k no_signal)))
  from-set f keeps [] ss k from = tt
  from-set f keeps (j ∷ ks) [] k from = absurd from
  from-set f keeps (j ∷ ks) (s ∷ ss) zero from = (place_then (f s) s (signal_at c j) (keeps s) from.0, from.1)
  from-set f keeps (j ∷ ks) (s ∷ ss) (suc k) from = (from.0, from-set f keeps ks ss k from.1)

  from-map : (f : SignalContents → SignalContents) → KeepsPlace f → (ks : List ℕ) (ss : List SignalContents)
      → ComeFrom c ks ss → ComeFrom c ks (map f ss)
  from-map f keeps [] ss from = tt
  from-map f keeps (j ∷ ks) [] from = absurd from
  from-map f keeps (j ∷ ks) (s ∷ ss) from =
      (place_then (f s) s (signal_at c j) (keeps s) from.0, from-map f keeps ks ss from.1)

  from-remove : (ks : List ℕ) (ss : List SignalContents) (k : ℕ) → ComeFrom c ks ss
      → ComeFrom c (remove ks k) (remove ss k)
  from-remove [] ss zero from = tt
  from-remove [] ss (suc k) from = tt
  from-remove (j ∷ ks) [] k from = absurd from
  from-remove (j ∷ ks) (s ∷ ss) zero from = from.1
  from-remove (j ∷ ks) (s ∷ ss) (suc k) from = (from.0, from-remove ks ss k from.1)

  from-push : (ks : List ℕ) (ss : List SignalContents) (s : SignalContents) → ComeFrom c ks ss
      → ComeFrom c ks (ss ++ s ∷ [])
  from-push [] ss s from = tt
  from-push (j ∷ ks) [] s from = absurd from
  from-push (j ∷ ks) (r ∷ ss) s from = (from.0, from-push ks ss s from.1)

  abbrev count : ℕ
  count = length c.signals

  from_effect : (e : Edit) (es : List Edit) (d : Contents) → ComeFrom c (origins count es) d.signals
      → ComeFrom c (origins count (e ∷ es)) (effect e d).signals
  unfolding effect origins
  from_effect (Rename k word) es d from =
      from-set (renamed_signal word.now) (λ s. same_place s) (origins count es) d.signals k from
  from_effect (Remove k) es d from = from-remove (origins count es) d.signals k from
  from_effect (Invert k) es d from =
      from-set (λ s. with_values d.end (inverse_value s) s) (λ s. same_place s) (origins count es) d.signals k from
  from_effect (Shift k by) es d from =
      from-set (λ s. with_values d.end (shift_value d.end by s) s) (λ s. same_place s)
      (origins count es) d.signals k from
  from_effect (Cut first last) es d from =
      from-map (signal_after_cut (d.end - (last - first)) first last) (λ s. same_place s)
      (origins count es) d.signals from
  from_effect (Deglitch k ticks) es d from =
      from-set (λ s. with_values d.end (steady_value ticks d.end (signal_value s)) s) (λ s. same_place s)
      (origins count es) d.signals k from
  from_effect (Force k first last value) es d from =
      from-set (λ s. with_values d.end (force_value first last value s) s) (λ s. same_place s)
      (origins count es) d.signals k from
  from_effect (Derive word rule) es d from =
      from-push (origins count es) d.signals (derived_signal word.now rule d) from

  -- all signals, at the beginning
  all_from : (before ss : List SignalContents) → c.signals ≡ before ++ ss
      → ComeFrom c (range_with_len (length before) (length ss)) ss
  all_from before [] is = tt
  all_from before (s ∷ ss) is =
      let here : signal_at c (length before) ≡ s =
      ap (λ (all : List SignalContents). get_or all (length before) no_signal) is
      ∙ get_or_at before s ss no_signal (length before) refl in
      let rest = all_from (before ++ s ∷ []) ss (is ∙ sym (append_assoc before (s ∷ []) ss)) in (
        subst (λ (t : SignalContents). HaveSamePlace s t) (sym here) (same_place s),
        subst (λ n. ComeFrom c (range_with_len n (length ss)) ss) (length-append before (s ∷ [])) rest,
      )

pub signals_come_from_origins : SignalsComeFromOrigins
unfolding replay origins
signals_come_from_origins c [] = all_from c [] c.signals refl
signals_come_from_origins c (e ∷ es) =
    from_effect c e es (replay c es) (signals_come_from_origins c es)

-- so there are no more origins than signals
pub from_fits : (c : Contents) (ks : List ℕ) (ss : List SignalContents) → ComeFrom c ks ss → length ks ≤ length ss
from_fits c [] ss from = omega arith
from_fits c (k ∷ ks) [] from = absurd from
from_fits c (k ∷ ks) (s ∷ ss) from = omega (arith, from_fits c ks ss from.1)

-- what comes from one capture comes from each in which the signals have the same places
pub come_again : (c d : Contents) → ((k : ℕ) → HaveSamePlace (signal_at c k) (signal_at d k)) → (ks : List ℕ)
    (ss : List SignalContents) → ComeFrom c ks ss → ComeFrom d ks ss
come_again c d each [] ss from = tt
come_again c d each (k ∷ ks) [] from = absurd from
come_again c d each (k ∷ ks) (s ∷ ss) from =
    (place_then s (signal_at c k) (signal_at d k) from.0 (each k), come_again c d each ks ss from.1)

pub origins_fit : (c : Contents) (es : List Edit)
    → length (origins (length c.signals) es) ≤ length (replay c es).signals
origins_fit c es = from_fits c (origins (length c.signals) es) (replay c es).signals (signals_come_from_origins c es)
