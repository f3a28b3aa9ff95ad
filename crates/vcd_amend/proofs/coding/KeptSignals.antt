-- The kept variables, one more at a time, and the signal with an origin.
use Rattle.std.proofs.Common.{◌≡◌, ℕ, zero, suc, ◌<◌, ◌≤◌, false, List, [], ◌∷◌, length, get_or, None, refl, sym, ap}
use Rattle.std.proofs.Common.{◌∙◌, arith, inl, inr, ◌+◌, Bool, true, not, ◌++◌, map, take, Option, Some, ap₂}
use Rattle.std.proofs.Common.{if◌then◌else◌}
use Rattle.std.specs.Prelude.{nat_eq, option_map}
use Rattle.std.specs.List.{slice_get, range_with_len}
use Rattle.std.specs.List.Sorted.{IsNonDecreasingBy}
use Rattle.std.proofs.lemmas.Bool.{cases_lt, ne_eqb, eq-eqb, cases_Bool, eqb-true}
use Rattle.std.specs.Option.{ForSome}
use Rattle.std.specs.Borrow.{Bor}
use Rattle.std.proofs.lemmas.Option.{same_Some, slice_get-map, slice_get-get_or}
use Rattle.std.proofs.lemmas.List.Elements.{filter-append}
use Rattle.std.proofs.lemmas.List.{append-nil, map_more, take-map}
use Rattle.vcd_core.specs.Contents.{SignalContents, Contents, signal_at, no_signal}
use Rattle.vcd_core.specs.declared.capture.Signal.{Signal}
use Rattle.vcd_core.specs.CaptureContents.{signal_contents}
use Rattle.vcd_text.specs.Grammar.{VariableDeclaration, kept_variables, is_skipped}
use Rattle.vcd_core.specs.SignalOrigins.{RiseWithin, ComeFrom}
use Rattle.vcd_core.specs.SignalOrigins.{signal_from}
use Rattle.vcd_amend.specs.inside.coding.KeptSignals.{kept_signal, kept_signals}
use Rattle.vcd_amend.specs.inside.coding.ChangedWaves.{left_contents}
use Rattle.vcd_amend.proofs.shared.Lists.{at_item}

-- ==== the signal with an origin, among signals whose origins rise

-- ---- origins that rise

from_floor : (floor count : ℕ) (os : List ℕ) (j d : ℕ) → RiseWithin floor count os → j < length os
    → floor ≤ get_or os j d
from_floor floor count [] j d rising within = absurd (omega arith)
from_floor floor count (o ∷ os) zero d (least, most, rising) within = least
from_floor floor count (o ∷ os) (suc j) d (least, most, rising) within =
    let rest = from_floor (suc o) count os j d rising (omega arith) in omega (arith, least, rest)

apart : (floor count : ℕ) (os : List ℕ) (i j d : ℕ) → RiseWithin floor count os → i < j → j < length os
    → get_or os i d < get_or os j d
apart floor count [] i j d rising less within = absurd (omega arith)
apart floor count (o ∷ os) i zero d rising less within = absurd (omega arith)
apart floor count (o ∷ os) zero (suc j) d (least, most, rising) less within =
    let rest = from_floor (suc o) count os j d rising (omega arith) in omega (arith, rest)
apart floor count (o ∷ os) (suc i) (suc j) d (least, most, rising) less within =
    apart (suc o) count os i j d rising (omega arith) (omega arith)

pub do_not_fall : (floor count : ℕ) (os : List ℕ) → RiseWithin floor count os → IsNonDecreasingBy (λ (x : ℕ). x) os
do_not_fall floor count os rising = λ i j d less within. elim (cases_lt i j) [
  | inl before ↦ let strict = apart floor count os i j d rising before within in omega (arith, strict)
  | inr same ↦ let is : i ≡ j = omega arith in rw is (omega arith)
]

-- ---- the signal at the first origin that is not below

-- the origins before it are below
pub finds : (k : ℕ) (os : List ℕ) (xs : List SignalContents) (i : ℕ)
    → ((j : ℕ) → j < i → get_or os j 0 < k) → i < length os → get_or os i 0 ≡ k → length os ≤ length xs
    → signal_from k os xs ≡ slice_get xs i
finds k [] xs i below within is long = absurd (omega arith)
finds k (o ∷ os) [] i below within is long = absurd (omega arith)
finds k (o ∷ os) (x ∷ xs) zero below within is long = rw (eq-eqb k o (sym is)) refl
finds k (o ∷ os) (x ∷ xs) (suc i) below within is long =
    let less : o < k = below 0 (omega arith) in
    let other : nat_eq k o ≡ false = ne_eqb k o (λ same. absurd (omega arith)) in
    rw other (finds k os xs i (λ j early. below (suc j) (omega arith)) (omega arith) is (omega arith))

-- no origin is it
pub finds_none : (k : ℕ) (os : List ℕ) (xs : List SignalContents)
    → ((j : ℕ) → j < length os → get_or os j 0 ≡ k → ⊥) → signal_from k os xs ≡ None
finds_none k [] xs none = refl
finds_none k (o ∷ os) [] none = refl
finds_none k (o ∷ os) (x ∷ xs) none =
    let other : nat_eq k o ≡ false = ne_eqb k o (λ same. none 0 (omega arith) (sym same)) in
    rw other (finds_none k os xs (λ j within. none (suc j) (omega arith)))

-- no origin is the one that is not there at the first that is not below
pub not_there : (count k : ℕ) (os : List ℕ) (i : ℕ) → RiseWithin 0 count os
    → ((j : ℕ) → j < i → j < length os → get_or os j 0 < k)
    → ((j : ℕ) → i ≤ j → j < length os → k ≤ get_or os j 0)
    → (i < length os → get_or os i 0 ≡ k → ⊥) → (j : ℕ) → j < length os → get_or os j 0 ≡ k → ⊥
not_there count k os i rising below above here = λ j within is. elim (cases_lt j i) [
  | inl early ↦ let less = below j early within in absurd (omega (arith, less, is))
  | inr late ↦ elim (cases_lt i j) [
    | inl past ↦
        let at = above i (omega arith) (omega arith) in
        let strict = apart 0 count os i j 0 rising past within in
        absurd (omega (arith, at, strict, is))
    | inr same ↦ let one : i ≡ j = omega arith in here (omega arith) (ap (λ n. get_or os n 0) one ∙ is)
  ]
]

-- ==== the kept variables, one more at a time

-- ---- kept variables

-- a kept variable among the kept ones
kept_at : (ds : List VariableDeclaration) (i : ℕ) (d : VariableDeclaration) → slice_get ds i ≡ Some d
    → is_skipped d ≡ false → slice_get (kept_variables ds) (length (kept_variables (take i ds))) ≡ Some d
kept_at [] i d is kept = let never : None ≡ Some d = is in absurd (cc)
kept_at (e ∷ ds) zero d is kept = ap (λ (b : Bool). slice_get (if not b then e ∷ kept_variables ds else kept_variables
    ds) 0) (ap is_skipped (same_Some e d is) ∙ kept) ∙ is
kept_at (e ∷ ds) (suc i) d is kept = elim (cases_Bool (is_skipped e)) [
  | inl skips ↦ rw skips (kept_at ds i d is kept)
  | inr keeps ↦ rw keeps (kept_at ds i d is kept)
]

kept_more : (ds : List VariableDeclaration) (d : VariableDeclaration) → is_skipped d ≡ false
    → kept_variables (ds ++ d ∷ []) ≡ kept_variables ds ++ d ∷ []
kept_more ds d kept = filter-append (λ d. not (is_skipped d)) ds (d ∷ []) ∙ ap (λ (b : Bool). kept_variables ds
    ++ (if not b then d ∷ [] else [])) kept

skipped_more : (ds : List VariableDeclaration) (d : VariableDeclaration) → is_skipped d ≡ true
    → kept_variables (ds ++ d ∷ []) ≡ kept_variables ds
skipped_more ds d skips = filter-append (λ d. not (is_skipped d)) ds (d ∷ []) ∙ ap (λ (b : Bool). kept_variables ds
    ++ (if not b then d ∷ [] else [])) skips ∙ append-nil (kept_variables ds)

-- one more with its signals
rows_more : (ds : List VariableDeclaration) (d : VariableDeclaration) (fs : List SignalContents)
    (ls : List (Option SignalContents)) (f : SignalContents) (l : Option SignalContents)
    → slice_get fs (length ds) ≡ Some f → slice_get ls (length ds) ≡ Some l
    → kept_signals (ds ++ d ∷ []) fs ls ≡ kept_signals ds fs ls ++ kept_signal d f.changes l ∷ []
rows_more [] d [] ls f l first left = let never : None ≡ Some f = first in absurd (cc)
rows_more [] d (g ∷ fs) [] f l first left = let never : None ≡ Some l = left in absurd (cc)
rows_more [] d (g ∷ fs) (m ∷ ls) f l first left =
    ap₂ (λ (s : SignalContents) o. kept_signal d s.changes o ∷ []) (same_Some g f first) (same_Some m l left)
rows_more (e ∷ ds) d [] ls f l first left = let never : None ≡ Some f = first in absurd (cc)
rows_more (e ∷ ds) d (g ∷ fs) [] f l first left = let never : None ≡ Some l = left in absurd (cc)
rows_more (e ∷ ds) d (g ∷ fs) (m ∷ ls) f l first left =
    ap (λ rows. kept_signal e g.changes m ∷ rows) (rows_more ds d fs ls f l first left)

-- ---- places

-- each origin has a signal
pub come_long : (c : Contents) (os : List ℕ) (xs : List SignalContents) → ComeFrom c os xs → length os ≤ length xs
come_long c [] xs come = omega arith
come_long c (o ∷ os) [] come = absurd come
come_long c (o ∷ os) (x ∷ xs) (place, come) = let rest = come_long c os xs come in omega (arith, rest)

-- with the width of the first
pub come_width : (c : Contents) (k : ℕ) (os : List ℕ) (xs : List SignalContents) (n : SignalContents)
    → ComeFrom c os xs → signal_from k os xs ≡ Some n → n.width ≡ (signal_at c k).width
come_width c k [] xs n come is = let never : None ≡ Some n = is in absurd (cc)
come_width c k (o ∷ os) [] n come is = absurd come
come_width c k (o ∷ os) (x ∷ xs) n ((scopes, kind, width), come) is = elim (cases_Bool (nat_eq k o)) [
  | inl same ↦
      let one : x ≡ n = same_Some x n (rw same at is) in
      ap (λ (s : SignalContents). s.width) (sym one) ∙ width
      ∙ ap (λ j. (signal_at c j).width) (sym (eqb-true k o same))
  | inr other ↦ come_width c k os xs n come (rw other at is)
]

-- what is left, lent, has that width
pub left_width : (o : Option (Bor Signal)) (m : Option SignalContents) (width : ℕ) → left_contents o ≡ m
    → ((n : SignalContents) → m ≡ Some n → n.width ≡ width) → ForSome o (λ n. n.now.wave.width ≡ width)
left_width o m width left all = λ n is. all (signal_contents n.now) (sym left ∙ ap left_contents is)

-- the width of a first signal is the size of its variable
size_at : (fs : List SignalContents) (ds : List VariableDeclaration) (k : ℕ) (d : VariableDeclaration)
    → map (λ (n : SignalContents). n.width) fs ≡ map (λ (d : VariableDeclaration). d.size) ds → slice_get ds k ≡ Some d
    → (f : SignalContents) × (slice_get fs k ≡ Some f) × (f.width ≡ d.size)
size_at fs [] k d sizes is = let never : None ≡ Some d = is in absurd (cc)
size_at [] (e ∷ ds) k d sizes is = let never : [] ≡ e.size ∷ map (λ (d : VariableDeclaration). d.size) ds = sizes in
    absurd (cc)
size_at (f ∷ fs) (e ∷ ds) zero d sizes is = (
  f,
  refl,
  let both : f.width ∷ map (λ (n : SignalContents). n.width) fs ≡ e.size ∷ map (λ (d : VariableDeclaration). d.size) ds
      = sizes in
      let first : f.width ≡ e.size = cc in
      first ∙ ap (λ (d : VariableDeclaration). d.size) (same_Some e d is),
)
size_at (f ∷ fs) (e ∷ ds) (suc k) d sizes is =
    let both : f.width ∷ map (λ (n : SignalContents). n.width) fs ≡ e.size
    ∷ map (λ (d : VariableDeclaration). d.size) ds = sizes in
    size_at fs ds k d (cc) is

-- ---- the next variable

at_range : (a n k : ℕ) → k < n → slice_get (range_with_len a n) k ≡ Some (a + k)
at_range a zero k within = absurd (omega arith)
at_range a (suc n) zero within = ap Some (omega arith)
at_range a (suc n) (suc k) within = at_range (a + 1) n k (omega arith) ∙ ap Some (omega arith)

module _ {A : Type 0} (view : A → VariableDeclaration) (xs : List A) (i : ℕ) (x : A) (early : i < length xs)
    (is : x ≡ get_or xs i x) where
  -- the kept variables before it
  abbrev pub kept_before : List VariableDeclaration
  kept_before = kept_variables (map view (take i xs))

  next_item : map view (take (i + 1) xs) ≡ map view (take i xs) ++ view x ∷ []
  next_item = map_more view xs i x early ∙ ap (λ y. map view (take i xs) ++ view y ∷ []) (sym is)

  pub kept_next : is_skipped (view x) ≡ false → kept_variables (map view (take (i + 1) xs)) ≡ kept_before ++ view x ∷ []
  kept_next kept = ap kept_variables next_item ∙ kept_more (map view (take i xs)) (view x) kept

  pub skipped_next : is_skipped (view x) ≡ true → kept_variables (map view (take (i + 1) xs)) ≡ kept_before
  skipped_next skips = ap kept_variables next_item ∙ skipped_more (map view (take i xs)) (view x) skips

  -- its first signal has its size
  pub place_of : (fs : List SignalContents) → map (λ (n : SignalContents). n.width) fs
      ≡ map (λ (d : VariableDeclaration). d.size) (kept_variables (map view xs)) → is_skipped (view x) ≡ false
      → (f : SignalContents) × (slice_get fs (length kept_before) ≡ Some f) × (f.width ≡ (view x).size)
  place_of fs sizes kept =
      let there : slice_get (kept_variables (map view xs)) (length kept_before) ≡ Some (view x) = ap (λ l. slice_get
      (kept_variables (map view xs)) (length (kept_variables l))) (sym (take-map view i xs))
      ∙ kept_at (map view xs) i (view x) (at_item view xs i x early is) kept in
      size_at fs (kept_variables (map view xs)) (length kept_before) (view x) sizes there

  -- the rows with its own
  pub next_row : (fs : List SignalContents) (g : ℕ → Option SignalContents) → is_skipped (view x) ≡ false
      → length kept_before < length fs
      → kept_signals (kept_variables (map view (take (i + 1) xs))) fs (map g (range_with_len 0 (length fs)))
      ≡ kept_signals kept_before fs (map g (range_with_len 0 (length fs)))
      ++ kept_signal (view x) (get_or fs (length kept_before) no_signal).changes (g (length kept_before)) ∷ []
  next_row fs g kept within =
      let left : slice_get (map g (range_with_len 0 (length fs))) (length kept_before) ≡ Some (g (length kept_before)) =
      slice_get-map g (range_with_len 0 (length fs)) (length kept_before)
      ∙ ap (option_map g) (at_range 0 (length fs) (length kept_before) within ∙ ap Some (omega arith)) in
      ap (λ ds. kept_signals ds fs (map g (range_with_len 0 (length fs)))) (kept_next kept)
      ∙ rows_more kept_before (view x) fs (map g (range_with_len 0 (length fs)))
      (get_or fs (length kept_before) no_signal) (g (length kept_before))
      (slice_get-get_or fs (length kept_before) no_signal within) left
