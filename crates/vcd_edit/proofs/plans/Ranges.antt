-- A function over a range of ticks as changes, and the pieces that put them into a wave.
use Rattle.std.proofs.Common.{◌≡◌, ℕ, zero, suc, ◌+◌, ◌-◌, ◌^◌, ◌<◌, ◌≤◌, Bool, true, false, cond, nat_lt, ℤ, pos, ◌+ℤ◌}
use Rattle.std.proofs.Common.{unsigned_abs, List, [], ◌++◌, length, take, drop, map, refl, sym, get_or, All, ap, subst}
use Rattle.std.proofs.Common.{◌∙◌, arith, ◌&&◌, nat_le, if◌then◌else◌}
use Rattle.std.specs.List.{count_by}
use Rattle.std.proofs.lemmas.Bool.{lt-ltb, le-ltb, and_right, le-leb, lt-leb}
use Rattle.std.proofs.lemmas.Bool.Decides.{nat_tests}
use Rattle.std.proofs.lemmas.List.{append_assoc, take_at, drop_at, append-nil, drop_all}
use Rattle.std.proofs.lemmas.List.Sums.{sum_by-append, sum_by-le-sum_by, count_by-le-length}
use Rattle.std.proofs.lemmas.List.Elements.{All-nil, All-cons, All-weaker}
use Rattle.std.proofs.lemmas.Int.{ints}
use Rattle.vcd_core.specs.declared.bit.Bit.{Bit}
use Rattle.vcd_core.specs.declared.wave.Change.{Change}
use Rattle.vcd_core.specs.Value.{all_x, same_letters}
use Rattle.vcd_core.specs.Wave.{change, value_at, unless_same, changes_from, IsWave, AllUpTo, changes_of}
use Rattle.vcd_core.specs.WavePush.{last_value}
use Rattle.vcd_core.specs.Splice.{moved_change, TickFits, AllTicksFit, spliced_changes}
use Rattle.vcd_core.proofs.shared.Pushes.{all_from_upto, upto_from_all, count_is, no_change}
use Rattle.vcd_core.proofs.shared.Waves.{put_cases, changes_are}
use Rattle.vcd_core.specs.Contents.{SignalContents, signal_value}
use Rattle.vcd_core.specs.declared.capture.TheConstants.{END_LIMIT}
use Rattle.vcd_edit.specs.RecordView.{PieceView}
use Rattle.vcd_edit.specs.inside.plans.Ranges.{value_just_before, changes_in, GivesChanges}
use Rattle.vcd_edit.specs.declared.record.Piece.{Piece}
use Rattle.vcd_edit.specs.Records.{piece_view}
use Rattle.vcd_edit.specs.inside.plans.Plan.{GivesValues}
use Rattle.vcd_edit.specs.Effect.{force_value}

-- ==== the changes of a function over a range of ticks, and a wave in which a piece replaces a range

-- ---- a range is two ranges

unless_same-append : (b : Bool) (c : Change) (xs ys : List Change)
    → unless_same b c (xs ++ ys) ≡ unless_same b c xs ++ ys
unless_same-append true c xs ys = refl
unless_same-append false c xs ys = refl

pub changes_in-split : (width : ℕ) (f : ℕ → List Bit) (t m n : ℕ)
    → changes_in width f t (m + n) ≡ changes_in width f t m ++ changes_in width f (t + m) n
unfolding changes_from
changes_in-split width f t zero n =
    ap (changes_in width f t) {x = 0 + n} {y = n} (omega arith)
    ∙ ap (λ u. changes_in width f u n) {x = t} {y = t + 0} (omega arith)
changes_in-split width f t (suc m) n =
    ap (changes_in width f t) {x = suc m + n} {y = suc (m + n)} (omega arith)
    ∙ ap (unless_same (same_letters (f t) (value_just_before width f t)) (change t (f t)))
    (changes_in-split width f (suc t) m n
    ∙ ap (λ u. changes_in width f (suc t) m ++ changes_in width f u n) {x = suc t + m} {y =
    t + suc m} (omega arith))
    ∙ unless_same-append (same_letters (f t) (value_just_before width f t)) (change t (f t))
    (changes_in width f (suc t) m) (changes_in width f (t + suc m) n)

-- ---- the same values

same_from : (f g : ℕ → List Bit) (before : List Bit) (t n : ℕ) → ((s : ℕ) → t ≤ s → s < t + n → f s ≡ g s)
    → changes_from before t n g ≡ changes_from before t n f
unfolding changes_from
same_from f g before t zero same = refl
same_from f g before t (suc n) same =
    let here : g t ≡ f t = sym (same t (omega arith) (omega arith)) in
    let rest : changes_from (g t) (suc t) n g ≡ changes_from (f t) (suc t) n f =
    same_from f g (g t) (suc t) n (λ s from to. same s (omega arith) (omega arith))
    ∙ ap (λ v. changes_from v (suc t) n f) here in
    λ i. unless_same (same_letters (here i) before) (change t (here i)) (rest i)

-- two functions with the same values over a range, and the same value before it
pub changes_in-same : (width : ℕ) (f g : ℕ → List Bit) (t n : ℕ)
    → value_just_before width f t ≡ value_just_before width g t
    → ((s : ℕ) → t ≤ s → s < t + n → f s ≡ g s) → changes_in width g t n ≡ changes_in width f t n
changes_in-same width f g t n before same =
    same_from f g (value_just_before width g t) t n same ∙ ap (λ v. changes_from v t n f) (sym before)

-- ---- the same values elsewhere

map-unless_same : (h : Change → Change) (b : Bool) (c : Change) (xs : List Change)
    → map h (unless_same b c xs) ≡ unless_same b (h c) (map h xs)
map-unless_same h true c xs = refl
map-unless_same h false c xs = refl

-- the values of g at n ticks from u on are those of f from t on, `by` ticks later
moved_from : (f g : ℕ → List Bit) (before : List Bit) (by : ℤ) (t u n : ℕ) → pos u +ℤ by ≡ pos t
    → ((i : ℕ) → i < n → f (t + i) ≡ g (u + i))
    → map (moved_change by) (changes_from before u n g) ≡ changes_from before t n f
unfolding changes_from moved_change
moved_from f g before by t u zero later same = refl
moved_from f g before by t u (suc n) later same =
    let here : g u ≡ f t = ap g {x = u} {y = u + 0} (omega arith) ∙ sym (same 0 (omega arith))
    ∙ ap f {x = t + 0} {y = t} (omega arith) in
    let rest : map (moved_change by) (changes_from (g u) (suc u) n g) ≡ changes_from (f t) (suc t) n f =
    moved_from f g (g u) by (suc t) (suc u) n (omega (arith, ints, later))
    (λ i less. ap f {x = suc t + i} {y = t + suc i} (omega arith) ∙ same (suc i) (omega arith)
    ∙ ap g {x = u + suc i} {y = suc u + i} (omega arith)) ∙ ap (λ v. changes_from v (suc t) n f) here in
    let tick : unsigned_abs (pos u +ℤ by) ≡ t = ap unsigned_abs later in
    map-unless_same (moved_change by) (same_letters (g u) before) (change u (g u)) (changes_from (g u) (suc u) n g)
    ∙ (λ i. unless_same (same_letters (here i) before) (change (tick i) (here i)) (rest i))

pub changes_in-moved : (width : ℕ) (f g : ℕ → List Bit) (by : ℤ) (t u n : ℕ) → pos u +ℤ by ≡ pos t
    → (0 < n → value_just_before width f t ≡ value_just_before width g u) → ((i : ℕ) → i < n → f (t + i) ≡ g (u + i))
    → map (moved_change by) (changes_in width g u n) ≡ changes_in width f t n
unfolding changes_from
changes_in-moved width f g by t u zero later before same = refl
changes_in-moved width f g by t u (suc n) later before same =
    moved_from f g (value_just_before width g u) by t u (suc n) later same
    ∙ ap (λ v. changes_from v t (suc n) f) (sym (before (omega arith)))

-- the values over a range are one value
constant_from : (f : ℕ → List Bit) (v : List Bit) (t n : ℕ) → ((s : ℕ) → t ≤ s → s < t + n → f s ≡ v)
    → changes_from v t n f ≡ []
unfolding changes_from
constant_from f v t zero same = refl
constant_from f v t (suc n) same =
    let here : f t ≡ v = same t (omega arith) (omega arith) in
    put_cases (λ l. l ≡ []) (f t) v (change t (f t)) (changes_from (f t) (suc t) n f)
    (λ _. ap (λ w. changes_from w (suc t) n f) here
    ∙ constant_from f v (suc t) n (λ s from to. same s (omega arith) (omega arith)))
    (λ other. absurd (other here))

pub changes_in-constant : (width : ℕ) (f : ℕ → List Bit) (v : List Bit) (t n : ℕ) → 0 < n
    → ((s : ℕ) → t ≤ s → s < t + n → f s ≡ v)
    → changes_in width f t n ≡ unless_same (same_letters v (value_just_before width f t)) (change t v) []
unfolding changes_from
changes_in-constant width f v t zero some same = absurd (omega arith)
changes_in-constant width f v t (suc n) some same =
    let here : f t ≡ v = same t (omega arith) (omega arith) in
    let rest : changes_from (f t) (suc t) n f ≡ [] =
    ap (λ w. changes_from w (suc t) n f) here
    ∙ constant_from f v (suc t) n (λ s from to. same s (omega arith) (omega arith)) in
    λ i. unless_same (same_letters (here i) (value_just_before width f t)) (change t (here i)) (rest i)

-- ---- the ticks of a range

ticks_from : (before : List Bit) (t n : ℕ) (f : ℕ → List Bit)
    → All (λ c. (t ≤ c.tick) × (c.tick < t + n)) (changes_from before t n f)
unfolding changes_from
ticks_from before t zero f = All-nil (λ (c : Change). (t ≤ c.tick) × (c.tick < t + 0))
ticks_from before t (suc n) f =
    let cs = changes_from (f t) (suc t) n f in
    let rest = All-weaker (λ (c : Change). (suc t ≤ c.tick) × (c.tick < suc t + n))
    (λ (c : Change). (t ≤ c.tick) × (c.tick < t + suc n)) (λ c at. (omega (arith, at.0), omega (arith, at.1))) cs
    (ticks_from (f t) (suc t) n f) in
    put_cases (All (λ c. (t ≤ c.tick) × (c.tick < t + suc n))) (f t) before (change t (f t)) cs (λ _. rest)
    (λ _. All-cons (λ (c : Change). (t ≤ c.tick) × (c.tick < t + suc n)) (change t (f t)) cs
    (omega arith, omega arith) rest)

one_if_before : (a u t : ℕ) → a ≤ u → cond (nat_lt t a) 1 0 ≤ cond (nat_lt t u) 1 0
one_if_before a u t le = grind (arith, nat_tests)

-- a later tick has no fewer changes before it
pub counts_rise : (a u : ℕ) (cs : List Change) → a ≤ u
    → count_by (λ c. nat_lt c.tick a) cs ≤ count_by (λ c. nat_lt c.tick u) cs
counts_rise a u cs le =
    sum_by-le-sum_by (λ (c : Change). cond (nat_lt c.tick a) 1 0) (λ (c : Change). cond (nat_lt c.tick u) 1 0) cs
    (λ c. one_if_before a u c.tick le)

ticks_fit_from : (before : List Bit) (by : ℤ) (u v n : ℕ) (g : ℕ → List Bit) → pos u +ℤ by ≡ pos v → v + n ≤ 2 ^ 64
    → AllTicksFit by (changes_from before u n g)
unfolding TickFits
ticks_fit_from before by u v n g later small = λ k d less.
    let at = ticks_from before u n g k d less in
    (omega (arith, ints, later, at.0), omega (arith, ints, later, small, at.0, at.1))

-- the value after the changes of a range
last_from : (before : List Bit) (t n : ℕ) (f : ℕ → List Bit)
    → last_value before (changes_from before t (suc n) f) ≡ f (t + n)
unfolding changes_from last_value
last_from before t zero f =
    let here : f t ≡ f (t + 0) = ap f {x = t} {y = t + 0} (omega arith) in
    put_cases (λ l. last_value before l ≡ f (t + 0)) (f t) before (change t (f t)) [] (λ same. sym same ∙ here)
    (λ _. here)
last_from before t (suc n) f =
    let later : f (suc t + n) ≡ f (t + suc n) = ap f {x = suc t + n} {y = t + suc n} (omega arith) in
    let rest = changes_from (f t) (suc t) (suc n) f in
    let is = last_from (f t) (suc t) n f ∙ later in
    put_cases (λ l. last_value before l ≡ f (t + suc n)) (f t) before (change t (f t)) rest
    (λ same. subst (λ v. last_value v rest ≡ f (t + suc n)) same is) (λ _. is)

last_of_range : (width : ℕ) (f : ℕ → List Bit) (a : ℕ)
    → last_value (all_x width) (changes_in width f 0 a) ≡ value_just_before width f a
unfolding changes_from last_value
last_of_range width f zero = refl
last_of_range width f (suc t) = last_from (all_x width) 0 t f ∙ ap f {x = 0 + t} {y = t} (omega arith)

-- ---- a wave by ranges

-- a wave is the range of all its ticks
pub wave_is_range : (width end n : ℕ) (cs : List Change) → IsWave width cs → AllUpTo end cs → end < n
    → cs ≡ changes_in width (value_at width cs) 0 n
wave_is_range width end n cs is upto long =
    changes_are (all_x width) 0 n (n - 1) cs (value_at width cs) (omega arith) is.rise
    (upto_from_all (n - 1) cs (λ k d within. omega (arith, all_from_upto end cs upto k d within, long)))
    (λ s _ _. refl)

module _ (width end a n k : ℕ) (cs : List Change) (is : IsWave width cs) (upto : AllUpTo end cs) (long : end < a + n)
    (count : k ≡ count_by (λ c. nat_lt c.tick a) cs) where
  abbrev low : List Change
  low = changes_in width (value_at width cs) 0 a

  abbrev high : List Change
  high = changes_in width (value_at width cs) a n

  parts : cs ≡ low ++ high
  parts =
      wave_is_range width end (a + n) cs is upto long ∙ changes_in-split width (value_at width cs) 0 a n
      ∙ ap (λ u. low ++ changes_in width (value_at width cs) u n) {x = 0 + a} {y = a} (omega arith)

  count_is_length : length low ≡ k
  count_is_length =
      sym (count ∙ ap (count_by (λ c. nat_lt c.tick a)) parts
      ∙ sum_by-append (λ (c : Change). cond (nat_lt c.tick a) 1 0) low high
      ∙ (λ i. count_is (λ c. nat_lt c.tick a) low (length low) no_change (omega arith)
      (λ k less. let at = ticks_from (all_x width) 0 a (value_at width cs) k no_change less in
      lt-ltb (get_or low k no_change).tick a (omega (arith, at.1)))
      (λ k from less. absurd (omega arith)) i
      + count_is (λ c. nat_lt c.tick a) high 0 no_change (omega arith) (λ k less. absurd (omega arith))
      (λ k from less. le-ltb _ a (ticks_from (value_just_before width (value_at width cs) a) a n (value_at width cs) k
      no_change less).0) i)
      ∙ omega arith)

  -- the changes before a tick
  pub changes_before_tick : take k cs ≡ low
  changes_before_tick = ap (take k) parts ∙ take_at low high k count_is_length

  -- the changes from it on
  pub changes_from_tick : drop k cs ≡ high
  changes_from_tick = ap (drop k) parts ∙ drop_at low high k count_is_length

  -- the value after the changes before a tick
  pub last_before_tick : last_value (all_x width) (take k cs) ≡ value_just_before width (value_at width cs) a
  last_before_tick = ap (last_value (all_x width)) changes_before_tick ∙ last_of_range width (value_at width cs) a

-- ---- a piece replaces a range, and the later changes move

module _ (width end : ℕ) (cs : List Change) (is : IsWave width cs) (upto : AllUpTo end cs) (a u m n stop : ℕ)
    (by : ℤ) (f : ℕ → List Bit) (p : PieceView) (long : end < u + n) (all : a + (m + n) ≡ suc stop)
    (from : p.from ≡ count_by (λ c. nat_lt c.tick a) cs) (to : p.to ≡ count_by (λ c. nat_lt c.tick u) cs)
    (later : pos u +ℤ by ≡ pos (a + m)) (offset : p.by ≡ by) where
  -- a piece for the ticks from a to u, after which the changes begin at a + m, gives the changes of f
  pub replacement_leads : a ≤ u → stop < 2 ^ 64
      → ((s : ℕ) → s < a → f s ≡ value_at width cs s) → ((i : ℕ) → i < n → f (a + m + i) ≡ value_at width cs (u + i))
      → (0 < n → value_just_before width f (a + m) ≡ value_just_before width (value_at width cs) u)
      → p.changes ≡ changes_in width f a m → GivesChanges p cs width stop f
  unfolding spliced_changes
  replacement_leads ordered small early late before told =
      let high = changes_from_tick width end u n p.to cs is upto long to in
      let first : take p.from cs ≡ changes_in width f 0 a =
      changes_before_tick width end a (u + n - a) p.from cs is upto (omega arith) from
      ∙ changes_in-same width f (value_at width cs) 0 a refl (λ s _ less. early s (omega arith)) in
      let last : map (moved_change p.by) (drop p.to cs) ≡ changes_in width f (a + m) n =
      (λ i. map (moved_change (offset i)) (high i))
      ∙ changes_in-moved width f (value_at width cs) by (a + m) u n later before late in
      record {
        ordered = omega (arith, from, to, counts_rise a u cs ordered);
        within = omega (arith, to, count_by-le-length (λ (c : Change). nat_lt c.tick u) cs);
        ticks = subst (λ (t : Type 0). t) (λ i. AllTicksFit (sym offset i) (sym high i))
            (ticks_fit_from (value_just_before width (value_at width cs) u) by u (a + m) n (value_at width cs) later
            (omega arith));
        is = (λ i. first i ++ told i ++ last i)
            ∙ append_assoc (changes_in width f 0 a) (changes_in width f a m) (changes_in width f (a + m) n)
            ∙ ap (λ xs. changes_in width f 0 a ++ xs) (sym (changes_in-split width f a m n))
            ∙ ap (λ t. changes_in width f 0 a ++ changes_in width f t (m + n)) {x = a} {y = 0 + a} (omega arith)
            ∙ sym (changes_in-split width f 0 a (m + n)) ∙ ap (changes_in width f 0) all;
      }

-- ==== pieces that replace a whole list of changes

-- the piece of a whole list gives its own changes
pub whole_leads : (p : PieceView) (cs : List Change) (width end : ℕ) (f : ℕ → List Bit) → p.from ≡ 0 → p.to ≡ length cs
    → p.changes ≡ changes_of width end f → GivesChanges p cs width end f
unfolding spliced_changes
whole_leads p cs width end f first last told =
    let none : drop p.to cs ≡ [] = drop_all p.to cs (omega (arith, last)) in
    record {
      ordered = omega (arith, first);
      within = omega (arith, last);
      ticks = subst (AllTicksFit p.by) (sym none) (All-nil (TickFits p.by));
      is = (λ i. take (first i) cs ++ p.changes ++ map (moved_change p.by) (none i)) ∙ append-nil p.changes ∙ told;
    }

-- the changes of one value at all ticks
pub one_value_changes : (width end : ℕ) (f : ℕ → List Bit) (v : List Bit) → ((t : ℕ) → t ≤ end → f t ≡ v)
    → unless_same (same_letters v (all_x width)) (change 0 v) [] ≡ changes_of width end f
one_value_changes width end f v same =
    sym (changes_in-constant width f v 0 (suc end) (omega arith) (λ t _ less. same t (omega arith)))

-- the piece of the whole list of a signal
pub whole_gives : (p : Piece) (k : ℕ) (s : SignalContents) (items : List Change) (end : ℕ) (f : ℕ → List Bit)
    → piece_view p ≡ record { signal = k; from = 0; to = length s.changes; changes = items; by = pos 0 }
    → items ≡ changes_of s.width end f → GivesValues k s end (pos 0) f p
whole_gives p k s items end f is told = record {
  signal = ap (λ (q : PieceView). q.signal) is;
  offset = ap (λ (q : PieceView). q.by) is;
  leads = whole_leads (piece_view p) s.changes s.width end f (ap (λ (q : PieceView). q.from) is)
      (ap (λ (q : PieceView). q.to) is) (ap (λ (q : PieceView). q.changes) is ∙ told);
}

-- ==== the piece of a wave that forces one value at a range of ticks

-- the value before a tick, of two functions that agree on all ticks before it
pub same_before : (width : ℕ) (f g : ℕ → List Bit) (t : ℕ) → ((s : ℕ) → s < t → f s ≡ g s)
    → value_just_before width f t ≡ value_just_before width g t
same_before width f g zero same = refl
same_before width f g (suc t) same = same t (omega arith)

module _ (a b : ℕ) (v : List Bit) (s : SignalContents) where
  abbrev forced : ℕ → List Bit
  forced = force_value a b v s

  pub before_range : (t : ℕ) → t < a → forced t ≡ signal_value s t
  before_range t early = ap (λ p. if p && nat_lt t b then v else signal_value s t) (lt-leb a t early)

  pub after_range : (t : ℕ) → b ≤ t → forced t ≡ signal_value s t
  after_range t late =
      ap (λ p. if p then v else signal_value s t) (and_right (nat_le a t) (nat_lt t b) (le-ltb t b late))

  pub in_range : (t : ℕ) → a ≤ t → t < b → forced t ≡ v
  in_range t from to = (λ i. if le-leb a t from i && lt-ltb t b to i then v else signal_value s t)

  -- the changes at the ticks of the range
  forced_part : a < b → changes_in s.width forced a (b - a)
      ≡ unless_same (same_letters v (value_just_before s.width (signal_value s) a)) (change a v) []
  forced_part some =
      changes_in-constant s.width forced v a (b - a) (omega arith)
      (λ t from to. in_range t from (omega arith))
      ∙ ap (λ w. unless_same (same_letters v w) (change a v) [])
      (same_before s.width forced (signal_value s) a before_range)

  module _ (end : ℕ) (is : IsWave s.width s.changes) (upto : AllUpTo end s.changes) (small : end ≤ END_LIMIT)
      (some : a < b) (p : PieceView) (from : p.from ≡ count_by (λ c. nat_lt c.tick a) s.changes)
      (by : p.by ≡ pos 0) where
    -- up to the end
    pub force_to_end : b ≡ end + 1 → p.to ≡ count_by (λ c. nat_lt c.tick b) s.changes
        → p.changes ≡ [] ++ unless_same (same_letters v (value_just_before s.width (signal_value s) a)) (change a v) []
        → GivesChanges p s.changes s.width end forced
    force_to_end all to told =
        replacement_leads s.width end s.changes is upto a b (b - a) 0 end (pos 0) forced p
        (omega arith) (omega arith) from to (omega (arith, ints)) by (omega arith) (omega (arith, small)) before_range
        (λ i less. absurd (omega arith)) (λ less. absurd (omega arith))
        (told ∙ sym (forced_part some))

    -- the value at the tick after the range is the old one again
    after_part : changes_in s.width forced b 1
        ≡ unless_same (same_letters (signal_value s b) v) (change b (signal_value s b)) []
    after_part =
        changes_in-constant s.width forced (signal_value s b) b 1 (omega arith)
        (λ t from to. after_range t from ∙ ap (signal_value s) {x = t} {y = b} (omega arith))
        ∙ ap (λ w. unless_same (same_letters (signal_value s b) w) (change b (signal_value s b)) [])
        (last_forced b refl)
      where
        last_forced : (t : ℕ) → t ≡ b → value_just_before s.width forced t ≡ v
        last_forced zero is = absurd (omega (arith, some, is))
        last_forced (suc t) is = in_range t (omega (arith, some, is)) (omega (arith, is))

    pub force_before_end : b ≤ end → p.to ≡ count_by (λ c. nat_lt c.tick (b + 1)) s.changes
        → p.changes ≡ [] ++ unless_same (same_letters v (value_just_before s.width (signal_value s) a)) (change a v) []
        ++ unless_same (same_letters (signal_value s b) v) (change b (signal_value s b)) []
        → GivesChanges p s.changes s.width end forced
    force_before_end early to told =
        let parts : changes_in s.width forced a (b - a + 1) ≡ changes_in s.width forced a (b - a)
        ++ changes_in s.width forced b 1 =
        changes_in-split s.width forced a (b - a) 1
        ∙ ap (λ t. changes_in s.width forced a (b - a) ++ changes_in s.width forced t 1) {x = a + (b - a)} {y =
        b} (omega arith) in
        let seam : a + (b - a + 1) ≡ suc b = omega arith in
        replacement_leads s.width end s.changes is upto a (b + 1) (b - a + 1) (end - b) end (pos 0) forced p
        (omega arith) (omega arith) from to (omega (arith, ints)) by (omega arith) (omega (arith, small)) before_range
        (λ i less. after_range (a + (b - a + 1) + i) (omega arith)
        ∙ ap (signal_value s) {x = a + (b - a + 1) + i} {y = b + 1 + i} (omega arith))
        (λ less. ap (value_just_before s.width forced) seam ∙ after_range b (omega arith)
        ∙ sym (ap (value_just_before s.width (signal_value s)) {x = b + 1} {y = suc b} (omega arith)))
        (told ∙ sym (λ i. forced_part some i ++ after_part i) ∙ sym parts)
