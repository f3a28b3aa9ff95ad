-- The due changes before a stamp are the items that are put before it.
use Rattle.std.proofs.Common.{◌≡◌, ◌<◌, ◌≤◌, ◌+◌, ◌==◌, ◌&&◌, not, ℕ, zero, suc, Bool, true, false, List}
use Rattle.std.proofs.Common.{[]}
use Rattle.std.proofs.Common.{◌∷◌, ◌++◌, map, drop, length, Some, None, refl, sym, ap, ap₂, ◌∙◌, arith}
use Rattle.std.proofs.Common.{append_assoc, if◌then◌else◌, All, subst, cond}
use Rattle.std.specs.Prelude.{decimal, slice_index_or}
use Rattle.std.specs.List.{filter, flat_map, range_with_len}
use Rattle.std.proofs.lemmas.Bool.{eq-eqb, ne_eqb, lt-ltb, le-ltb}
use Rattle.std.proofs.lemmas.List.{append_cancel_left, drop_more, length-drop, map-append}
use Rattle.std.proofs.lemmas.List.Elements.{All-nil, All-cons, All-head, All-tail, All-append, All-filter}
use Rattle.std.proofs.lemmas.List.Elements.{filter-append}
use Rattle.vcd_text.specs.Items.{Item, stamp}
use Rattle.vcd_text.specs.Grammar.{ParseState}
use Rattle.vcd_text.specs.Text.{value_item, with_stamp}
use Rattle.vcd_text.specs.inside.writing.Transitions.{Transition, transition_of}
use Rattle.vcd_amend.specs.Amendment.{AmendedCode, Amendment, needs_change, new_value}
use Rattle.vcd_amend.specs.AmendedItems.{file_has_change, due_items, items_due_at, items_due_now}
use Rattle.vcd_amend.specs.inside.amending.CodeProgress.{AllProgressMatches, is_open_by}
use Rattle.vcd_amend.specs.inside.amending.DueChanges.{due_at, due_in, due_item, is_open, no_code}
use Rattle.vcd_amend.specs.inside.amending.DueChanges.{stamped_items, before_tick, from_tick, AreDueFrom}
use Rattle.vcd_amend.specs.declared.amending.code_progress.CodeProgress.{CodeProgress}

-- ---- what is due at a tick, in range

due_tick : (t k : ℕ) (cs : List AmendedCode) → All (λ m. m.tick ≡ t) (due_at k cs t)
unfolding due_at
due_tick t k [] = All-nil (λ (m : Transition). m.tick ≡ t)
due_tick t k (c ∷ cs) = by_need (needs_change c t) (due_tick t (k + 1) cs)
  where
    by_need : (b : Bool) → All (λ (m : Transition). m.tick ≡ t) (due_at (k + 1) cs t)
        → All (λ (m : Transition). m.tick ≡ t) ((if b then transition_of t k ∷ [] else []) ++ due_at (k + 1) cs t)
    by_need true rest = All-cons (λ (m : Transition). m.tick ≡ t) (transition_of t k) (due_at (k + 1) cs t) refl rest
    by_need false rest = rest

due_within : (t k n : ℕ) (cs : List AmendedCode) → k + length cs ≤ n → All (λ m. m.position < n) (due_at k cs t)
unfolding due_at
due_within t k n [] fits = All-nil (λ (m : Transition). m.position < n)
due_within t k n (c ∷ cs) fits = by_need (needs_change c t) (due_within t (k + 1) n cs (omega arith))
  where
    by_need : (b : Bool) → All (λ (m : Transition). m.position < n) (due_at (k + 1) cs t)
        → All (λ (m : Transition). m.position < n) ((if b then transition_of t k ∷ [] else []) ++ due_at (k + 1) cs t)
    by_need true rest = All-cons (λ (m : Transition). m.position < n) (transition_of t k) (due_at (k + 1) cs t)
        (omega arith) rest
    by_need false rest = rest

-- a transition from a tick on to before another, of an amended code
pub record IsWithin (cs : List AmendedCode) (low high : ℕ) (m : Transition) : Type 0 where
  pub from : low ≤ m.tick
  pub to : m.tick < high
  pub position : m.position < length cs

both_within : (cs : List AmendedCode) (t from to : ℕ) (ms : List Transition) → from ≤ t → t < to
    → All (λ m. m.tick ≡ t) ms → All (λ m. m.position < length cs) ms → All (IsWithin cs from to) ms
both_within cs t from to [] low high ticks positions = All-nil (IsWithin cs from to)
both_within cs t from to (m ∷ ms) low high ticks positions =
    let at = All-head (λ (x : Transition). x.tick ≡ t) m ms ticks in
    All-cons (IsWithin cs from to) m ms (record {
      from = omega (arith, at, low);
      to = omega (arith, at, high);
      position = All-head (λ (x : Transition). x.position < length cs) m ms positions;
    }) (both_within cs t from to ms low high (All-tail (λ (x : Transition). x.tick ≡ t) m ms ticks)
    (All-tail (λ (x : Transition). x.position < length cs) m ms positions))

pub in_within : (cs : List AmendedCode) (from to t n : ℕ) → from ≤ t → t + n ≤ to → All (IsWithin cs from to)
    (due_in cs t n)
unfolding due_in
in_within cs from to t zero low high = All-nil (IsWithin cs from to)
in_within cs from to t (suc n) low high = All-append (IsWithin cs from to) (due_at 0 cs t) (due_in cs (suc t) n)
    (both_within cs t from to (due_at 0 cs t) low (omega arith) (due_tick t 0 cs)
    (due_within t 0 (length cs) cs (omega arith)))
    (in_within cs from to (suc t) n (omega arith) (omega arith))

-- ---- a list in two

pub before_is : (cs : List AmendedCode) (from t : ℕ) (ms rest : List Transition) → All (IsWithin cs from t) ms
    → All (λ m. t ≤ m.tick) rest → before_tick t (ms ++ rest) ≡ ms
unfolding before_tick
before_is cs from t [] [] early late = refl
before_is cs from t [] (m ∷ rest) early late =
    ap (λ (b : Bool). if b then m ∷ before_tick t rest else [])
    (le-ltb m.tick t (All-head (λ (x : Transition). t ≤ x.tick) m rest late))
before_is cs from t (m ∷ ms) rest early late =
    ap (λ (b : Bool). if b then m ∷ before_tick t (ms ++ rest) else [])
    (lt-ltb m.tick t (All-head (IsWithin cs from t) m ms early).to)
    ∙ ap (λ l. m ∷ l) (before_is cs from t ms rest (All-tail (IsWithin cs from t) m ms early) late)

pub from_is : (cs : List AmendedCode) (from t : ℕ) (ms rest : List Transition) → All (IsWithin cs from t) ms
    → All (λ m. t ≤ m.tick) rest → from_tick t (ms ++ rest) ≡ rest
unfolding from_tick
from_is cs from t [] [] early late = refl
from_is cs from t [] (m ∷ rest) early late =
    ap (λ (b : Bool). if b then from_tick t rest else m ∷ rest)
    (le-ltb m.tick t (All-head (λ (x : Transition). t ≤ x.tick) m rest late))
from_is cs from t (m ∷ ms) rest early late =
    ap (λ (b : Bool). if b then from_tick t (ms ++ rest) else m ∷ (ms ++ rest))
    (lt-ltb m.tick t (All-head (IsWithin cs from t) m ms early).to)
    ∙ from_is cs from t ms rest (All-tail (IsWithin cs from t) m ms early) late

in_two : (cs : List AmendedCode) (t n m : ℕ) → due_in cs t (n + m) ≡ due_in cs t n ++ due_in cs (t + n) m
unfolding due_in
in_two cs t zero m = ap₂ (due_in cs) (let e : t ≡ t + 0 = omega arith in e) (let e : 0 + m ≡ m = omega arith in e)
in_two cs t (suc n) m =
    ap (due_in cs t) (let e : suc n + m ≡ suc (n + m) = omega arith in e)
    ∙ ap (λ l. due_at 0 cs t ++ l) (in_two cs (suc t) n m
    ∙ ap (λ u. due_in cs (suc t) n ++ due_in cs u m) (let e : suc t + n ≡ t + suc n = omega arith in e))
    ∙ sym (append_assoc (due_at 0 cs t) (due_in cs (suc t) n) (due_in cs (t + suc n) m))

-- the due changes before a later tick, and those that are left
pub due_before_tick : (cs : List AmendedCode) (t n : ℕ) (ms : List Transition) → AreDueFrom cs t ms
    → before_tick (t + n) ms ≡ due_in cs t n
due_before_tick cs t n ms due =
    ap (before_tick (t + n)) (due n).split
    ∙ before_is cs t (t + n) (due_in cs t n) (due n).rest (in_within cs t (t + n) t n (omega arith) (omega arith))
    (due n).later

pub due_later : (cs : List AmendedCode) (t n : ℕ) (ms : List Transition) → AreDueFrom cs t ms
    → AreDueFrom cs (t + n) (from_tick (t + n) ms)
due_later cs t n ms due m =
    let rest_is : from_tick (t + n) ms ≡ (due n).rest =
    ap (from_tick (t + n)) (due n).split
    ∙ from_is cs t (t + n) (due_in cs t n) (due n).rest (in_within cs t (t + n) t n (omega arith) (omega arith))
    (due n).later in
    let two : due_in cs t n ++ (due n).rest ≡ due_in cs t n ++ (due_in cs (t + n) m ++ (due (n + m)).rest) =
    sym (due n).split ∙ (due (n + m)).split ∙ ap (λ l. l ++ (due (n + m)).rest) (in_two cs t n m)
    ∙ append_assoc (due_in cs t n) (due_in cs (t + n) m) (due (n + m)).rest in
    record {
      rest = (due (n + m)).rest;
      split = rest_is ∙ append_cancel_left (due_in cs t n) (due n).rest (due_in cs (t + n) m ++ (due (n + m)).rest) two;
      later = subst (λ x. All (λ (k : Transition). x ≤ k.tick) (due (n + m)).rest)
          (let e : t + (n + m) ≡ t + n + m = omega arith in e) (due (n + m)).later;
    }

-- ---- their items

code_from : (all : List AmendedCode) (k : ℕ) (c : AmendedCode) (cs : List AmendedCode) → drop k all ≡ c ∷ cs
    → (slice_index_or all k no_code ≡ c) × (drop (k + 1) all ≡ cs)
code_from all k c cs at =
    let within : k < length all = omega (arith, ap (λ (l : List AmendedCode). length l) at, length-drop k all) in
    let both = sym (drop_more all k no_code within) ∙ at in
    (cc, cc)

pub at_items : (s : ParseState) (all : List AmendedCode) (k : ℕ) (cs : List AmendedCode) (t : ℕ) → drop k all ≡ cs
    → map (due_item all) (filter (is_open s all) (due_at k cs t)) ≡ flat_map (due_items s t) cs
unfolding due_at
at_items s all k [] t at = refl
at_items s all k (c ∷ cs) t at =
    let here = code_from all k c cs at in
    let p = is_open s all in
    let f = due_item all in
    let first : List Transition = if needs_change c t then transition_of t k ∷ [] else [] in
    ap (map f) (filter-append p first (due_at (k + 1) cs t))
    ∙ map-append f (filter p first) (filter p (due_at (k + 1) cs t))
    ∙ ap₂ (λ x y. x ++ y) (by_need (needs_change c t) here.0) (at_items s all (k + 1) cs t here.1)
  where
    by_open : (b : Bool) (m : Transition) (i : Item) → due_item all m ≡ i
        → map (due_item all) (if b then m ∷ [] else []) ≡ (if b then i ∷ [] else [])
    by_open true m i same = ap (λ x. x ∷ []) same
    by_open false m i same = refl

    by_need : (b : Bool) → slice_index_or all k no_code ≡ c
        → map (due_item all) (filter (is_open s all) (if b then transition_of t k ∷ [] else []))
        ≡ (if b && not (file_has_change s c.code t) then value_item c.code (new_value c t) ∷ [] else [])
    by_need true same =
        by_open (is_open s all (transition_of t k)) (transition_of t k) (value_item c.code (new_value c t))
        (ap (λ (x : AmendedCode). value_item x.code (new_value x t)) same)
        ∙ ap (λ (x : AmendedCode). if not (file_has_change s x.code t) then value_item c.code (new_value c t) ∷ [] else
        []) same
    by_need false same = refl

-- ---- with their stamps

-- those of one tick after its stamp
group_on : (all : List AmendedCode) (t : ℕ) (ms rest : List Transition) → All (λ m. m.tick ≡ t) ms
    → stamped_items all (Some t) (ms ++ rest) ≡ map (due_item all) ms ++ stamped_items all (Some t) rest
unfolding stamped_items
group_on all t [] rest at = refl
group_on all t (m ∷ ms) rest at =
    let here = All-head (λ (x : Transition). x.tick ≡ t) m ms at in
    ap (λ (b : Bool). (if b then [] else stamp (decimal m.tick) ∷ []) ++ due_item all m
    ∷ stamped_items all (Some m.tick) (ms ++ rest)) (eq-eqb t m.tick (sym here))
    ∙ ap (λ (u : ℕ). due_item all m ∷ stamped_items all (Some u) (ms ++ rest)) here
    ∙ ap (λ l. due_item all m ∷ l) (group_on all t ms rest (All-tail (λ (x : Transition). x.tick ≡ t) m ms at))

-- a last stamp before them does not matter
fresh : (all : List AmendedCode) (t : ℕ) (ms : List Transition) → All (λ m. suc t ≤ m.tick) ms
    → stamped_items all (Some t) ms ≡ stamped_items all None ms
unfolding stamped_items
fresh all t [] later = refl
fresh all t (m ∷ ms) later =
    let here : suc t ≤ m.tick = All-head (λ (x : Transition). suc t ≤ x.tick) m ms later in
    ap (λ (b : Bool). (if b then [] else stamp (decimal m.tick) ∷ []) ++ due_item all m
    ∷ stamped_items all (Some m.tick) ms) (ne_eqb t m.tick (λ same. omega (arith, same, here)))

-- those of a tick that has no stamp yet
group_new : (all : List AmendedCode) (t : ℕ) (ms rest : List Transition) → All (λ m. m.tick ≡ t) ms
    → All (λ m. suc t ≤ m.tick) rest
    → stamped_items all None (ms ++ rest) ≡ with_stamp false t (map (due_item all) ms) ++ stamped_items all None rest
unfolding stamped_items
group_new all t [] rest at later = refl
group_new all t (m ∷ ms) rest at later =
    let here = All-head (λ (x : Transition). x.tick ≡ t) m ms at in
    ap (λ (u : ℕ). stamp (decimal u) ∷ due_item all m ∷ stamped_items all (Some u) (ms ++ rest)) here
    ∙ ap (λ l. stamp (decimal t) ∷ due_item all m ∷ l)
    (group_on all t ms rest (All-tail (λ (x : Transition). x.tick ≡ t) m ms at)
    ∙ ap (λ l. map (due_item all) ms ++ l) (fresh all t rest later))

module _ (a : Amendment) (s : ParseState) (none_yet : Bool) where
  -- what is put at a tick
  abbrev tick_items : ℕ → List Item
  tick_items t = if t == s.tick then items_due_now a none_yet s else with_stamp false t (items_due_at a s t)

  abbrev opened : List Transition → List Transition
  opened ms = filter (is_open s a.codes) ms

  later_open : (t n : ℕ) → All (λ m. suc t ≤ m.tick) (opened (due_in a.codes (suc t) n))
  later_open t n = All-filter (is_open s a.codes) (λ (m : Transition). suc t ≤ m.tick) (due_in a.codes (suc t) n)
      (from_all (due_in a.codes (suc t) n) (in_within a.codes (suc t) (suc t + n) (suc t) n (omega arith) (omega
      arith)))
    where
      from_all : (ms : List Transition) → All (IsWithin a.codes (suc t) (suc t + n)) ms
          → All (λ (m : Transition). suc t ≤ m.tick) ms
      from_all [] all = All-nil (λ (m : Transition). suc t ≤ m.tick)
      from_all (m ∷ ms) all = All-cons (λ (x : Transition). suc t ≤ x.tick) m ms
          (All-head (IsWithin a.codes (suc t) (suc t + n)) m ms all).from
          (from_all ms (All-tail (IsWithin a.codes (suc t) (suc t + n)) m ms all))

  open_tick : (t : ℕ) → All (λ m. m.tick ≡ t) (opened (due_at 0 a.codes t))
  open_tick t = All-filter (is_open s a.codes) (λ (m : Transition). m.tick ≡ t) (due_at 0 a.codes t)
      (due_tick t 0 a.codes)

  later_items : (t n : ℕ) → s.tick < t
      → stamped_items a.codes None (opened (due_in a.codes t n)) ≡ flat_map tick_items (range_with_len t n)
  unfolding due_in stamped_items
  later_items t zero later = refl
  later_items t (suc n) later =
      let rest = due_in a.codes (suc t) n in
      let here : tick_items t ≡ with_stamp false t (items_due_at a s t) =
      ap (λ (b : Bool). if b then items_due_now a none_yet s else with_stamp false t (items_due_at a s t))
      (ne_eqb t s.tick (λ same. omega (arith, same, later))) in
      ap (stamped_items a.codes None) (filter-append (is_open s a.codes) (due_at 0 a.codes t) rest)
      ∙ group_new a.codes t (opened (due_at 0 a.codes t)) (opened rest) (open_tick t) (later_open t n)
      ∙ ap₂ (λ x y. x ++ y) (ap (with_stamp false t) (at_items s a.codes 0 a.codes t refl) ∙ sym here)
      (later_items (suc t) n (omega arith)
      ∙ ap (λ u. flat_map tick_items (range_with_len u n)) (let e : suc t ≡ t + 1 = omega arith in e))

  -- the items before a stamp
  pub until_items : (n : ℕ) → stamped_items a.codes (if none_yet then None else Some s.tick)
      (opened (due_in a.codes s.tick n))
      ≡ flat_map tick_items (range_with_len s.tick n)
  unfolding due_in stamped_items
  until_items zero = refl
  until_items (suc n) =
      let t = s.tick in
      let rest = due_in a.codes (suc t) n in
      let here : tick_items t ≡ items_due_now a none_yet s =
      ap (λ (b : Bool). if b then items_due_now a none_yet s else with_stamp false t (items_due_at a s t))
      (eq-eqb t t refl) in
      ap (stamped_items a.codes (if none_yet then None else Some t))
      (filter-append (is_open s a.codes) (due_at 0 a.codes t) rest)
      ∙ by_none none_yet ∙ ap₂ (λ x y. x ++ y) (sym here)
      (later_items (suc t) n (omega arith)
      ∙ ap (λ u. flat_map tick_items (range_with_len u n)) (let e : suc t ≡ t + 1 = omega arith in e))
    where
      by_none : (b : Bool) → stamped_items a.codes (if b then None else Some s.tick)
          (opened (due_at 0 a.codes s.tick) ++ opened (due_in a.codes (suc s.tick) n))
          ≡ items_due_now a b s ++ stamped_items a.codes None (opened (due_in a.codes (suc s.tick) n))
      by_none true = group_new a.codes s.tick (opened (due_at 0 a.codes s.tick))
          (opened (due_in a.codes (suc s.tick) n))
          (open_tick s.tick) (later_open s.tick n)
          ∙ ap (λ x. with_stamp false s.tick x ++ stamped_items a.codes None (opened (due_in a.codes (suc s.tick) n)))
          (at_items s a.codes 0 a.codes s.tick refl)
      by_none false = group_on a.codes s.tick (opened (due_at 0 a.codes s.tick))
          (opened (due_in a.codes (suc s.tick) n))
          (open_tick s.tick)
          ∙ ap₂ (λ x y. x ++ y) (at_items s a.codes 0 a.codes s.tick refl)
          (fresh a.codes s.tick (opened (due_in a.codes (suc s.tick) n)) (later_open s.tick n))

-- ---- whether they are open, by what the file has had

pub open_same : (s : ParseState) (cs : List AmendedCode) (ps : List CodeProgress) (to : ℕ) (ms : List Transition)
    → AllProgressMatches s cs ps → All (IsWithin cs s.tick to) ms → filter (is_open_by ps) ms ≡ filter (is_open s cs) ms
open_same s cs ps to [] progress within = refl
open_same s cs ps to (m ∷ ms) progress within =
    let here = All-head (IsWithin cs s.tick to) m ms within in
    let rest = open_same s cs ps to ms progress (All-tail (IsWithin cs s.tick to) m ms within) in
    let same : is_open_by ps m ≡ is_open s cs m =
    ap not (sym ((progress.each m.position here.position).changes m.tick here.from)) in
    ap (λ b. cond b (m ∷ filter (is_open_by ps) ms) (filter (is_open_by ps) ms)) same
    ∙ ap (λ l. cond (is_open s cs m) (m ∷ l) l) rest
