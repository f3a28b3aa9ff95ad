-- Changes of lines in turn: the letters after each, and the edges at their ticks.
use Rattle.std.proofs.Common.{◌≡◌, ℕ, zero, suc, ◌+◌, ◌-◌, ◌<◌, ◌≤◌, ◌==◌, ◌&&◌, ◌||◌, nat_le, Bool, true, false}
use Rattle.std.proofs.Common.{if◌then◌else◌, cond, inl, inr, Option, Some, None, List, [], ◌∷◌, map, get_or, set}
use Rattle.std.proofs.Common.{refl, sym, ap, subst, ◌∙◌, arith, eq-eqb}
use Rattle.std.specs.List.{enumerate_from, filter, list_any, range_with_len}
use Rattle.std.specs.Option.{is_some, option_map}
use Rattle.std.proofs.lemmas.Bool.{lt-ltb, le-ltb, le-leb, lt-leb, ne_eqb, cases_lt, or_parts, both_ways}
use Rattle.vcd_core.specs.declared.bit.Bit.{Bit}
use Rattle.vcd_core.specs.declared.bit.Bit.TheVariants.{X}
use Rattle.vcd_core.specs.declared.bit_edges.BitEdge.{BitEdge}
use Rattle.vcd_decode.specs.declared.edge_maker.LineChange.{LineChange}
use Rattle.vcd_decode.specs.declared.edge_maker.EdgeMaker.{EdgeMaker}
use Rattle.vcd_decode.specs.Lines.{letter_before}
use Rattle.vcd_decode.specs.LineEdges.{line_edge, AreEdgesOf}
use Rattle.vcd_decode.specs.LineChanges.{letter_from, letter_of_line, lines_fed, InOrder}
use Rattle.vcd_decode.specs.inside.EdgeMaker.{first_letters, letters_after, edge_of_maker, edges_left}

-- ---- the letters after a change

module _ (c : LineChange) where
  abbrev after : ℕ → List (Option Bit) → List (Option Bit)
  after j os = map (λ p. if c.line == p.0 then option_map (λ b. c.letter) p.1 else p.1) (enumerate_from j os)

  past : (os : List (Option Bit)) (j : ℕ) → c.line < j → os ≡ after j os
  past [] j less = refl
  past (o ∷ os) j less =
      rw (ne_eqb c.line j (λ same. omega (arith, same, less)))
      (ap (λ (xs : List (Option Bit)). o ∷ xs) (past os (j + 1) (omega arith)))

  -- the letter of a line that is present is put in its place
  pub put : (os : List (Option Bit)) (k j : ℕ) → c.line ≡ j + k → is_some (get_or os k None) ≡ true
      → set os k (Some c.letter) ≡ after j os
  put [] k j at some = absurd (cc)
  put (None ∷ os) zero j at some = absurd (cc)
  put (Some b ∷ os) zero j at some =
      rw (eq-eqb c.line j (omega (arith, at)))
      (ap (λ (xs : List (Option Bit)). Some c.letter ∷ xs) (past os (j + 1) (omega (arith, at))))
  put (o ∷ os) (suc k) j at some =
      rw (ne_eqb c.line j (λ same. omega (arith, same, at)))
      (ap (λ (xs : List (Option Bit)). o ∷ xs) (put os k (j + 1) (omega (arith, at)) some))

  -- no letter changes if the line is absent
  pub kept : (os : List (Option Bit)) (k j : ℕ) → c.line ≡ j + k → is_some (get_or os k None) ≡ false
      → os ≡ after j os
  kept [] k j at none = refl
  kept (None ∷ os) zero j at none =
      rw (eq-eqb c.line j (omega (arith, at)))
      (ap (λ (xs : List (Option Bit)). None ∷ xs) (past os (j + 1) (omega (arith, at))))
  kept (Some b ∷ os) zero j at none = absurd (cc)
  kept (o ∷ os) (suc k) j at none =
      rw (ne_eqb c.line j (λ same. omega (arith, same, at)))
      (ap (λ (xs : List (Option Bit)). o ∷ xs) (kept os k (j + 1) (omega (arith, at)) none))

-- ---- the letters of lines at a tick

-- the letters at a tick, by those before the changes
abbrev letters_at : List (Option Bit) → List LineChange → ℕ → List (Option Bit)
letters_at os [] t = os
letters_at os (c ∷ cs) t = letters_at (if nat_le c.tick t then letters_after os c else os) cs t

-- what letters of lines become, each by its position
abbrev each_line : (ℕ → Bit → Bit) → ℕ → List (Option Bit) → List (Option Bit)
each_line g j os = map (λ p. option_map (g p.0) p.1) (enumerate_from j os)

each_same : (os : List (Option Bit)) (j : ℕ) → each_line (λ k b. b) j os ≡ os
each_same [] j = refl
each_same (None ∷ os) j = ap (λ (xs : List (Option Bit)). None ∷ xs) (each_same os (j + 1))
each_same (Some b ∷ os) j = ap (λ (xs : List (Option Bit)). Some b ∷ xs) (each_same os (j + 1))

module _ (c : LineChange) (g : ℕ → Bit → Bit) where
  one_change : (test : Bool) (k : ℕ) (o : Option Bit)
      → option_map (λ b. g k (if test && true then c.letter else b)) o
      ≡ option_map (g k) (if test then option_map (λ b. c.letter) o else o)
  one_change true k None = refl
  one_change false k None = refl
  one_change true k (Some b) = refl
  one_change false k (Some b) = refl

  step_come : (os : List (Option Bit)) (j : ℕ)
      → each_line (λ k b. g k (if (c.line == k) && true then c.letter else b)) j os ≡ each_line g j (after c j os)
  step_come [] j = refl
  step_come (o ∷ os) j = λ i. one_change (c.line == j) j o i ∷ step_come os (j + 1) i

  no_change : (test : Bool) (k : ℕ) (o : Option Bit)
      → option_map (λ b. g k (if test && false then c.letter else b)) o ≡ option_map (g k) o
  no_change true k o = refl
  no_change false k o = refl

  step_later : (os : List (Option Bit)) (j : ℕ)
      → each_line (λ k b. g k (if (c.line == k) && false then c.letter else b)) j os ≡ each_line g j os
  step_later [] j = refl
  step_later (o ∷ os) j = λ i. no_change (c.line == j) j o i ∷ step_later os (j + 1) i

  one_step : (come : Bool) (os : List (Option Bit))
      → each_line (λ k b. g k (if (c.line == k) && come then c.letter else b)) 0 os
      ≡ each_line g 0 (if come then letters_after os c else os)
  one_step true os = step_come os 0
  one_step false os = step_later os 0

by_line : (cs : List LineChange) (os : List (Option Bit)) (t : ℕ)
    → each_line (λ k b. letter_from b k cs t) 0 os ≡ letters_at os cs t
unfolding letter_from
by_line [] os t = each_same os 0
by_line (c ∷ cs) os t =
    one_step c (λ k b. letter_from b k cs t) (nat_le c.tick t) os
    ∙ by_line cs (if nat_le c.tick t then letters_after os c else os) t

module _ (fed : List LineChange) where
  each_fed : (present : List Bool) (j t : ℕ)
      → map (option_map (λ f. f t)) (map (λ p. if p.1 then Some (letter_of_line p.0 fed) else None)
      (enumerate_from j present)) ≡ each_line (λ k b. letter_from b k fed t) j (first_letters present)
  each_fed [] j t = refl
  each_fed (true ∷ present) j t =
      ap (λ (xs : List (Option Bit)). Some (letter_from X j fed t) ∷ xs) (each_fed present (j + 1) t)
  each_fed (false ∷ present) j t = ap (λ (xs : List (Option Bit)). None ∷ xs) (each_fed present (j + 1) t)

  fed_before_all : (present : List Bool) (j : ℕ)
      → map (option_map (λ f. letter_before f 0)) (map (λ p. if p.1 then Some (letter_of_line p.0 fed) else None)
      (enumerate_from j present)) ≡ first_letters present
  fed_before_all [] j = refl
  fed_before_all (true ∷ present) j = ap (λ (xs : List (Option Bit)). Some X ∷ xs) (fed_before_all present (j + 1))
  fed_before_all (false ∷ present) j = ap (λ (xs : List (Option Bit)). None ∷ xs) (fed_before_all present (j + 1))

  letters_fed : (present : List Bool) (t : ℕ)
      → map (option_map (λ f. f t)) (lines_fed present fed) ≡ letters_at (first_letters present) fed t
  letters_fed present t = each_fed present 0 t ∙ by_line fed (first_letters present) t

-- ---- the edges at ticks

module _ (f g : ℕ → BitEdge) (p q : ℕ → Bool) where
  item_same : (test : Bool) (t : ℕ) (xs ys : List ℕ) → f t ≡ g t → map f xs ≡ map g ys
      → map f (cond test (t ∷ xs) xs) ≡ map g (cond test (t ∷ ys) ys)
  item_same true t xs ys here later = λ i. here i ∷ later i
  item_same false t xs ys here later = later

  -- functions that are the same from a tick on
  same_from : (t n : ℕ) → ((s : ℕ) → t ≤ s → p s ≡ q s) → ((s : ℕ) → t ≤ s → f s ≡ g s)
      → map f (filter p (range_with_len t n)) ≡ map g (filter q (range_with_len t n))
  same_from t zero tests values = refl
  same_from t (suc n) tests values = rw (tests t (omega arith)) (item_same (q t) t _ _ (values t (omega arith))
      (same_from (t + 1) n (λ s from. tests s (omega arith)) (λ s from. values s (omega arith))))

-- ticks that are not shown
skip : (p : ℕ → Bool) (t k n : ℕ) → ((s : ℕ) → t ≤ s → s < t + k → p s ≡ false)
    → filter p (range_with_len t (k + n)) ≡ filter p (range_with_len (t + k) n)
skip p t zero n none =
    let size : zero + n ≡ n = omega arith in
    let start : t ≡ t + zero = omega arith in
    λ i. filter p (range_with_len (start i) (size i))
skip p t (suc k) n none =
    let size : suc k + n ≡ suc (k + n) = omega arith in
    let next : t + 1 + k ≡ t + suc k = omega arith in
    ap (λ m. filter p (range_with_len t m)) size ∙ rw (none t (omega arith) (omega arith))
    (skip p (t + 1) k n (λ s from below. none s (omega arith) (omega arith))
    ∙ ap (λ s. filter p (range_with_len s n)) next)

-- whether a tick is that of a maker or of a change
abbrev is_shown : ℕ → List LineChange → ℕ → Bool
is_shown tick cs t = (t == tick) || list_any (λ c. t == c.tick) cs

-- the letters before a tick: those before a maker's tick up to it
abbrev letters_before : List (Option Bit) → List (Option Bit) → ℕ → List LineChange → ℕ → List (Option Bit)
letters_before before at tick cs t = if nat_le t tick then before else letters_at at cs (t - 1)

abbrev edge_at : List (Option Bit) → List (Option Bit) → ℕ → List LineChange → ℕ → BitEdge
edge_at before at tick cs t = record {
  tick = t;
  before = letters_before before at tick cs t;
  at = letters_at at cs t;
}

-- no letter changes before the first change
letters_early : (at : List (Option Bit)) (cs : List LineChange) (from end t : ℕ) → InOrder from end cs → t < from
    → letters_at at cs t ≡ at
letters_early at [] from end t order less = refl
letters_early at (c ∷ cs) from end t (first, within, rest) less =
    rw (lt-leb c.tick t (omega arith)) (letters_early at cs c.tick end t rest (omega arith))

abbrev maker : List (Option Bit) → List (Option Bit) → ℕ → EdgeMaker
maker before at tick = record { before = before; at = at; tick = tick }

none_shown : (cs : List LineChange) (from end t : ℕ) → InOrder from end cs → t < from
    → list_any (λ c. t == c.tick) cs ≡ false
none_shown [] from end t order less = refl
none_shown (c ∷ cs) from end t (first, within, rest) less =
    rw (ne_eqb t c.tick (λ same. omega (arith, same, first, less)))
    (none_shown cs c.tick end t rest (omega arith))

or_same : (a b : Bool) → a || (a || b) ≡ a || b
or_same true b = refl
or_same false b = refl

none_after : (p : ℕ → Bool) (t n : ℕ) → ((s : ℕ) → t ≤ s → p s ≡ false) → filter p (range_with_len t n) ≡ []
none_after p t zero none = refl
none_after p t (suc n) none = rw (none t (omega arith)) (none_after p (t + 1) n (λ s from. none s (omega arith)))

module _ (f : ℕ → BitEdge) (p : ℕ → Bool) where
  first_shown : (t n : ℕ) (xs : List BitEdge) → p t ≡ true → map f (filter p (range_with_len (t + 1) n)) ≡ xs
      → f t ∷ xs ≡ map f (filter p (range_with_len t (suc n)))
  first_shown t n xs shown later = rw shown (ap (λ (es : List BitEdge). f t ∷ es) (sym later))

here_is : (before at : List (Option Bit)) (tick : ℕ) (cs : List LineChange) → letters_at at cs tick ≡ at
    → edge_of_maker (maker before at tick) ≡ edge_at before at tick cs tick
here_is before at tick cs same =
    let first : nat_le tick tick ≡ true = le-leb tick tick (omega arith) in
    λ i. record {
      tick = tick;
      before = sym (ap (λ b. if b then before else letters_at at cs (tick - 1)) first) i;
      at = sym same i;
    }

shown_here : (tick : ℕ) (cs : List LineChange) → is_shown tick cs tick ≡ true
shown_here tick cs = ap (λ b. b || list_any (λ c. tick == c.tick) cs) (eq-eqb tick tick refl)

-- from the tick of a change on, it has come
come : (at : List (Option Bit)) (c : LineChange) (cs : List LineChange) (t : ℕ) → c.tick ≤ t
    → letters_at at (c ∷ cs) t ≡ letters_at (letters_after at c) cs t
come at c cs t from = ap (λ b. letters_at (if b then letters_after at c else at) cs t) (le-leb c.tick t from)

module _ (c : LineChange) (cs : List LineChange) (before at : List (Option Bit)) (tick : ℕ) where
  -- a change at the tick of the maker
  same_before : (t : ℕ) → c.tick ≤ tick → letters_before before at tick (c ∷ cs) t
      ≡ letters_before before (letters_after at c) tick cs t
  same_before t now = elim (cases_lt tick t) [
    | inl past ↦ rw (lt-leb t tick past) (come at c cs (t - 1) (omega (arith, past, now)))
    | inr upto ↦ rw (le-leb t tick upto) refl
  ]

  same_edge : (t : ℕ) → c.tick ≡ tick → tick ≤ t
      → edge_at before at tick (c ∷ cs) t ≡ edge_at before (letters_after at c) tick cs t
  same_edge t now from =
      let first = same_before t (omega (arith, now)) in
      let here = come at c cs t (omega (arith, now, from)) in
      λ i. record { tick = t; before = first i; at = here i }

  -- a later change
  later_before : (end t : ℕ) → tick < c.tick → c.tick ≤ t → c.tick ≤ end → InOrder c.tick end cs
      → letters_before before at tick (c ∷ cs) t ≡ letters_before at (letters_after at c) c.tick cs t
  later_before end t later from within rest =
      rw (lt-leb t tick (omega (arith, later, from))) (elim (cases_lt c.tick t) [
        | inl past ↦ rw (lt-leb t c.tick past) (come at c cs (t - 1) (omega (arith, past)))
        | inr upto ↦ rw (le-leb t c.tick upto) (letters_early at (c ∷ cs) c.tick end (t - 1)
            (omega arith, within, rest) (omega (arith, later, from, upto)))
      ])

  later_edge : (end t : ℕ) → tick < c.tick → c.tick ≤ t → c.tick ≤ end → InOrder c.tick end cs
      → edge_at before at tick (c ∷ cs) t ≡ edge_at at (letters_after at c) c.tick cs t
  later_edge end t later from within rest =
      let first = later_before end t later from within rest in
      let here = come at c cs t from in
      λ i. record { tick = t; before = first i; at = here i }

-- the edges of a maker are those at the ticks shown
edges_are : (cs : List LineChange) (before at : List (Option Bit)) (tick n end : ℕ) → tick + n ≡ end
    → InOrder tick end cs → edges_left (maker before at tick) cs
    ≡ map (edge_at before at tick cs) (filter (is_shown tick cs) (range_with_len tick (suc n)))
unfolding edges_left
edges_are [] before at tick n end all order =
    (λ i. here_is before at tick [] refl i ∷ [])
    ∙ first_shown (edge_at before at tick []) (is_shown tick []) tick n [] (shown_here tick [])
    (ap (map (edge_at before at tick [])) (none_after (is_shown tick []) (tick + 1) n
    (λ s from. ap (λ b. b || false) (ne_eqb s tick (λ same. omega (arith, same, from))))))
edges_are (c ∷ cs) before at tick n end all (first, within, rest) = elim (cases_lt tick c.tick) [
  | inl later ↦
      let skipped : ℕ = c.tick - (tick + 1) in
      let left : ℕ = end - c.tick in
      let size : n ≡ skipped + suc left = omega (arith, all, later, within) in
      let next : tick + 1 + skipped ≡ c.tick = omega (arith, later) in
      let f = edge_at before at tick (c ∷ cs) in
      let p = is_shown tick (c ∷ cs) in
      rw (lt-ltb tick c.tick later) (
      (λ i. here_is before at tick (c ∷ cs) (letters_early at (c ∷ cs) c.tick end tick
      (omega arith, within, rest) later) i ∷ edges_left (maker at (letters_after at c) c.tick) cs)
      ∙ first_shown f p tick n (edges_left (maker at (letters_after at c) c.tick) cs) (shown_here tick (c ∷ cs))
      (ap (λ m. map f (filter p (range_with_len (tick + 1) m))) size
      ∙ ap (map f) (skip p (tick + 1) skipped (suc left) (λ s from below. rw (ne_eqb s tick
      (λ same. omega (arith, same, from))) (none_shown (c ∷ cs) c.tick end s (omega arith, within, rest)
      (omega (arith, below, next)))))
      ∙ ap (λ t. map f (filter p (range_with_len t (suc left)))) next
      ∙ same_from f (edge_at at (letters_after at c) c.tick cs) p (is_shown c.tick cs) c.tick (suc left)
      (λ s from. rw (ne_eqb s tick (λ same. omega (arith, same, later, from))) refl)
      (λ s from. later_edge c cs before at tick end s later from within rest)
      ∙ sym (edges_are cs at (letters_after at c) c.tick left end (omega (arith, within)) rest))
      )
  | inr upto ↦
      let now : c.tick ≡ tick = omega (arith, first, upto) in
      rw (le-ltb tick c.tick upto) (edges_are cs before (letters_after at c) tick n end all
      (subst (λ t. InOrder t end cs) now rest)
      ∙ sym (same_from (edge_at before at tick (c ∷ cs)) (edge_at before (letters_after at c) tick cs)
      (is_shown tick (c ∷ cs)) (is_shown tick cs) tick (suc n)
      (λ s from. ap (λ k. (s == tick) || ((s == k) || list_any (λ c. s == c.tick) cs)) now
      ∙ or_same (s == tick) (list_any (λ c. s == c.tick) cs))
      (λ s from. same_edge c cs before at tick s now from)))
]

-- ---- the edges of the lines

come_same : (a t : ℕ) → (suc t == a) ≡ false → nat_le a (suc t) ≡ nat_le a t
come_same a t none = elim (cases_lt t a) [
  | inl less ↦
      let apart : suc t ≡ a → ⊥ = λ same. both_ways (suc t == a) none (eq-eqb (suc t) a same) in
      lt-leb a (suc t) (omega (arith, less, apart)) ∙ sym (lt-leb a t less)
  | inr upto ↦ le-leb a (suc t) (omega (arith, upto)) ∙ sym (le-leb a t upto)
]

quiet : (cs : List LineChange) (at : List (Option Bit)) (t : ℕ) → list_any (λ c. suc t == c.tick) cs ≡ false
    → letters_at at cs (suc t) ≡ letters_at at cs t
quiet [] at t none = refl
quiet (c ∷ cs) at t none =
    let parts = or_parts (suc t == c.tick) (list_any (λ c. suc t == c.tick) cs) none in
    ap (λ b. letters_at (if b then letters_after at c else at) cs (suc t)) (come_same c.tick t parts.0)
    ∙ quiet cs (if nat_le c.tick t then letters_after at c else at) t parts.1

module _ (present : List Bool) (fed : List LineChange) where
  before_is : (t : ℕ) → letters_before (first_letters present) (first_letters present) 0 fed t
      ≡ map (option_map (λ f. letter_before f t)) (lines_fed present fed)
  before_is zero = sym (fed_before_all fed present 0)
  before_is (suc t) =
      let last : suc t - 1 ≡ t = omega arith in
      rw (lt-leb (suc t) 0 (omega arith)) (ap (letters_at (first_letters present) fed) last
      ∙ sym (letters_fed fed present t))

  edge_is : (t : ℕ) → edge_at (first_letters present) (first_letters present) 0 fed t
      ≡ line_edge (lines_fed present fed) t
  edge_is t =
      let first = before_is t in
      let here = sym (letters_fed fed present t) in
      λ i. record { tick = t; before = first i; at = here i }

  still : (t : ℕ) → is_shown 0 fed t ≡ false
      → (line_edge (lines_fed present fed) t).at ≡ (line_edge (lines_fed present fed) t).before
  still zero none = absurd (cc)
  still (suc t) none =
      letters_fed fed present (suc t)
      ∙ quiet fed (first_letters present) t (or_parts (suc t == 0) (list_any (λ c. suc t == c.tick) fed) none).1
      ∙ sym (letters_fed fed present t)

  -- a maker gives edges of the lines
  pub made_of_lines : (end : ℕ) → InOrder 0 end fed
      → AreEdgesOf (lines_fed present fed) end
      (edges_left (maker (first_letters present) (first_letters present) 0) fed)
  made_of_lines end order = record {
    shown = is_shown 0 fed;
    at_shown = edges_are fed (first_letters present) (first_letters present) 0 end end (omega arith) order
        ∙ same_from (edge_at (first_letters present) (first_letters present) 0 fed)
        (line_edge (lines_fed present fed)) (is_shown 0 fed) (is_shown 0 fed) 0 (suc end) (λ s from. refl)
        (λ s from. edge_is s);
    still = still;
  }
