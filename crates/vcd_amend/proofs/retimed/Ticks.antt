-- The new ticks of ticks that are left, the old ones of new ticks, and the stamps of a retimed file.
use Rattle.std.proofs.Common.{◌≡◌, ℕ, zero, suc, ◌+◌, ◌-◌, ◌<◌, ◌≤◌, ◌∙◌, Bool, true, false, nat_lt, nat_le, refl, ap}
use Rattle.std.proofs.Common.{sym, arith, if◌then◌else◌, inl, inr, ◌==◌, ◌^◌, map, decimal, IsTrue, List, ◌∷◌, ◌++◌}
use Rattle.std.proofs.lemmas.Bool.{cases_Bool, cases_lt, le-leb, lt-leb, and_parts, false≢true, leb-true}
use Rattle.std.proofs.lemmas.Bool.{eqb-true, eq-eqb}
use Rattle.std.proofs.lemmas.Bool.Decides.{nat_tests}
use Rattle.vcd_core.specs.Decimal.{number_of, is_number}
use Rattle.vcd_core.specs.declared.capture.TheConstants.{END_LIMIT}
use Rattle.vcd_text.specs.Items.{Item, stamp}
use Rattle.vcd_text.specs.Grammar.{ParseState, Allows}
use Rattle.vcd_copy.specs.Pieces.{Piece}
use Rattle.vcd_text.proofs.shared.ItemTests.{has_tick}
use Rattle.vcd_text.proofs.read_back.Decimals.{number_of-decimal}
use Rattle.vcd_amend.specs.Retimed.{new_tick, AreOldTicks, retimed_stamp, pieces_in_place}
use Rattle.vcd_amend.specs.RetimedLaws.{is_in_cut, tick_before_cut, is_in_either, CutsLeaveTicks}
use Rattle.vcd_amend.specs.AmendedItems.{stands, is_left_out, is_exchanged}

-- ==== the new ticks of ticks that are left, and the old ones of new ticks

-- ---- any ticks

module _ (is_cut_out : ℕ → Bool) where
  -- the tick after one that is left, and after one that is not
  after_left : (t : ℕ) → is_cut_out t ≡ false → new_tick is_cut_out (suc t) ≡ new_tick is_cut_out t + 1
  unfolding new_tick
  after_left t is = rw is refl

  after_cut : (t : ℕ) → is_cut_out t ≡ true → new_tick is_cut_out (suc t) ≡ new_tick is_cut_out t
  unfolding new_tick
  after_cut t is = rw is (omega arith)

  -- new ticks are no later
  pub is_earlier : (t : ℕ) → new_tick is_cut_out t ≤ t
  unfolding new_tick
  is_earlier zero = omega arith
  is_earlier (suc t) = elim (cases_Bool (is_cut_out t)) [
    | inl is ↦ omega (arith, after_cut t is, is_earlier t)
    | inr is ↦ omega (arith, after_left t is, is_earlier t)
  ]

  next_rises : (t : ℕ) → new_tick is_cut_out t ≤ new_tick is_cut_out (suc t)
  next_rises t = elim (cases_Bool (is_cut_out t)) [
    | inl is ↦ omega (arith, after_cut t is)
    | inr is ↦ omega (arith, after_left t is)
  ]

  -- and rise with the ticks
  pub rises : (u t : ℕ) → u ≤ t → new_tick is_cut_out u ≤ new_tick is_cut_out t
  unfolding new_tick
  rises u zero order = let none : u ≡ 0 = omega arith in rw none (omega arith)
  rises u (suc t) order = elim (cases_lt t u) [
    | inl above ↦ let same : u ≡ suc t = omega arith in rw same (omega arith)
    | inr upto ↦ omega (arith, rises u t upto, next_rises t)
  ]

  -- strictly past one that is left
  pub rises_past : (u t : ℕ) → is_cut_out u ≡ false → u < t → new_tick is_cut_out u < new_tick is_cut_out t
  rises_past u t left past = omega (arith, after_left u left, rises (suc u) t (omega arith))

-- ---- old ticks

module _ (is_cut_out : ℕ → Bool) (old_tick : ℕ → ℕ) (old : AreOldTicks is_cut_out old_tick) where
  pub before_old : (u t : ℕ) → new_tick is_cut_out u ≤ t → u ≤ old_tick t
  before_old u t upto = elim (cases_lt (old_tick t) u) [
    | inl past ↦ absurd (omega (arith, old.same t, rises_past is_cut_out (old_tick t) u (old.left t) past))
    | inr is ↦ is
  ]

  after_old : (u t : ℕ) → u ≤ old_tick t → new_tick is_cut_out u ≤ t
  after_old u t upto = omega (arith, old.same t, rises is_cut_out u (old_tick t) upto)

  -- a change counts at a new tick if it counts at the old one
  pub same_test : (u t : ℕ) → nat_le (new_tick is_cut_out u) t ≡ nat_le u (old_tick t)
  same_test u t = elim (cases_lt t (new_tick is_cut_out u)) [
    | inl early ↦ lt-leb (new_tick is_cut_out u) t early ∙ sym (lt-leb u (old_tick t) (beyond early))
    | inr past ↦ le-leb (new_tick is_cut_out u) t past ∙ sym (le-leb u (old_tick t) (before_old u t past))
  ]
    where
      beyond : t < new_tick is_cut_out u → old_tick t < u
      beyond early = elim (cases_lt (old_tick t) u) [
        | inl less ↦ less
        | inr more ↦ absurd (omega (arith, after_old u t more, early))
      ]

  -- the old tick of the new tick of one that is left is that tick
  pub old_of_new : (u : ℕ) → is_cut_out u ≡ false → old_tick (new_tick is_cut_out u) ≡ u
  old_of_new u left = elim (cases_lt u (old_tick (new_tick is_cut_out u))) [
    | inl past ↦ absurd (omega (
      arith,
      old.same (new_tick is_cut_out u),
      rises_past is_cut_out u (old_tick (new_tick
          is_cut_out u)) left past,
    ))
    | inr upto ↦ omega (arith, before_old u (new_tick is_cut_out u) (omega arith))
  ]

  pub old_rises : (t end : ℕ) → t ≤ end → old_tick t ≤ old_tick end
  old_rises t end order = before_old (old_tick t) end (omega (arith, old.same t))

  -- a tick that is left has the new tick if it is the old one of it
  pub same_when_left : (t u : ℕ) → is_cut_out u ≡ false → (new_tick is_cut_out u == t) ≡ (u == old_tick t)
  same_when_left t u left = elim (cases_Bool (new_tick is_cut_out u == t)) [
    | inl same ↦
        let is : new_tick is_cut_out u ≡ t = eqb-true (new_tick is_cut_out u) t same in
        let it : u ≡ old_tick t = sym (old_of_new u left) ∙ ap old_tick is in
        same ∙ sym (eq-eqb u (old_tick t) it)
    | inr other ↦ elim (cases_Bool (u == old_tick t)) [
      | inl same ↦ absurd (false≢true (sym other ∙ eq-eqb (new_tick is_cut_out u) t (ap (new_tick is_cut_out) (eqb-true
          u
          (old_tick t) same) ∙ old.same t)))
      | inr apart ↦ other ∙ sym apart
    ]
  ]

  pub not_when_cut : (t u : ℕ) → is_cut_out u ≡ true → (u == old_tick t) ≡ false
  not_when_cut t u cut = elim (cases_Bool (u == old_tick t)) [
    | inl same ↦ absurd (false≢true (sym (ap is_cut_out (eqb-true u (old_tick t) same) ∙ old.left t) ∙ cut))
    | inr apart ↦ apart
  ]

-- ---- cuts

-- the new ticks of one cut
pub tick_after_cut : (from to t : ℕ) → from ≤ to
    → new_tick (is_in_cut from to) t ≡ (if nat_lt t from then t else (if nat_lt t to then from else t - (to - from)))
unfolding new_tick
tick_after_cut from to zero order = grind (arith, nat_tests)
tick_after_cut from to (suc t) order =
    let before = tick_after_cut from to t order in
    grind (arith, nat_tests)

one_cut : (from to : ℕ) → from ≤ to → AreOldTicks (is_in_cut from to) (tick_before_cut from to)
one_cut from to order = record {
  left = λ t. grind (arith, nat_tests);
  same = λ t. tick_after_cut from to (tick_before_cut from to t) order ∙ grind (arith, nat_tests);
}

end_left : (from to end : ℕ) → from ≤ to → to ≤ end
    → (is_in_cut from to end ≡ false) × (new_tick (is_in_cut from to) end ≡ end - (to - from))
end_left from to end order within =
    (grind (arith, nat_tests), tick_after_cut from to end order ∙ grind (arith, nat_tests))

-- the new ticks of cuts after others
pub of_either : (first later : ℕ → Bool) (t : ℕ)
    → new_tick (is_in_either first later) t ≡ new_tick later (new_tick first t)
unfolding new_tick
of_either first later zero = refl
of_either first later (suc t) = elim (cases_Bool (first t)) [
  | inl cut ↦ after_cut (is_in_either first later) t (rw cut refl) ∙ of_either first later t ∙ sym (ap (new_tick later)
      (after_cut first t cut))
  | inr left ↦
      let next : suc (new_tick first t) ≡ new_tick first (suc t) = omega (arith, after_left first t left) in
      elim (cases_Bool (later (new_tick first t))) [
        | inl cut ↦ after_cut (is_in_either first later) t (rw (left, cut) refl) ∙ of_either first later t ∙ sym
            (after_cut
            later (new_tick first t) cut) ∙ ap (new_tick later) next
        | inr both ↦ after_left (is_in_either first later) t (rw (left, both) refl) ∙ ap (λ n. n + 1) (of_either first
            later
            t) ∙ sym (after_left later (new_tick first t) both) ∙ ap (new_tick later) next
      ]
]

either : (first later : ℕ → Bool) (old older : ℕ → ℕ) → AreOldTicks first older → AreOldTicks later old
    → AreOldTicks (is_in_either first later) (λ t. older (old t))
either first later old older is_first is_later = record {
  left = λ t. rw (is_first.left (old t), is_first.same (old t)) (is_later.left t);
  same = λ t. of_either first later (older (old t)) ∙ ap (new_tick later) (is_first.same (old t)) ∙ is_later.same t;
}

pub cuts_leave_ticks : CutsLeaveTicks
cuts_leave_ticks = (one_cut, end_left, of_either, either)

-- ==== the last stamp of a retimed file, and where the stamps of the file stand in it

abbrev pub items_of : List Piece → List Item
items_of ps = map (λ p. p.item) ps

-- ---- the ticks of stamps

-- the last stamp of the retimed file, after the stamp `u` of the file
pub record IsTickAfter (is_cut_out : ℕ → Bool) (u n : ℕ) : Type 0 where
  pub upto : n ≤ new_tick is_cut_out u
  pub here : is_cut_out u ≡ false → n ≡ new_tick is_cut_out u
  pub most : u ≤ END_LIMIT

-- new ticks are few
pub small : (is_cut_out : ℕ → Bool) (t : ℕ) → t ≤ END_LIMIT → new_tick is_cut_out t < 2 ^ 64
small is_cut_out t most = omega (arith, is_earlier is_cut_out t)

-- what the test of a stamp says
pub stamp_ticks : (s : ParseState) (digits : List ℕ) → Allows s (stamp digits)
    → IsTrue (is_number digits) × (number_of digits ≤ END_LIMIT) × (s.tick ≤ number_of digits)
stamp_ticks s digits allows =
    let has = has_tick s digits allows in
    let tests = and_parts (is_number digits) (nat_le (number_of digits) END_LIMIT) has.0 in
    (tests.0, leb-true (number_of digits) END_LIMIT tests.1, has.1)

-- ---- what takes the tick of a stamp, and nothing else

module _ {X : Type 0} (seen : ℕ → List Piece → X)
    (at_stamp : (n : ℕ) (p : Piece) (ps : List Piece) (digits : List ℕ) → p.item ≡ stamp digits
    → seen n (p ∷ ps) ≡ seen (number_of digits) ps) (is_cut_out : ℕ → Bool) where
  -- sees no more than the new tick of a stamp in its place
  pub record Placed (u n : ℕ) (pieces rest : List Piece) : Type 0 where
    pub tick : ℕ
    pub is : IsTickAfter is_cut_out u tick
    pub last : seen n (pieces ++ rest) ≡ seen tick rest

  module _ (p : Piece) (digits : List ℕ) (n : ℕ) (rest : List Piece) (is : p.item ≡ stamp digits)
      (most : number_of digits ≤ END_LIMIT) where
    abbrev new : ℕ
    new = new_tick is_cut_out (number_of digits)

    exchanged : number_of (decimal new) ≡ new
    exchanged = number_of-decimal new (small is_cut_out (number_of digits) most)

    by_number : (same : Bool) → (new == number_of digits) ≡ same
        → Placed (number_of digits) n (pieces_in_place (if same then stands else is_exchanged (stamp (decimal new))) p)
        rest
    by_number true same =
        let it : new ≡ number_of digits = eqb-true new (number_of digits) same in
        record {
          tick = number_of digits;
          is = record { upto = omega arith; here = λ _. sym it; most = most };
          last = at_stamp n p rest digits is;
        }
    by_number false other = record {
      tick = new;
      is = record { upto = omega arith; here = λ _. refl; most = most };
      last = at_stamp n _ rest (decimal new) refl ∙ ap (λ (m : ℕ). seen m rest) exchanged;
    }

    by_test : (cut : Bool) → is_cut_out (number_of digits) ≡ cut → n ≤ new
        → Placed (number_of digits) n (pieces_in_place (if cut then is_left_out else (if new == number_of digits then
        stands
        else is_exchanged (stamp (decimal new)))) p) rest
    by_test true cut upto = record {
      tick = n;
      is = record { upto = upto; here = λ left. absurd (false≢true (sym left ∙ cut)); most = most };
      last = refl;
    }
    by_test false left upto = by_number (new == number_of digits) refl

    pub placed : n ≤ new → Placed (number_of digits) n (pieces_in_place (retimed_stamp is_cut_out (number_of digits)) p)
        rest
    placed upto = by_test (is_cut_out (number_of digits)) refl upto
