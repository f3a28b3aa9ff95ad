-- In a retimed file what is neither a stamp nor a change stands at its new tick, if its tick is left, and so all is
-- said of what stands.
use Rattle.std.proofs.Common.{◌≡◌, ℕ, ◌∙◌, ◌==◌, ◌||◌, Bool, true, false, All, List, [], ◌∷◌, ◌++◌, refl, ap, sym}
use Rattle.std.proofs.Common.{if◌then◌else◌, subst, arith, append_assoc, decimal, inl, inr, Some}
use Rattle.std.specs.Cmp.Lexicographic.{pointwise}
use Rattle.std.proofs.lemmas.Bool.{and_from, or_left, or_right, eq-eqb, cases_Bool}
use Rattle.std.proofs.lemmas.List.{append-nil}
use Rattle.std.proofs.lemmas.List.Elements.{All-nil, All-head, All-tail}
use Rattle.vcd_core.specs.Decimal.{number_of}
use Rattle.vcd_text.specs.Items.{Item, stamp}
use Rattle.vcd_text.specs.Grammar.{ParseState, Allows, AllowsAll, state_after_item, initial_state}
use Rattle.vcd_text.proofs.read_back.Decimals.{number_of-decimal}
use Rattle.vcd_copy.specs.Pieces.{Piece, stamp_line}
use Rattle.vcd_amend.specs.Retimed.{new_tick, ChangeKey, held_with, is_past, released_pieces, retimed_stamp}
use Rattle.vcd_amend.specs.Retimed.{pieces_in_place, retimed_pieces}
use Rattle.vcd_copy.specs.Ticks.{tick_after_item}
use Rattle.vcd_amend.specs.RetimedLaws.{is_neither, ticks_of_others, PiecesAfterCutsAreRetimed}
use Rattle.vcd_amend.proofs.retimed.Order.{changes_stand_in_order}
use Rattle.vcd_amend.proofs.retimed.Pieces.{other_pieces_stand}
use Rattle.vcd_amend.proofs.retimed.Ticks.{items_of, IsTickAfter, stamp_ticks, small, rises, placed}
use Rattle.vcd_amend.proofs.retimed.Kinds.{IsChange, IsStill, kind_of, is_stamp, is_change, is_still, change_of_key}
use Rattle.vcd_amend.proofs.retimed.Kinds.{retimed_still, retimed_change, retimed_by_stamp}
use Rattle.vcd_amend.proofs.retimed.LastChanges.{IsHeld, held_change}

-- ---- one piece more

module _ (n : ℕ) (p : Piece) (ps : List Piece) where
  abbrev of_item : Item → List ℕ
  of_item i = (if is_neither i then n ∷ [] else []) ++ ticks_of_others (tick_after_item n i) ps

  at_stamp : (digits : List ℕ) → p.item ≡ stamp digits → ticks_of_others n (p ∷ ps)
      ≡ ticks_of_others (number_of digits) ps
  unfolding ticks_of_others
  at_stamp digits is = ap of_item is

  at_change : (key : ChangeKey) → IsChange p.item key → ticks_of_others n (p ∷ ps) ≡ ticks_of_others n ps
  unfolding ticks_of_others
  at_change key change = rw (change.neither, change.tick n) refl

  at_still : IsStill p.item → ticks_of_others n (p ∷ ps) ≡ n ∷ ticks_of_others n ps
  unfolding ticks_of_others
  at_still still = rw (still.neither, still.tick n) refl

held_written : (n : ℕ) (held rest : List Piece) → All IsHeld held
    → ticks_of_others n (held ++ rest) ≡ ticks_of_others n rest
held_written n [] rest all = refl
held_written n (h ∷ hs) rest all =
    let change = change_of_key h.item (All-head IsHeld h hs all) in
    at_change n h (hs ++ rest) change.0 change.1 ∙ held_written n hs rest (All-tail IsHeld h hs all)

module _ (is_cut_out : ℕ → Bool) where
  record Written (s : ParseState) (n : ℕ) (held rest : List Piece) : Type 0 where
    pub tick : ℕ
    pub is : IsTickAfter is_cut_out s.tick tick
    pub last : ticks_of_others n (released_pieces is_cut_out s held ++ rest) ≡ ticks_of_others tick rest

  written : (s : ParseState) (n : ℕ) (held rest : List Piece) → IsTickAfter is_cut_out s.tick n → All IsHeld held
      → Written s n held rest
  written s n [] rest is all = record { tick = n; is = is; last = refl }
  written s n (p ∷ ps) rest is all = by_test (is_cut_out s.tick) refl
    where
      by_test : (cut : Bool) → is_cut_out s.tick ≡ cut → Written s n (p ∷ ps) rest
      by_test true cut = record {
        tick = new_tick is_cut_out s.tick;
        is = record { upto = omega arith; here = λ _. refl; most = is.most };
        last = rw cut (at_stamp n (stamp_line (new_tick is_cut_out s.tick)) (p ∷ (ps ++ rest)) (decimal (new_tick
            is_cut_out s.tick)) refl ∙ ap (λ m. ticks_of_others m (p ∷ (ps ++ rest))) (number_of-decimal (new_tick
            is_cut_out s.tick) (small is_cut_out s.tick is.most)) ∙ held_written (new_tick is_cut_out s.tick) (p ∷ ps)
            rest all);
      }
      by_test false left = record { tick = n; is = is; last = rw left (held_written n (p ∷ ps) rest all) }

  -- ---- all pieces

  abbrev pub Fit : List ℕ → List ℕ → Type 0
  Fit ts us = pointwise (λ t u. is_cut_out t || (u == new_tick is_cut_out t)) ts us ≡ true

  same_fit : {ts us more less : List ℕ} → ts ≡ more → us ≡ less → Fit more less → Fit ts us
  same_fit same also fit = rw (same, also) fit

  one_fits : (t u : ℕ) → IsTickAfter is_cut_out t u → (is_cut_out t || (u == new_tick is_cut_out t)) ≡ true
  one_fits t u is = elim (cases_Bool (is_cut_out t)) [
    | inl cut ↦ or_left _ _ cut
    | inr left ↦ or_right _ _ (eq-eqb _ _ (is.here left))
  ]

  stand : (s : ParseState) (held : List Piece) (n : ℕ) (ps : List Piece) → AllowsAll s (items_of ps)
      → IsTickAfter is_cut_out s.tick n → All IsHeld held
      → Fit (ticks_of_others s.tick ps) (ticks_of_others n (retimed_pieces is_cut_out s held ps))
  unfolding retimed_pieces ticks_of_others
  stand s held n [] allows is all =
      let out = written s n held [] is all in
      subst (Fit []) (sym (ap (ticks_of_others n) (sym (append-nil (released_pieces is_cut_out s held))) ∙ out.last))
      refl
  stand s held n (p ∷ ps) allows is all = elim (kind_of p.item) [
    | is_stamp digits at ↦
        let later = stamp_ticks s digits (subst (λ (i : Item). Allows s i) at allows.0) in
        let tick : (state_after_item s p.item).tick ≡ number_of digits = ap (λ (i : Item). (state_after_item s i).tick)
        at in
        let right : List Piece → List Piece = λ held. retimed_pieces is_cut_out (state_after_item s p.item) held ps in
        let out = put (is_past is_cut_out s (stamp digits)) (pieces_in_place (retimed_stamp is_cut_out
        (number_of digits)) p) (λ past. right (if past then [] else held)) in
        let one = placed ticks_of_others at_stamp is_cut_out p digits out.0 (right (if is_past is_cut_out s (stamp
        digits) then [] else held)) at later.1 (omega (
          arith,
          out.1.upto,
          rises is_cut_out s.tick (number_of digits)
              later.2,
        )) in
        same_fit (at_stamp s.tick p ps digits at ∙ ap (λ t. ticks_of_others t ps) (sym tick)) (ap
        (ticks_of_others n) (retimed_by_stamp is_cut_out s held p ps digits at) ∙ out.2 ∙ one.last)
        (stand (state_after_item s p.item) (if is_past is_cut_out s (stamp digits) then [] else held) one.tick ps
        allows.1 (subst (λ t. IsTickAfter is_cut_out t one.tick) (sym tick) one.is)
        (all_after (is_past is_cut_out s (stamp digits))))
    | is_change k change ↦
        let tick : (state_after_item s p.item).tick ≡ s.tick = ap (λ (x : ParseState). x.tick) (change.state s) in
        let rest : List Piece = retimed_pieces is_cut_out (state_after_item s p.item) (held_with is_cut_out s held p
        (Some k)) ps in
        same_fit (at_change s.tick p ps k change ∙ ap (λ t. ticks_of_others t ps) (sym tick)) (ap
        (ticks_of_others n) (retimed_change is_cut_out s held p ps k change) ∙ one_none (is_cut_out s.tick) k change
        rest) (stand (state_after_item s p.item) (held_with is_cut_out s held p (Some k)) n ps allows.1 (subst (λ t.
        IsTickAfter is_cut_out t n) (sym tick) is) (held_change is_cut_out s held p k change all))
    | is_still still ↦
        let tick = still.same_tick s in
        let rest : List Piece = retimed_pieces is_cut_out (state_after_item s p.item) held ps in
        same_fit (at_still s.tick p ps still ∙ ap (λ t. s.tick ∷ ticks_of_others t ps) (sym tick)) (ap
        (ticks_of_others n) (retimed_still is_cut_out s held p ps still) ∙ at_still n p rest still)
        (and_from _ _ (one_fits s.tick n is) (stand (state_after_item s p.item) held n ps allows.1 (subst (λ t.
        IsTickAfter is_cut_out t n) (sym tick) is) all))
  ]
    where
      put : (past : Bool) (middle : List Piece) (rest : Bool → List Piece) → (tick : ℕ) × (is : IsTickAfter is_cut_out
          s.tick tick) × (ticks_of_others n (((if past then released_pieces is_cut_out s held else []) ++ middle)
          ++ rest past) ≡ ticks_of_others tick (middle ++ rest past))
      put true middle rest =
          let out = written s n held (middle ++ rest true) is all in (
            out.tick,
            out.is,
            ap (ticks_of_others n) (append_assoc (released_pieces is_cut_out s held) middle (rest true))
                ∙ out.last,
          )
      put false middle rest = (n, is, refl)

      all_after : (past : Bool) → All IsHeld (if past then [] else held)
      all_after true = All-nil IsHeld
      all_after false = all

      one_none : (cut : Bool) (k : ChangeKey) → IsChange p.item k → (rest : List Piece)
          → ticks_of_others n ((if cut then [] else p ∷ []) ++ rest) ≡ ticks_of_others n rest
      one_none true k change rest = refl
      one_none false k change rest = at_change n p rest k change

-- at the beginning there is neither a stamp nor a held change
pub others_at_new_ticks : (is_cut_out : ℕ → Bool) (limit : ℕ) (ps : List Piece)
    → AllowsAll (initial_state limit) (items_of ps) → Fit is_cut_out (ticks_of_others 0 ps)
    (ticks_of_others 0 (retimed_pieces is_cut_out (initial_state limit) [] ps))
unfolding new_tick
others_at_new_ticks is_cut_out limit ps allows = stand is_cut_out (initial_state limit) [] 0 ps allows
    (record { upto = omega arith; here = λ _. refl; most = omega arith }) (All-nil IsHeld)

pub pieces_are_retimed : PiecesAfterCutsAreRetimed
pieces_are_retimed is_cut_out old_tick limit file pieces tail can = record {
  changes = changes_stand_in_order is_cut_out old_tick limit pieces can.ticks can.allowed;
  others = other_pieces_stand is_cut_out limit pieces;
  ticks = others_at_new_ticks is_cut_out limit pieces can.allowed;
}
