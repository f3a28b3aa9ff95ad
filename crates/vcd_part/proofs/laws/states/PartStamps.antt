-- A stamp of the file: the pieces in its place lead on, and the part follows the file after it.
use Rattle.std.proofs.Common.{◌≡◌, ℕ, ◌+◌, ◌-◌, ◌∙◌, ◌≤◌, ◌<◌, ◌==◌, Bool, true, false, not, ◌&&◌, List, [], ◌∷◌, ◌++◌}
use Rattle.std.proofs.Common.{refl, ap, sym, subst, if◌then◌else◌, arith, nat_le, nat_lt, min, max, decimal}
use Rattle.std.proofs.lemmas.Bool.{false≢true, and_parts, ltb-true, ltb-false, leb-true, leb-false}
use Rattle.std.proofs.lemmas.Bool.{eqb-true}
use Rattle.std.proofs.lemmas.List.{map-append}
use Rattle.vcd_core.specs.declared.capture.TheConstants.{END_LIMIT}
use Rattle.vcd_core.specs.Decimal.{number_of, is_number}
use Rattle.vcd_text.specs.Items.{Item, stamp}
use Rattle.vcd_text.specs.Grammar.{ParseState, ValueChange, Allows}
use Rattle.vcd_copy.specs.Pieces.{Piece}
use Rattle.vcd_copy.specs.Copied.{piece_items}
use Rattle.vcd_text.specs.declared.reading.choice.TickRange.{TickRange}
use Rattle.vcd_text.proofs.shared.ItemTests.{has_tick}
use Rattle.vcd_text.proofs.shared.ItemsInTurn.{Reaches, reaches_none, reaches_both}
use Rattle.vcd_part.specs.declared.request.Request.{Request}
use Rattle.vcd_part.specs.PartPieces.{is_change_of, is_up_to_first, is_within, first_pieces, stamp_in_part}
use Rattle.vcd_part.specs.PartPieces.{last_stamp, stamp_pieces}
use Rattle.vcd_copy.specs.Pieces.{stamp_line}
use Rattle.vcd_part.proofs.laws.states.Windows.{IsInOrder, upto_is, upto_from, within_is, not_within_is}
use Rattle.vcd_part.proofs.laws.signals.SignalValues.{last_with, last_passes, of_last}
use Rattle.vcd_part.proofs.laws.states.PartStates.{at, in_part, change_again}
use Rattle.vcd_part.proofs.laws.states.PartChanges.{Follows, Arrives, SameValues}
use Rattle.vcd_part.proofs.laws.states.FirstPieces.{digits_lead, stamp_leads, first_lead}

module _ (r : Request) (w : TickRange) (order : IsInOrder w) (words : List (List ℕ)) (before : List Piece)
    (s : ParseState) (vs : List ValueChange) (n : ℕ) (follows : Follows r w before s vs n) where
  abbrev here : List ValueChange → ℕ → ParseState
  here vs n = in_part r words s vs n

  -- at tick 0 of the part, after a tick up to the first of the window
  first_tick : is_up_to_first w s.tick ≡ true → n ≡ 0
  first_tick upto =
      let most = upto_is w s.tick upto in
      omega (arith, most.1, follows.tick)

  -- the pieces of tick 0 give the values of the file
  pub record HasFirstTick : Type 0 where
    pub more : List ValueChange
    pub leads : Reaches (here vs n) (piece_items (first_pieces r s.declared before)) (here more n)
    pub same : SameValues r w s more

  pub first_tick_leads : is_up_to_first w s.tick ≡ true → HasFirstTick
  first_tick_leads upto =
      let put = first_lead r words before s follows.in_body follows.one follows.can vs n (follows.none upto)
      (first_tick upto) in
      let tick = upto_is w s.tick upto in
      record {
        more = put.more;
        leads = subst (λ (k : ℕ). Reaches (here vs n) (piece_items (first_pieces r s.declared before)) (here put.more
            k)) (sym (first_tick upto)) put.leads;
        same = λ d kept u most. put.values d kept u ∙ sym (follows.last d kept (w.first + u) (omega (arith, tick.1)));
      }

  module _ (digits space body : List ℕ) (allows : Allows s (stamp digits)) where
    abbrev p : Piece
    p = record { item = stamp digits; space = space; body = body }

    abbrev t : ℕ
    t = number_of digits

    -- the tick of the part after it
    abbrev m : ℕ
    m = min w.last t - w.first

    number : (is_number digits ≡ true) × (t ≤ END_LIMIT)
    number =
        let tests = and_parts (is_number digits) (nat_le (number_of digits) END_LIMIT) (has_tick s digits allows).0 in
        (tests.0, leb-true (number_of digits) END_LIMIT tests.1)

    later : s.tick ≤ t
    later = (has_tick s digits allows).1

    -- ---- the pieces of tick 0, if it is the first stamp within the window

    record HasPut (on : Bool) : Type 0 where
      more : List ValueChange
      leads : Reaches (here vs n) (piece_items (if on then first_pieces r s.declared before else [])) (here more n)
      none : is_up_to_first w t ≡ true → more ≡ []
      same : is_up_to_first w t ≡ false → SameValues r w s more

    puts : HasPut (is_up_to_first w s.tick && not (is_up_to_first w t))
    puts = by_tests (is_up_to_first w s.tick) (is_up_to_first w t) refl refl
      where
        by_tests : (x y : Bool) → is_up_to_first w s.tick ≡ x → is_up_to_first w t ≡ y → HasPut (x && not y)
        by_tests true false old new =
            let first = first_tick_leads old in
            record {
              more = first.more;
              leads = first.leads;
              none = λ upto. absurd (false≢true (sym new ∙ upto));
              same = λ past. first.same;
            }
        by_tests true true old new = record {
          more = vs;
          leads = reaches_none (here vs n);
          none = λ upto. follows.none old;
          same = λ past. absurd (false≢true (sym past ∙ new));
        }
        by_tests false y old new = record {
          more = vs;
          leads = reaches_none (here vs n);
          none = λ upto. let tick = upto_is w t upto in absurd (false≢true (sym old ∙ upto_from w s.tick tick.0 (omega
              (arith, tick.1, later))));
          same = λ past. follows.same old;
        }

    -- ---- the stamp, or the last one

    module _ (more : List ValueChange) where
      abbrev Leads : List Piece → Type 0
      Leads ps = Reaches (here more n) (piece_items ps) (here more m)

      to_tick : (items : List Item) (k : ℕ) → k ≡ m → Reaches (here more n) items (here more k)
          → Reaches (here more n) items (here more m)
      to_tick items k same leads = subst (λ (k : ℕ). Reaches (here more n) items (here more k)) same leads

      stays : n ≡ m → Leads []
      stays same = to_tick [] n same (reaches_none (here more n))

      within_leads : is_within w t ≡ true → Leads (stamp_in_part w p t ∷ [])
      within_leads within = by_test (w.first == 0) refl (within_is w t within).1
        where
          by_test : (b : Bool) → (w.first == 0) ≡ b → t ≤ w.last → Leads ((if b then p else record {
            item = stamp
                (decimal (t - w.first));
            space = p.space;
            body = 35 ∷ decimal (t - w.first);
          }) ∷ [])
          by_test true it upto =
              let zero = eqb-true w.first 0 it in
              to_tick (stamp digits ∷ []) t (omega (arith, zero, upto)) (digits_lead r words s follows.in_body more n
              digits number.0 number.1 (omega (arith, follows.tick, later)))
          by_test false it upto = to_tick (stamp (decimal (t - w.first)) ∷ []) (t - w.first) (omega (arith, upto))
              (stamp_leads r words s follows.in_body more n (t - w.first) (omega (arith, number.1)) (omega (
                arith,
                follows.tick,
                later,
              )))

      stamped : Leads (if is_within w t then stamp_in_part w p t ∷ [] else (if nat_le s.tick w.last && nat_lt w.last t
          then last_stamp w s.tick else []))
      stamped = by_test (is_within w t) refl
        where
          by_end : (b : Bool) → nat_lt (max s.tick w.first) w.last ≡ b → s.tick ≤ w.last → w.last < t
              → Leads (if b then stamp_line (w.last - w.first) ∷ [] else [])
          by_end true it old new = to_tick (stamp (decimal (w.last - w.first)) ∷ []) (w.last - w.first) (omega (
            arith,
            new,
          )) (stamp_leads r words s follows.in_body more n (w.last - w.first) (omega (arith, new, number.1))
              (omega (arith, follows.tick)))
          by_end false it old new =
              let over = ltb-false (max s.tick w.first) w.last it in
              stays (omega (arith, over, old, new, follows.tick, order.order))

          by_first : (b : Bool) → is_up_to_first w t ≡ b → t ≤ w.last → is_within w t ≡ false → n ≡ m
          by_first true it upto out =
              let tick = upto_is w t it in
              omega (arith, tick.1, later, follows.tick)
          by_first false it upto out =
              let over = not_within_is w t out it in
              absurd (omega (arith, over, upto))

          by_past : (x y : Bool) → nat_le s.tick w.last ≡ x → nat_lt w.last t ≡ y → is_within w t ≡ false
              → Leads (if x && y then last_stamp w s.tick else [])
          by_past true true old new out = by_end (nat_lt (max s.tick w.first) w.last) refl (leb-true s.tick w.last old)
              (ltb-true w.last t new)
          by_past true false old new out =
              let upto = ltb-false w.last t new in
              stays (by_first (is_up_to_first w t) refl upto out)
          by_past false y old new out =
              let over = leb-false s.tick w.last old in
              stays (omega (arith, over, later, follows.tick))

          by_test : (b : Bool) → is_within w t ≡ b → Leads (if b then stamp_in_part w p t ∷ [] else (if nat_le s.tick
              w.last && nat_lt w.last t then last_stamp w s.tick else []))
          by_test true it = within_leads it
          by_test false it = by_past (nat_le s.tick w.last) (nat_lt w.last t) refl refl it

    -- ---- after it

    pub stamp_arrives : Arrives r w words (here vs n) (piece_items (stamp_pieces r w s before p t))
        (before ++ p ∷ []) (at s s.value_changes t)
    stamp_arrives = record {
      value_changes = puts.more;
      tick = m;
      leads = subst (λ (l : List Item). Reaches (here vs n) l (here puts.more m)) (sym (map-append (λ (p : Piece).
          p.item) (if is_up_to_first w s.tick && not (is_up_to_first w t) then first_pieces r s.declared before else [])
          _)) (reaches_both _ _ _ _ _ puts.leads (stamped puts.more));
      follows = record {
        in_body = follows.in_body;
        decided = follows.decided;
        one = follows.one;
        tick = refl;
        none = puts.none;
        same = puts.same;
        last = λ d kept u most. follows.last d kept u (omega (arith, later, most)) ∙ ap (of_last d) (sym (last_with
            (is_change_of s.declared d.code) before p));
        can = λ code q is. let old = sym (last_with (is_change_of s.declared code) before p) ∙ is in change_again s
            s.value_changes t s.declared code q.item (last_passes (is_change_of s.declared code) before q old)
            (follows.can code q old);
      };
    }
