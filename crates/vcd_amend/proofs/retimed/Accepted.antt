-- A retimed file is accepted, piece by piece.
use Rattle.std.proofs.Common.{◌≡◌, ℕ, ◌<◌, ◌≤◌, ◌∙◌, ◌==◌, ◌^◌, Bool, true, false, not, List, [], ◌∷◌, ◌++◌, refl, ap}
use Rattle.std.proofs.Common.{sym, arith, if◌then◌else◌, ◌&&◌, Some, IsTrue, subst, decimal, All}
use Rattle.std.proofs.lemmas.Bool.{false≢true, le-leb, ltb-true, eqb-true, and_from}
use Rattle.std.proofs.lemmas.List.{map-append}
use Rattle.std.proofs.lemmas.List.Elements.{All-nil, All-cons, All-head, All-tail, All-append, All-filter, All-weaker}
use Rattle.vcd_core.specs.Decimal.{number_of, is_number}
use Rattle.vcd_core.specs.declared.capture.TheConstants.{END_LIMIT}
use Rattle.vcd_text.specs.Items.{Item, stamp}
use Rattle.vcd_text.specs.Grammar.{ParseState, ValueChange, Allows, AllowsAll, state_after_item, state_after}
use Rattle.vcd_amend.specs.AmendedItems.{stands, is_left_out, is_exchanged}
use Rattle.vcd_copy.specs.Pieces.{Piece}
use Rattle.vcd_amend.specs.Retimed.{new_tick, ChangeKey, change_key, counts_with, code_of_key, lasts, held_with}
use Rattle.vcd_amend.specs.Retimed.{is_past, has_kept_variable, released_pieces, retimed_stamp}
use Rattle.vcd_copy.specs.Pieces.{stamp_line}
use Rattle.vcd_amend.specs.Retimed.{pieces_in_place, retimed_pieces}
use Rattle.vcd_text.proofs.shared.ItemTests.{allows_stamp}
use Rattle.vcd_text.proofs.shared.ItemsInTurn.{Reaches, reaches_none, reaches_one, reaches_both, reaches_same}
use Rattle.vcd_text.proofs.read_back.Decimals.{decimal_is_number, number_of-decimal}
use Rattle.vcd_amend.proofs.retimed.Ticks.{is_earlier, rises, IsTickAfter, stamp_ticks, items_of}
use Rattle.vcd_amend.proofs.retimed.Kinds.{at, IsChange, IsStill, kind_of, is_stamp, is_change, is_still, change_of_key}
use Rattle.vcd_amend.proofs.retimed.Kinds.{body_stays, retimed_still, retimed_change, retimed_by_stamp}
use Rattle.vcd_amend.proofs.retimed.LastChanges.{IsHeld}

-- a held change is allowed
pub record CanStand (s : ParseState) (p : Piece) : Type 0 where
  pub allowed : Allows s p.item
  pub held : IsHeld p

-- also after another item
pub can_after : (s : ParseState) (i : Item) → Allows s i → (p : Piece) → CanStand s p → CanStand (state_after_item s i)
    p
can_after s i allows p can =
    let change = change_of_key p.item can.held in
    let body : s.in_body ≡ true = change.1.in_body s can.allowed in
    let after = body_stays s i allows body in
    record {
      allowed = change.1.allows s (state_after_item s i) (after.0 ∙ sym body) after.1 can.allowed;
      held = can.held;
    }

pub all_can_after : (s : ParseState) (i : Item) → Allows s i → (held : List Piece) → All (CanStand s) held
    → All (CanStand (state_after_item s i)) held
all_can_after s i allows held all = All-weaker (CanStand s) (CanStand (state_after_item s i)) (λ p can. can_after s i
    allows
    p can) held all

module _ (is_cut_out : ℕ → Bool) where
  -- from these value changes and stamp on, items lead to these, after a state of the file
  pub record Arrives (start : ParseState) (vs : List ValueChange) (n : ℕ) (items : List Item) (s : ParseState) : Type 0
    where
      pub value_changes : List ValueChange
      pub tick : ℕ
      pub leads : Reaches (at start vs n) items (at s value_changes tick)
      pub is : IsTickAfter is_cut_out s.tick tick

  then_arrives : (start : ParseState) (vs : List ValueChange) (n : ℕ) (xs ys : List Item) (s t : ParseState)
      → (first : Arrives start vs n xs s) → Arrives s first.value_changes first.tick ys t → Arrives start vs n (xs ++
      ys) t
  then_arrives start vs n xs ys s t first more = record {
    value_changes = more.value_changes;
    tick = more.tick;
    leads = reaches_both _ _ _ xs ys first.leads more.leads;
    is = more.is;
  }

  -- ---- what is held

  held_lead : (s : ParseState) (vs : List ValueChange) (n : ℕ) (held : List Piece) → All (CanStand s) held
      → (more : List ValueChange) × Reaches (at s vs n) (items_of held) (at s more n)
  held_lead s vs n [] all = (vs, reaches_none (at s vs n))
  held_lead s vs n (p ∷ ps) all =
      let can = All-head (CanStand s) p ps all in
      let change = change_of_key p.item can.held in
      let next : List ValueChange = (state_after_item (at s vs n) p.item).value_changes in
      let rest = held_lead s next n ps (All-tail (CanStand s) p ps all) in (
        rest.0,
        reaches_both (at s vs n) (at s next n) (at s rest.0 n) (p.item ∷ []) (items_of ps) (reaches_one (at s vs n)
            (at s next n) p.item (change.1.allows s (at s vs n) refl refl can.allowed) (change.1.state (at s vs n)))
            rest.1,
      )

  -- a stamp with this number
  stamp_leads : (s : ParseState) (vs : List ValueChange) (n u : ℕ) → s.in_body ≡ true → u ≤ END_LIMIT → n ≤ u
      → Reaches (at s vs n) (stamp (decimal u) ∷ []) (at s vs u)
  stamp_leads s vs n u body most order =
      let few : u < 2 ^ 64 = omega arith in
      let read : number_of (decimal u) ≡ u = number_of-decimal u few in
      reaches_one _ _ _ (allows_stamp (at s vs n) (decimal u) body (and_from _ _ (decimal_is_number u few) (le-leb _ _
      (omega (arith, read)))) (omega (arith, read))) (ap (λ m. at s vs m) read)

  released_arrive : (s : ParseState) (vs : List ValueChange) (n : ℕ) (held : List Piece) → IsTickAfter is_cut_out s.tick
      n
      → All (CanStand s) held → Arrives s vs n (items_of (released_pieces is_cut_out s held)) s
  released_arrive s vs n [] is all = record {
    value_changes = vs;
    tick = n;
    leads = reaches_none (at s vs n);
    is = is;
  }
  released_arrive s vs n (p ∷ ps) is all = by_test (is_cut_out s.tick) refl
    where
      can : CanStand s p
      can = All-head (CanStand s) p ps all

      body : s.in_body ≡ true
      body = (change_of_key p.item can.held).1.in_body s can.allowed

      by_test : (cut : Bool) → is_cut_out s.tick ≡ cut → Arrives s vs n (items_of ((if cut then stamp_line (new_tick
          is_cut_out s.tick) ∷ [] else []) ++ p ∷ ps)) s
      by_test true cut =
          let u : ℕ = new_tick is_cut_out s.tick in
          let few : u ≤ END_LIMIT = omega (arith, is_earlier is_cut_out s.tick, is.most) in
          let rest = held_lead s vs u (p ∷ ps) all in
          record {
            value_changes = rest.0;
            tick = u;
            leads = reaches_both _ _ _ (stamp (decimal u) ∷ []) (items_of (p ∷ ps)) (stamp_leads s vs n u body few
                is.upto)
                rest.1;
            is = record { upto = omega arith; here = λ _. refl; most = is.most };
          }
      by_test false left =
          let rest = held_lead s vs n (p ∷ ps) all in
          record { value_changes = rest.0; tick = n; leads = rest.1; is = is }

  -- ---- one piece

  module _ (s : ParseState) (vs : List ValueChange) (n : ℕ) (p : Piece) (allows : Allows s p.item) where
    abbrev after : ParseState
    after = state_after_item s p.item

    still_arrives : IsStill p.item → IsTickAfter is_cut_out s.tick n → Arrives s vs n (p.item ∷ []) after
    still_arrives still is = record {
      value_changes = vs;
      tick = n;
      leads = reaches_one _ _ _ (still.allows s vs n allows) (still.state s vs n);
      is = subst (λ u. IsTickAfter is_cut_out u n) (sym (still.same_tick s)) is;
    }

    change_arrives : (k : ChangeKey) → IsChange p.item k → IsTickAfter is_cut_out s.tick n → (cut : Bool)
        → Arrives s vs n (items_of (if cut then [] else p ∷ [])) after
    change_arrives k change is true = record {
      value_changes = vs;
      tick = n;
      leads = reaches_same _ _ _ [] (reaches_none (at s vs n)) (ap (λ x. at x vs n) (sym (change.state s)));
      is = subst (λ u. IsTickAfter is_cut_out u n) (sym (ap (λ (x : ParseState). x.tick) (change.state s))) is;
    }
    change_arrives k change is false =
        let more : List ValueChange = (state_after_item (at s vs n) p.item).value_changes in
        record {
          value_changes = more;
          tick = n;
          leads = reaches_one _ _ _ (change.allows s (at s vs n) refl refl allows) (change.state (at s vs n) ∙ ap (λ x.
              at
              x more n) (sym (change.state s)));
          is = subst (λ u. IsTickAfter is_cut_out u n) (sym (ap (λ (x : ParseState). x.tick) (change.state s))) is;
        }

    module _ (digits : List ℕ) (is : p.item ≡ stamp digits) where
      abbrev u : ℕ
      u = number_of digits

      pub later : IsTrue (is_number digits) × (number_of digits ≤ END_LIMIT) × (s.tick ≤ number_of digits)
      later = stamp_ticks s digits (subst (λ (i : Item). Allows s i) is allows)

      body : s.in_body ≡ true
      body = (subst (λ (i : Item). Allows s i) is allows).0

      after_is : (m : ℕ) → at s vs m ≡ at after vs m
      after_is m = ap (λ (i : Item). at (state_after_item s i) vs m) (sym is)

      tick_is : u ≡ after.tick
      tick_is = ap (λ (i : Item). (state_after_item s i).tick) (sym is)

      by_number : (same : Bool) → (new_tick is_cut_out u == u) ≡ same → n ≤ new_tick is_cut_out u
          → Reaches (at s vs n) (items_of (pieces_in_place (if same then stands else is_exchanged (stamp (decimal
          (new_tick
          is_cut_out u)))) p)) (at s vs (new_tick is_cut_out u))
      by_number true same upto =
          let it : new_tick is_cut_out u ≡ u = eqb-true (new_tick is_cut_out u) u same in
          subst (λ (i : Item). Reaches (at s vs n) (i ∷ []) (at s vs (new_tick is_cut_out u))) (sym is) (reaches_one _ _
          _
          (allows_stamp (at s vs n) digits body (and_from _ _ later.0 (le-leb _ _ later.1)) (omega (arith, it, upto)))
          (ap
          (λ m. at s vs m) (sym it)))
      by_number false other upto = stamp_leads s vs n (new_tick is_cut_out u) body (omega (
        arith,
        is_earlier is_cut_out u,
        later.1,
      )) upto

      by_test : (cut : Bool) → is_cut_out u ≡ cut → n ≤ new_tick is_cut_out u
          → Arrives s vs n (items_of (pieces_in_place (if cut then is_left_out else (if new_tick is_cut_out u == u then
          stands else is_exchanged (stamp (decimal (new_tick is_cut_out u))))) p)) after
      by_test true cut upto = record {
        value_changes = vs;
        tick = n;
        leads = reaches_same _ _ _ [] (reaches_none (at s vs n)) (after_is n);
        is = subst (λ w. IsTickAfter is_cut_out w n) tick_is (record {
          upto = upto;
          here = λ left. absurd (false≢true (sym left ∙ cut));
          most = later.1;
        });
      }
      by_test false left upto = record {
        value_changes = vs;
        tick = new_tick is_cut_out u;
        leads = reaches_same _ _ _ _ (by_number (new_tick is_cut_out u == u) refl upto) (after_is (new_tick is_cut_out
            u));
        is = subst (λ w. IsTickAfter is_cut_out w (new_tick is_cut_out u)) tick_is (record {
          upto = omega arith;
          here = λ _. refl;
          most = later.1;
        });
      }

      pub stamp_arrives : n ≤ new_tick is_cut_out u
          → Arrives s vs n (items_of (pieces_in_place (retimed_stamp is_cut_out u) p)) after
      stamp_arrives upto = by_test (is_cut_out u) refl upto

  -- ---- all pieces

  held_can : (s : ParseState) (held : List Piece) (p : Piece) (k : ChangeKey) → IsChange p.item k → Allows s p.item
      → All (CanStand s) held → All (CanStand (state_after_item s p.item)) (held_with is_cut_out s held p (Some k))
  held_can s held p k change allows all = All-append (CanStand (state_after_item s p.item)) _ _ (All-filter (λ h. not
      (counts_with (has_kept_variable s) k (change_key h.item))) (CanStand (state_after_item s p.item)) held
      (all_can_after s p.item allows held all))
      (one (is_cut_out s.tick && lasts s (code_of_key k)))
    where
      itself : CanStand s p
      itself = record { allowed = allows; held = rw change.is refl }

      one : (b : Bool) → All (CanStand (state_after_item s p.item)) (if b then p ∷ [] else [])
      one true = All-cons (CanStand (state_after_item s p.item)) p [] (can_after s p.item allows p itself) (All-nil
          (CanStand (state_after_item s p.item)))
      one false = All-nil (CanStand (state_after_item s p.item))

  arrives_as : (s t : ParseState) (vs : List ValueChange) (n : ℕ) (xs ys : List Piece) → ys ≡ xs
      → Arrives s vs n (items_of xs) t → Arrives s vs n (items_of ys) t
  arrives_as s t vs n xs ys same arrives = subst (λ (l : List Piece). Arrives s vs n (items_of l) t) (sym same) arrives

  both_arrive : (start : ParseState) (vs : List ValueChange) (n : ℕ) (xs ys : List Piece) (s t : ParseState)
      → (first : Arrives start vs n (items_of xs) s) → Arrives s first.value_changes first.tick (items_of ys) t
      → Arrives start vs n (items_of (xs ++ ys)) t
  both_arrive start vs n xs ys s t first more = subst (λ (l : List Item). Arrives start vs n l t) (sym (map-append (λ (p
      :
      Piece). p.item) xs ys)) (then_arrives start vs n (items_of xs) (items_of ys) s t first more)

  module _ (s : ParseState) (held : List Piece) (vs : List ValueChange) (n : ℕ) (p : Piece) (ps : List Piece)
      (t : ParseState) (allows : Allows s p.item) (is : IsTickAfter is_cut_out s.tick n) (all : All (CanStand s) held)
      (next : (held : List Piece) (vs : List ValueChange) (n : ℕ)
      → IsTickAfter is_cut_out (state_after_item s p.item).tick n → All (CanStand (state_after_item s p.item)) held
      → Arrives (state_after_item s p.item) vs n (items_of (retimed_pieces is_cut_out (state_after_item s p.item) held
      ps)) t)
    where
      abbrev Goal : Type 0
      Goal = Arrives s vs n (items_of (retimed_pieces is_cut_out s held (p ∷ ps))) t

      still_step : IsStill p.item → Goal
      still_step still =
          let here = still_arrives s vs n p allows still is in
          arrives_as s t vs n _ _ (retimed_still is_cut_out s held p ps still) (both_arrive s vs n (p ∷ []) _
          (state_after_item s p.item) t here (next held here.value_changes here.tick here.is (all_can_after s p.item
          allows
          held all)))

      change_step : (k : ChangeKey) → IsChange p.item k → Goal
      change_step k change =
          let here = change_arrives s vs n p allows k change is (is_cut_out s.tick) in
          arrives_as s t vs n _ _ (retimed_change is_cut_out s held p ps k change) (both_arrive s vs n (if is_cut_out
          s.tick
          then [] else p ∷ []) _ (state_after_item s p.item) t here (next (held_with is_cut_out s held p (Some k))
          here.value_changes here.tick here.is (held_can s held p k change allows all)))

      stamp_step : (digits : List ℕ) → p.item ≡ stamp digits → (past : Bool) → is_past is_cut_out s (stamp digits) ≡
          past
          → Goal
      stamp_step digits stamp_is true past =
          let order : new_tick is_cut_out s.tick < new_tick is_cut_out (number_of digits) = ltb-true (new_tick
          is_cut_out
          s.tick) (new_tick is_cut_out (number_of digits)) past in
          let out = released_arrive s vs n held is all in
          let here = stamp_arrives s out.value_changes out.tick p allows digits stamp_is (omega (
            arith,
            out.is.upto,
            order,
          ))
          in
          let in_it : List Piece = pieces_in_place (retimed_stamp is_cut_out (number_of digits)) p in
          let both : Arrives s vs n (items_of (released_pieces is_cut_out s held ++ in_it)) (state_after_item s p.item)
          =
          both_arrive
          s vs n (released_pieces is_cut_out s held) in_it s (state_after_item s p.item) out here in
          arrives_as s t vs n ((released_pieces is_cut_out s held ++ in_it) ++ retimed_pieces is_cut_out
          (state_after_item s p.item)
          [] ps)
          _ (retimed_by_stamp is_cut_out s held p ps digits stamp_is ∙ rw past refl) (both_arrive s vs n
          (released_pieces
          is_cut_out
          s held ++ in_it) _ (state_after_item s p.item) t both (next [] both.value_changes both.tick both.is (All-nil
          (CanStand (state_after_item s p.item)))))
      stamp_step digits stamp_is false not_past =
          let later = stamp_ticks s digits (subst (λ (i : Item). Allows s i) stamp_is allows) in
          let order : n ≤ new_tick is_cut_out (number_of digits) = omega (
            arith,
            is.upto,
            rises is_cut_out s.tick (number_of
                digits) later.2,
          ) in
          let here = stamp_arrives s vs n p allows digits stamp_is order in
          arrives_as s t vs n (pieces_in_place (retimed_stamp is_cut_out (number_of digits)) p ++ retimed_pieces
          is_cut_out
          (state_after_item s p.item) held ps) _ (retimed_by_stamp is_cut_out s held p ps digits stamp_is ∙ rw not_past
          refl)
          (both_arrive s vs n (pieces_in_place (retimed_stamp is_cut_out (number_of digits)) p) _ (state_after_item s
          p.item)
          t here (next held here.value_changes here.tick here.is (all_can_after s p.item allows held all)))

      step : Goal
      step = elim (kind_of p.item) [
        | is_stamp digits stamp_is ↦ stamp_step digits stamp_is (is_past is_cut_out s (stamp digits)) refl
        | is_change k change ↦ change_step k change
        | is_still still ↦ still_step still
      ]

  pub retimed_arrives : (s : ParseState) (held : List Piece) (vs : List ValueChange) (n : ℕ) (ps : List Piece)
      → AllowsAll s (items_of ps) → IsTickAfter is_cut_out s.tick n → All (CanStand s) held
      → Arrives s vs n (items_of (retimed_pieces is_cut_out s held ps)) (state_after s (items_of ps))
  unfolding retimed_pieces
  retimed_arrives s held vs n [] allows is all = released_arrive s vs n held is all
  retimed_arrives s held vs n (p ∷ ps) allows is all = step s held vs n p ps (state_after s (items_of (p ∷ ps)))
      allows.0 is
      all (λ held vs n is all. retimed_arrives (state_after_item s p.item) held vs n ps allows.1 is all)
