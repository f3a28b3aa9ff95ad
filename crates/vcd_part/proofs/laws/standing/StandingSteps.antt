-- The pieces in the place of one piece of a file: what of it stands there, and at which tick.
use Rattle.std.proofs.Common.{◌≡◌, ◌∙◌, ◌≤◌, ◌<◌, ◌-◌, ℕ, Bool, true, false, not, ◌&&◌, List, [], ◌∷◌, ◌++◌, map}
use Rattle.std.proofs.Common.{All, drop, refl, ap, if◌then◌else◌, arith, min, max, nat_lt, nat_le, ◌==◌}
use Rattle.std.proofs.Common.{Option, Some, None, decimal}
use Rattle.std.specs.Prelude.{option_to_list}
use Rattle.std.specs.List.{flat_map}
use Rattle.std.proofs.lemmas.Bool.{and_parts, leb-true, leb-false, ltb-true, ltb-false, eqb-true}
use Rattle.std.proofs.lemmas.List.{append-nil}
use Rattle.std.proofs.lemmas.List.Elements.{All-nil, All-cons, All-append}
use Rattle.vcd_core.specs.Decimal.{number_of, is_number}
use Rattle.vcd_core.specs.declared.capture.TheConstants.{END_LIMIT}
use Rattle.vcd_text.specs.Items.{stamp}
use Rattle.vcd_text.specs.Grammar.{ParseState, VariableDeclaration, Allows}
use Rattle.vcd_text.specs.declared.reading.choice.TickRange.{TickRange}
use Rattle.vcd_text.proofs.read_back.Decimals.{number_of-decimal}
use Rattle.vcd_text.proofs.shared.ItemTests.{has_tick}
use Rattle.vcd_copy.specs.Pieces.{Piece, stamp_line}
use Rattle.vcd_part.specs.declared.request.Request.{Request}
use Rattle.vcd_part.specs.PartPieces.{is_change_of, lasting_codes, first_pieces, last_such, on_own_line, last_stamp}
use Rattle.vcd_part.specs.PartPieces.{is_up_to_first, is_within, stamp_in_part, stamp_pieces}
use Rattle.vcd_part.specs.StandsInPart.{with_ticks}
use Rattle.vcd_part.proofs.laws.signals.SignalValues.{last_passes}
use Rattle.vcd_part.proofs.laws.states.PartStates.{code_of_change}
use Rattle.vcd_part.proofs.laws.states.Windows.{IsInOrder, upto_is, within_is, not_within_is}
use Rattle.vcd_part.proofs.laws.standing.PiecesWithTicks.{changes, stays, tick_after, ticks_of_both, tick_after_both}
use Rattle.vcd_part.proofs.laws.standing.PiecesWithTicks.{IsChange, changes_alone}

-- ---- the changes at tick 0 of a window that begins later

pub all_are_changes : (r : Request) (ds : List VariableDeclaration) (before : List Piece)
    → All IsChange (drop 1 (first_pieces r ds before))
all_are_changes r ds before = each (lasting_codes r ds)
  where
    one : (code : List ℕ) (o : Option Piece) → last_such (is_change_of ds code) before ≡ o
        → All IsChange (map on_own_line (option_to_list o))
    one code None is = All-nil IsChange
    one code (Some q) is = All-cons IsChange (on_own_line q) []
        (ap (λ (o : Option (List ℕ)). is_given o)
        (code_of_change ds code q.item (last_passes (is_change_of ds code) before q is))) (All-nil IsChange)
      where
        is_given : Option (List ℕ) → Bool
        is_given None = false
        is_given (Some x) = true

    each : (codes : List (List ℕ)) → All IsChange
        (flat_map (λ code. map on_own_line (option_to_list (last_such (is_change_of ds code) before))) codes)
    each [] = All-nil IsChange
    each (c ∷ cs) = All-append IsChange _ _ (one c (last_such (is_change_of ds c) before) refl) (each cs)

-- they are at tick 0
pub first_at_zero : (r : Request) (ds : List VariableDeclaration) (before : List Piece) (now : ℕ)
    → (with_ticks changes now (first_pieces r ds before) ≡ map (λ p. (0, p)) (drop 1 (first_pieces r ds before)))
    × (with_ticks stays now (first_pieces r ds before) ≡ []) × (tick_after now (first_pieces r ds before) ≡ 0)
unfolding with_ticks tick_after
first_at_zero r ds before now =
    let rest : List Piece = drop 1 (first_pieces r ds before) in
    let zero : number_of (decimal 0) ≡ 0 = number_of-decimal 0 (omega arith) in
    let (of_changes, of_others, last) = changes_alone 0 rest (all_are_changes r ds before) in (
      ap (λ n. with_ticks changes n rest) zero ∙ of_changes,
      ap (λ n. with_ticks stays n rest) zero ∙ of_others,
      ap (λ n. tick_after n rest) zero ∙ last,
    )

-- ---- a stamp

module _ (r : Request) (w : TickRange) (order : IsInOrder w) (s : ParseState) (before : List Piece)
    (digits space body : List ℕ) (allows : Allows s (stamp digits)) where
  abbrev p : Piece
  p = record { item = stamp digits; space = space; body = body }

  abbrev t : ℕ
  t = number_of digits

  later : s.tick ≤ t
  later = (has_tick s digits allows).1

  few : t ≤ END_LIMIT
  few = leb-true t END_LIMIT (and_parts (is_number digits) (nat_le t END_LIMIT) (has_tick s digits allows).0).1

  -- pieces that are stamps alone lead to the new tick of the part
  record StampsTo (n : ℕ) (ps : List Piece) : Type 0 where
    no_change : with_ticks changes n ps ≡ []
    no_other : with_ticks stays n ps ≡ []
    tick : tick_after n ps ≡ min w.last t - w.first

  none : (n : ℕ) → n ≡ min w.last t - w.first → StampsTo n []
  unfolding with_ticks tick_after
  none n is = record { no_change = refl; no_other = refl; tick = is }

  one : (n : ℕ) (ds space body : List ℕ) → number_of ds ≡ min w.last t - w.first
      → StampsTo n (record { item = stamp ds; space = space; body = body } ∷ [])
  unfolding with_ticks tick_after
  one n ds space body is = record { no_change = refl; no_other = refl; tick = is }

  -- the stamp in the part, or the last one of the part before it
  stamped : (n : ℕ) → n ≡ min w.last s.tick - w.first → StampsTo n (if is_within w t then stamp_in_part w p t ∷ []
      else (if nat_le s.tick w.last && nat_lt w.last t then last_stamp w s.tick else []))
  stamped n at = by_test (is_within w t) refl
    where
      in_part : (b : Bool) → (w.first == 0) ≡ b → t ≤ w.last
          → StampsTo n ((if b then p else record {
            item = stamp (decimal (t - w.first));
            space = space;
            body = 35 ∷ decimal (t - w.first);
          }) ∷ [])
      in_part true is most =
          let zero = eqb-true w.first 0 is in one n digits space body (omega (arith, zero, most))
      in_part false is most = one n (decimal (t - w.first)) space (35 ∷ decimal (t - w.first))
          (number_of-decimal (t - w.first) (omega (arith, few)) ∙ omega (arith, most))

      by_end : (b : Bool) → nat_lt (max s.tick w.first) w.last ≡ b → s.tick ≤ w.last → w.last < t
          → StampsTo n (if b then stamp_line (w.last - w.first) ∷ [] else [])
      by_end true is old past = one n (decimal (w.last - w.first)) (10 ∷ []) (35 ∷ decimal (w.last - w.first))
          (number_of-decimal (w.last - w.first) (omega (arith, past, few)) ∙ omega (arith, past))
      by_end false is old past =
          let over = ltb-false (max s.tick w.first) w.last is in
          none n (omega (arith, at, over, old, past, order.order))

      upto : (b : Bool) → is_up_to_first w t ≡ b → t ≤ w.last → is_within w t ≡ false
          → n ≡ min w.last t - w.first
      upto true is most out =
          let (some, low) = upto_is w t is in omega (arith, at, later, low, most, order.order)
      upto false is most out =
          let over = not_within_is w t out is in absurd (omega (arith, over, most))

      by_past : (x y : Bool) → nat_le s.tick w.last ≡ x → nat_lt w.last t ≡ y → is_within w t ≡ false
          → StampsTo n (if x && y then last_stamp w s.tick else [])
      by_past true true old past out = by_end (nat_lt (max s.tick w.first) w.last) refl
          (leb-true s.tick w.last old) (ltb-true w.last t past)
      by_past true false old past out =
          none n (upto (is_up_to_first w t) refl (ltb-false w.last t past) out)
      by_past false y old past out =
          let over = leb-false s.tick w.last old in none n (omega (arith, at, over, later))

      by_test : (b : Bool) → is_within w t ≡ b → StampsTo n (if b then stamp_in_part w p t ∷ []
          else (if nat_le s.tick w.last && nat_lt w.last t then last_stamp w s.tick else []))
      by_test true is = in_part (w.first == 0) refl (within_is w t is).1
      by_test false is = by_past (nat_le s.tick w.last) (nat_lt w.last t) refl refl is

  -- what the stamp leads to: the changes at tick 0 of the part come first, if it is the first one past them
  pub record StampStep (n : ℕ) : Type 0 where
    pub changes_are : with_ticks changes n (stamp_pieces r w s before p t)
        ≡ (if is_up_to_first w s.tick && not (is_up_to_first w t)
        then map (λ q. (0, q)) (drop 1 (first_pieces r s.declared before)) else [])
    pub no_other : with_ticks stays n (stamp_pieces r w s before p t) ≡ []
    pub tick : tick_after n (stamp_pieces r w s before p t) ≡ min w.last t - w.first

  pub stamp_step : (n : ℕ) → n ≡ min w.last s.tick - w.first → StampStep n
  unfolding with_ticks tick_after
  stamp_step n at = by_test (is_up_to_first w s.tick && not (is_up_to_first w t)) refl
    where
      stamps : List Piece
      stamps = if is_within w t then stamp_in_part w p t ∷ []
          else (if nat_le s.tick w.last && nat_lt w.last t then last_stamp w s.tick else [])

      -- after the changes at tick 0 the part is at that tick
      firsts : (b : Bool) → (is_up_to_first w s.tick && not (is_up_to_first w t)) ≡ b →
          let fs : List Piece = if b then first_pieces r s.declared before else [] in
          (with_ticks changes n fs ≡ (if b then map (λ q. (0, q)) (drop 1 (first_pieces r s.declared before)) else []))
          × (with_ticks stays n fs ≡ []) × (tick_after n fs ≡ n)
      firsts true is =
          let (of_changes, of_others, last) = first_at_zero r s.declared before n in
          let (up, past) = and_parts (is_up_to_first w s.tick) (not (is_up_to_first w t)) is in
          let (some, low) = upto_is w s.tick up in
          (of_changes, of_others, last ∙ omega (arith, at, low))
      firsts false is = (refl, refl, refl)

      by_test : (b : Bool) → (is_up_to_first w s.tick && not (is_up_to_first w t)) ≡ b → StampStep n
      by_test b is =
          let fs : List Piece = if is_up_to_first w s.tick && not (is_up_to_first w t)
          then first_pieces r s.declared before else [] in
          let (of_changes, of_others, at_same) = firsts (is_up_to_first w s.tick && not (is_up_to_first w t)) refl in
          let rest = stamped n at in
          record {
            changes_are = ticks_of_both changes n fs stamps
                ∙ (λ i. of_changes i ++ with_ticks changes (at_same i) stamps)
                ∙ ap (λ l. (if is_up_to_first w s.tick && not (is_up_to_first w t)
                then map (λ q. (0, q)) (drop 1 (first_pieces r s.declared before)) else []) ++ l) rest.no_change
                ∙ append-nil _;
            no_other = ticks_of_both stays n fs stamps ∙ (λ i. of_others i ++ with_ticks stays (at_same i) stamps)
                ∙ rest.no_other;
            tick = tick_after_both n fs stamps ∙ ap (λ k. tick_after k stamps) at_same ∙ rest.tick;
          }
