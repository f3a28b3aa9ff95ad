-- What of a file stands in its part, and at which tick, one piece after another.
use Rattle.std.proofs.Common.{◌≡◌, ◌∙◌, ◌-◌, ◌<◌, ◌≤◌, ◌⊎◌, ℕ, Bool, true, false, not, ◌&&◌, ◌||◌, List, [], ◌∷◌}
use Rattle.std.proofs.Common.{◌++◌, map, min, drop, refl, sym, ap, subst, if◌then◌else◌, arith, nat_lt, append_assoc}
use Rattle.std.proofs.Common.{inl, inr}
use Rattle.std.specs.Prelude.{Result, Ok, Err, filter, option_to_list, nat_le}
use Rattle.std.specs.List.{list_any}
use Rattle.std.proofs.lemmas.Bool.{false≢true, and_parts, le-leb, le-ltb, lt-ltb}
use Rattle.std.proofs.lemmas.List.{append-nil, map-append}
use Rattle.std.proofs.lemmas.List.Elements.{filter-append}
use Rattle.vcd_core.specs.Decimal.{number_of}
use Rattle.vcd_text.specs.Items.{Item, entry, timescale, scope, upscope, variable, end_definitions, stamp, scalar}
use Rattle.vcd_text.specs.Items.{vector, real_or_string, dump_word, other}
use Rattle.vcd_text.specs.Grammar.{ParseState, VariableDeclaration, Allows, AllowsAll, state_after, state_after_item}
use Rattle.vcd_text.specs.Grammar.{declaration_of, initial_state}
use Rattle.vcd_text.specs.declared.reading.choice.TickRange.{TickRange}
use Rattle.vcd_copy.specs.Pieces.{Piece, state_of_pieces}
use Rattle.vcd_copy.specs.Copied.{may_be_amended, piece_items}
use Rattle.vcd_copy.specs.Ticks.{tick_after_item}
use Rattle.vcd_part.specs.declared.request.Request.{Request}
use Rattle.vcd_part.specs.declared.request.Refusal.{Refusal}
use Rattle.vcd_part.specs.Requests.{decide, keeps}
use Rattle.vcd_part.specs.PartPieces.{is_up_to_first, is_within, is_used, first_pieces, body_in_part}
use Rattle.vcd_part.specs.PartPieces.{pieces_after_state}
use Rattle.vcd_part.specs.PartPieces.{declaration_in_part, ended_in_part, ended_pieces, part_after, part_pieces}
use Rattle.vcd_part.specs.PartPieces.{change_in_part, kept_count, all_count, comment_piece}
use Rattle.vcd_part.specs.PartLaws.{HasPart}
use Rattle.vcd_part.specs.StandsInPart.{is_used_change, with_ticks, retimed, pieces_up_to}
use Rattle.vcd_part.specs.StandsInPart.{StandInPart}
use Rattle.vcd_part.proofs.laws.states.StatesInTurn.{without_limit, next_state, no_body, no_end, body_stays}
use Rattle.vcd_part.proofs.laws.states.Windows.{IsInOrder, decided_in_order, upto_is, past_is, past_from}
use Rattle.vcd_part.proofs.laws.standing.PiecesWithTicks.{changes, stays, one_with_tick, tick_after, ticks_of_both}
use Rattle.vcd_part.proofs.laws.standing.PiecesWithTicks.{other_item, without_ticks}
use Rattle.vcd_part.proofs.laws.standing.StandingSteps.{first_at_zero, stamp_step}
use Rattle.vcd_text.proofs.shared.ItemTests.{has_tick}

-- the tick of the state is that of the items
same_tick : (s : ParseState) (i : Item) → (state_after_item s i).tick ≡ tick_after_item s.tick i
same_tick s (entry kind words) = refl
same_tick s (timescale words) = refl
same_tick s (scope kind words) = refl
same_tick s upscope = refl
same_tick s (variable words) = refl
same_tick s end_definitions = refl
same_tick s (stamp digits) = refl
same_tick s (scalar digit code) = refl
same_tick s (vector first digits code) = refl
same_tick s (real_or_string first text code) = refl
same_tick s (dump_word word) = refl
same_tick s (other word words) = refl

or_false : (b : Bool) → (b || false) ≡ b
or_false true = refl
or_false false = refl

never : (b c : Bool) → b ≡ false → (b && c) ≡ true → ⊥
never b c early fits = false≢true (sym early ∙ (and_parts b c fits).0)

-- a piece, or none
abbrev made_if : Piece → Bool → List Piece
made_if p b = if b then p ∷ [] else []

module _ (r : Request) (w : TickRange) (order : IsInOrder w) (ds : List VariableDeclaration) where
  -- the changes at tick 0, if they are still to come
  abbrev ahead : Bool → List Piece → List (ℕ × Piece)
  ahead up before = if up then map (λ p. (0, p)) (drop 1 (first_pieces r ds before)) else []

  abbrev in_window : ℕ × Piece → Bool
  in_window q = is_within w q.0 && is_used_change r ds q.1.item

  abbrev tick_in_part : ℕ → ℕ
  tick_in_part t = min w.last t - w.first

  -- what the pieces in the place of one have
  record Step (s : ParseState) (before : List Piece) (p : Piece) (ps : List Piece) (n : ℕ) (made : List Piece) : Type 0
    where
      changes_are : (rest : List (ℕ × Piece)) → with_ticks changes n made
          ++ (ahead (is_up_to_first w (tick_after_item s.tick p.item))
          ((before ++ p ∷ []) ++ pieces_up_to w.first ps) ++ rest)
          ≡ ahead (is_up_to_first w s.tick) (before ++ pieces_up_to w.first (p ∷ ps))
          ++ (retimed w (filter in_window (one_with_tick changes s.tick p)) ++ rest)
      tick : tick_after n made ≡ tick_in_part (tick_after_item s.tick p.item)

  -- and of what stands whatever the part
  abbrev OthersStand : ParseState → Piece → (n : ℕ) → (made : List Piece) → Type 0
  OthersStand s p n made = with_ticks stays n made ≡ retimed w (one_with_tick stays s.tick p)

  -- an item that keeps the tick is among those up to the first tick
  up_to_more : (before : List Piece) (p : Piece) (ps : List Piece) → ((now : ℕ) → tick_after_item now p.item ≡ now)
      → (before ++ p ∷ []) ++ pieces_up_to w.first ps ≡ before ++ pieces_up_to w.first (p ∷ ps)
  unfolding pieces_up_to
  up_to_more before p ps held = append_assoc before (p ∷ []) (pieces_up_to w.first ps)
      ∙ ap (λ b. before ++ (if b then [] else p ∷ pieces_up_to w.first ps))
      (sym (ap (nat_lt w.first) (held 0) ∙ le-ltb w.first 0 (omega arith)))

  -- pieces without a change in the place of a piece that is none
  no_change : (s : ParseState) (before : List Piece) (p : Piece) (ps : List Piece) (n : ℕ) (made : List Piece)
      → n ≡ tick_in_part s.tick → ((now : ℕ) → tick_after_item now p.item ≡ now) → changes p.item ≡ false
      → with_ticks changes n made ≡ [] → tick_after n made ≡ n → Step s before p ps n made
  no_change s before p ps n made at held isnt none same = record {
    changes_are = λ rest. ap (λ l. l ++ (ahead (is_up_to_first w (tick_after_item s.tick p.item))
        ((before ++ p ∷ []) ++ pieces_up_to w.first ps) ++ rest)) none
        ∙ (λ i. ahead (is_up_to_first w (held s.tick i)) (up_to_more before p ps held i) ++ rest)
        ∙ ap (λ b. ahead (is_up_to_first w s.tick) (before ++ pieces_up_to w.first (p ∷ ps))
        ++ (retimed w (filter in_window (if b then (s.tick, p) ∷ [] else [])) ++ rest)) (sym isnt);
    tick = same ∙ at ∙ ap tick_in_part (sym (held s.tick));
  }

  -- ---- a piece that no rule may amend

  module _ (s : ParseState) (before : List Piece) (p : Piece) (ps : List Piece) (n : ℕ)
      (at : n ≡ tick_in_part s.tick) (isnt : may_be_amended p.item ≡ false) where
    other_is : pieces_after_state r s before p ≡ p ∷ []
    other_is = ap (λ b. if not b then p ∷ []
        else (if s.in_body then body_in_part r s before p p.item (decide r s.timescale s.declared)
        else declaration_in_part r s p p.item)) isnt

    other_step : Step s before p ps n (pieces_after_state r s before p)
        × OthersStand s p n (pieces_after_state r s before p)
    unfolding with_ticks tick_after
    other_step =
        let (none, held) = other_item p.item isnt in (
          subst (Step s before p ps n) (sym other_is) (no_change s before p ps n (p ∷ []) at held none
              (ap (λ b. (if b then (n, p) ∷ [] else []) ++ []) none) (held n)),
          subst (OthersStand s p n) (sym other_is)
              ((λ i. (if not (isnt i) then (at i, p) ∷ [] else []) ++ [])
              ∙ ap (λ b. retimed w (if not b then (s.tick, p) ∷ [] else [])) (sym isnt)),
        )

  -- ---- in the body

  module _ (s : ParseState) (before : List Piece) (ps : List Piece) (n : ℕ) (at : n ≡ tick_in_part s.tick)
      (body : s.in_body ≡ true) (declared : s.declared ≡ ds) (decided : decide r s.timescale s.declared ≡ Ok w) where
    abbrev Both : Piece → Type 0
    Both p = Step s before p ps n (pieces_after_state r s before p)
        × OthersStand s p n (pieces_after_state r s before p)

    body_is : (p : Piece) → may_be_amended p.item ≡ true
        → pieces_after_state r s before p ≡ body_in_part r s before p p.item (Ok w)
    body_is p amended = ap (λ b. if not b then p ∷ [] else (if s.in_body then body_in_part r s before p p.item
        (decide r s.timescale s.declared) else declaration_in_part r s p p.item)) amended
        ∙ ap (λ b. if b then body_in_part r s before p p.item (decide r s.timescale s.declared)
        else declaration_in_part r s p p.item) body
        ∙ ap (λ (o : Result TickRange Refusal). body_in_part r s before p p.item o) decided

    module _ (space bytes : List ℕ) where
      abbrev piece : Item → Piece
      piece i = record { item = i; space = space; body = bytes }

      as_body : (i : Item) → may_be_amended i ≡ true → (made : List Piece)
          → body_in_part r s before (piece i) i (Ok w) ≡ made
          → Step s before (piece i) ps n made × OthersStand s (piece i) n made → Both (piece i)
      as_body i amended made is both =
          let same = sym (body_is (piece i) amended ∙ is) in
          (subst (Step s before (piece i) ps n) same both.0, subst (OthersStand s (piece i) n) same both.1)

      -- a stamp
      stamp_both : (digits : List ℕ) → Allows s (stamp digits) → Both (piece (stamp digits))
      unfolding pieces_up_to
      stamp_both digits allows =
          let step = stamp_step r w order s before digits space bytes allows n at in
          as_body (stamp digits) refl _ refl (
            record {
              changes_are = λ rest. ap (λ l. l ++ (ahead (is_up_to_first w (number_of digits))
                  ((before ++ piece (stamp digits) ∷ []) ++ pieces_up_to w.first ps) ++ rest)) step.changes_are
                  ∙ crossed rest (is_up_to_first w s.tick) (is_up_to_first w (number_of digits)) refl refl;
              tick = step.tick;
            },
            step.no_other,
          )
        where
          crossed : (rest : List (ℕ × Piece)) (x y : Bool) → is_up_to_first w s.tick ≡ x
              → is_up_to_first w (number_of digits) ≡ y
              → (if x && not y then map (λ q. (0, q)) (drop 1 (first_pieces r s.declared before)) else [])
              ++ (ahead y ((before ++ piece (stamp digits) ∷ []) ++ pieces_up_to w.first ps) ++ rest)
              ≡ ahead x (before ++ pieces_up_to w.first (piece (stamp digits) ∷ ps)) ++ rest
          crossed rest true true up still =
              let (some, low) = upto_is w (number_of digits) still in
              ap (λ l. ahead true l ++ rest) (append_assoc before (piece (stamp digits) ∷ []) (pieces_up_to w.first ps)
              ∙ ap (λ b. before ++ (if b then [] else piece (stamp digits) ∷ pieces_up_to w.first ps))
              (sym (not_past low)))
            where
              not_past : number_of digits ≤ w.first → nat_lt w.first (number_of digits) ≡ false
              not_past low = le-ltb w.first (number_of digits) low
          crossed rest true false up past =
              let (some, low) = upto_is w s.tick up in
              ap (λ (d : List VariableDeclaration). map (λ q. (0, q)) (drop 1 (first_pieces r d before)) ++ rest)
              declared
              ∙ ap (λ l. ahead true l ++ rest) (sym (append-nil before)
              ∙ ap (λ b. before ++ (if b then [] else piece (stamp digits) ∷ pieces_up_to w.first ps))
              (sym (is_past some (past_is w (number_of digits) past))))
            where
              is_past : 0 < w.first → (w.first ≡ 0) ⊎ (w.first < number_of digits)
                  → nat_lt w.first (number_of digits) ≡ true
              is_past some (inl zero) = absurd (omega (arith, some, zero))
              is_past some (inr more) = lt-ltb w.first (number_of digits) more
          crossed rest false true up still = absurd (false≢true (sym (past_from w (number_of digits)
              (goes_on (past_is w s.tick up))) ∙ still))
            where
              later : s.tick ≤ number_of digits
              later = (has_tick s digits allows).1

              goes_on : (w.first ≡ 0) ⊎ (w.first < s.tick) → (w.first ≡ 0) ⊎ (w.first < number_of digits)
              goes_on (inl zero) = inl zero
              goes_on (inr past) = inr (omega (arith, past, later))
          crossed rest false false up past = refl

      -- a change of a code
      change_both : (i : Item) (code : List ℕ) → may_be_amended i ≡ true → changes i ≡ true → stays i ≡ false
          → is_used_change r ds i ≡ (is_used r ds code || false) → ((now : ℕ) → tick_after_item now i ≡ now)
          → body_in_part r s before (piece i) i (Ok w) ≡ change_in_part r w s (piece i) code → Both (piece i)
      unfolding with_ticks tick_after
      change_both i code amended is no_other used held made =
          as_body i amended (change_in_part r w s (piece i) code) made
          (by_test (is_up_to_first w s.tick) (is_within w s.tick && is_used r s.declared code) refl refl)
        where
          one_tick : (b : Bool) → (with_ticks changes n (made_if (piece i) b) ≡ (if b then (n, piece i) ∷ [] else []))
              × (with_ticks stays n (made_if (piece i) b) ≡ []) × (tick_after n (made_if (piece i) b) ≡ n)
          one_tick true = (
            ap (λ b. (if b then (n, piece i) ∷ [] else []) ++ []) is,
            ap (λ b. (if b then (n, piece i) ∷ [] else []) ++ []) no_other,
            held n,
          )
          one_tick false = (refl, refl, refl)

          same_test : in_window (s.tick, piece i) ≡ (is_within w s.tick && is_used r s.declared code)
          same_test = ap (λ b. is_within w s.tick && b) (used ∙ or_false (is_used r ds code)
              ∙ ap (λ (d : List VariableDeclaration). is_used r d code) (sym declared))

          by_test : (up b : Bool) → is_up_to_first w s.tick ≡ up
              → (is_within w s.tick && is_used r s.declared code) ≡ b
              → Step s before (piece i) ps n (made_if (piece i) b) × OthersStand s (piece i) n (made_if (piece i) b)
          by_test up b upto test =
              let (of_changes, of_others, last) = one_tick b in (
                record {
                  changes_are = λ rest. (λ j. of_changes j ++ (ahead (is_up_to_first w (held s.tick j))
                      (up_to_more before (piece i) ps held j) ++ rest)) ∙ moved up b upto test rest
                      ∙ ap (λ c. ahead (is_up_to_first w s.tick) (before ++ pieces_up_to w.first (piece i ∷ ps))
                      ++ (retimed w (filter in_window (if c then (s.tick, piece i) ∷ [] else [])) ++ rest)) (sym is);
                  tick = last ∙ at ∙ ap tick_in_part (sym (held s.tick));
                },
                of_others ∙ ap (λ c. retimed w (if c then (s.tick, piece i) ∷ [] else [])) (sym no_other),
              )
            where
              moved : (up b : Bool) → is_up_to_first w s.tick ≡ up
                  → (is_within w s.tick && is_used r s.declared code) ≡ b → (rest : List (ℕ × Piece)) →
                  let l : List Piece = before ++ pieces_up_to w.first (piece i ∷ ps) in
                  (if b then (n, piece i) ∷ [] else []) ++ (ahead (is_up_to_first w s.tick) l ++ rest)
                  ≡ ahead (is_up_to_first w s.tick) l ++ (retimed w (filter in_window ((s.tick, piece i) ∷ [])) ++ rest)
              moved up false upto test rest =
                  ap (λ c. ahead (is_up_to_first w s.tick) (before ++ pieces_up_to w.first (piece i ∷ ps))
                  ++ (retimed w (if c then (s.tick, piece i) ∷ [] else []) ++ rest)) (sym (same_test ∙ test))
              moved true true upto test rest = absurd (false≢true
                  (ap (λ c. (not c && nat_le s.tick w.last) && is_used r s.declared code) (sym upto) ∙ test))
              moved false true upto test rest =
                  (λ j. (at j, piece i) ∷ (ahead (upto j) (before ++ pieces_up_to w.first (piece i ∷ ps)) ++ rest))
                  ∙ (λ j. ahead (sym upto j) (before ++ pieces_up_to w.first (piece i ∷ ps))
                  ++ (retimed w (if sym (same_test ∙ test) j then (s.tick, piece i) ∷ [] else []) ++ rest))

      body_both : (i : Item) → Allows s i → Both (piece i)
      body_both (entry kind words) allows = absurd (no_body s.in_body _ allows.0 body)
      body_both (timescale words) allows = absurd (no_body s.in_body _ allows.0 body)
      body_both (scope kind words) allows = absurd (no_body s.in_body _ allows.0 body)
      body_both upscope allows = absurd (no_body s.in_body _ allows.0 body)
      body_both (variable words) allows = absurd (no_body s.in_body _ allows.0 body)
      body_both end_definitions allows = absurd (no_end s.in_body allows.0 body)
      body_both (stamp digits) allows = stamp_both digits allows
      body_both (scalar digit code) allows =
          change_both (scalar digit code) code refl refl refl refl (λ now. refl) refl
      body_both (vector first digits code) allows =
          change_both (vector first digits code) code refl refl refl refl (λ now. refl) refl
      body_both (real_or_string first text code) allows =
          change_both (real_or_string first text code) code refl refl refl refl (λ now. refl) refl
      body_both (dump_word word) allows = other_step s before (piece (dump_word word)) ps n at refl
      body_both (other word words) allows = other_step s before (piece (other word words)) ps n at refl

  -- ---- among the declarations

  module _ (s : ParseState) (before : List Piece) (ps : List Piece) (n : ℕ) (at : n ≡ tick_in_part s.tick)
      (early : s.in_body ≡ false) (p : Piece) where
    declared_is : may_be_amended p.item ≡ true → pieces_after_state r s before p ≡ declaration_in_part r s p p.item
    declared_is amended = ap (λ b. if not b then p ∷ [] else (if s.in_body then body_in_part r s before p p.item
        (decide r s.timescale s.declared) else declaration_in_part r s p p.item)) amended
        ∙ ap (λ b. if b then body_in_part r s before p p.item (decide r s.timescale s.declared)
        else declaration_in_part r s p p.item) early

    -- a `$var`, which is kept or goes
    variable_both : (words : List (List ℕ)) → p.item ≡ variable words
        → Step s before p ps n (pieces_after_state r s before p)
        × OthersStand s p n (pieces_after_state r s before p)
    unfolding with_ticks tick_after
    variable_both words is =
        let made : pieces_after_state r s before p
        ≡ (if list_any (keeps r) (option_to_list (declaration_of s words)) then p ∷ [] else []) =
        declared_is (ap may_be_amended is) ∙ ap (declaration_in_part r s p) is in
        let keeps_tick : (now : ℕ) → tick_after_item now p.item ≡ now = λ now. ap (tick_after_item now) is in
        let none = one_variable (list_any (keeps r) (option_to_list (declaration_of s words))) in (
          subst (Step s before p ps n) (sym made)
              (no_change s before p ps n _ at keeps_tick (ap changes is) none.0 none.2),
          subst (OthersStand s p n) (sym made)
              (none.1 ∙ ap (λ i. retimed w (if stays i then (s.tick, p) ∷ [] else [])) (sym is)),
        )
      where
        one_variable : (b : Bool) → (with_ticks changes n (if b then p ∷ [] else []) ≡ [])
            × (with_ticks stays n (if b then p ∷ [] else []) ≡ []) × (tick_after n (if b then p ∷ [] else []) ≡ n)
        one_variable true = (
          ap (λ i. (if changes i then (n, p) ∷ [] else []) ++ []) is,
          ap (λ i. (if stays i then (n, p) ∷ [] else []) ++ []) is,
          ap (tick_after_item n) is,
        )
        one_variable false = (refl, refl, refl)

    -- the end of the declarations
    end_step : p.item ≡ end_definitions → Step s before p ps n (pieces_after_state r s before p)
    unfolding with_ticks tick_after
    end_step is =
        let made : pieces_after_state r s before p ≡ ended_in_part r s.declared p (decide r s.timescale s.declared) =
        declared_is (ap may_be_amended is) ∙ ap (declaration_in_part r s p) is in
        let none = one_end (decide r s.timescale s.declared) in
        subst (Step s before p ps n) (sym made) (no_change s before p ps n _ at (λ now. ap (tick_after_item now) is)
        (ap changes is) none.0 none.1)
      where
        one_end : (o : Result TickRange Refusal) → (with_ticks changes n (ended_in_part r s.declared p o) ≡ [])
            × (tick_after n (ended_in_part r s.declared p o) ≡ n)
        one_end (Ok v) = (
          ap (λ i. (if changes i then (n, record p { space = 10 ∷ [] }) ∷ [] else []) ++ []) is,
          ap (tick_after_item n) is,
        )
        one_end (Err e) = (refl, refl)

    comment_comes : p.item ≡ end_definitions → s.declared ≡ ds → decide r s.timescale s.declared ≡ Ok w
        → with_ticks stays n (pieces_after_state r s before p)
        ≡ (n, comment_piece w (kept_count r ds) (all_count ds) p.space) ∷ []
    unfolding with_ticks
    comment_comes is declared decided =
        ap (with_ticks stays n) (declared_is (ap may_be_amended is) ∙ ap (declaration_in_part r s p) is
        ∙ ap (ended_in_part r s.declared p) decided)
        ∙ ap (λ (d : List VariableDeclaration). (n, comment_piece w (kept_count r d) (all_count d) p.space)
        ∷ (if stays p.item then (n, record p { space = 10 ∷ [] }) ∷ [] else []) ++ []) declared
        ∙ ap (λ i. (n, comment_piece w (kept_count r ds) (all_count ds) p.space)
        ∷ (if stays i then (n, record p { space = 10 ∷ [] }) ∷ [] else []) ++ []) is

  -- ---- all pieces

  -- the file ends in the body, with these variables, and the request asks for this window
  record EndsWith (s : ParseState) (items : List Item) : Type 0 where
    allowed : AllowsAll s items
    in_body : (state_after s items).in_body ≡ true
    declared : (state_after s items).declared ≡ ds
    decided : decide r (state_after s items).timescale (state_after s items).declared ≡ Ok w

  further : (s : ParseState) (i : Item) (is : List Item) → EndsWith s (i ∷ is) → EndsWith (state_after_item s i) is
  further s i is ends =
      record { allowed = ends.allowed.1; in_body = ends.in_body; declared = ends.declared; decided = ends.decided }

  -- what is known of a state in the body
  known : (s : ParseState) (is : List Item) → EndsWith s is → s.in_body ≡ true
      → (s.declared ≡ ds) × (decide r s.timescale s.declared ≡ Ok w)
  known s is ends body =
      let stays = body_stays s is ends.allowed body in (
        sym stays.declared ∙ ends.declared,
        (λ i. decide r (sym stays.timescale i) (sym stays.declared i)) ∙ ends.decided,
      )

  any_step : (s : ParseState) (before : List Piece) (p : Piece) (ps : List Piece) (n : ℕ) → n ≡ tick_in_part s.tick
      → EndsWith s (piece_items (p ∷ ps)) → Step s before p ps n (pieces_after_state r s before p)
  any_step s before p ps n at ends = by_body s.in_body refl
    where
      declared_step : (i : Item) → p.item ≡ i → s.in_body ≡ false → Allows s i
          → Step s before p ps n (pieces_after_state r s before p)
      declared_step (variable words) is early allows = (variable_both s before ps n at early p words is).0
      declared_step end_definitions is early allows = end_step s before ps n at early p is
      declared_step (stamp digits) is early allows = absurd (false≢true (sym early ∙ allows.0))
      declared_step (scalar digit code) is early allows = absurd (never s.in_body _ early allows.0)
      declared_step (vector first digits code) is early allows = absurd (never s.in_body _ early allows.0)
      declared_step (real_or_string first text code) is early allows = absurd (never s.in_body _ early allows.0)
      declared_step (entry kind words) is early allows = (other_step s before p ps n at (ap may_be_amended is)).0
      declared_step (timescale words) is early allows = (other_step s before p ps n at (ap may_be_amended is)).0
      declared_step (scope kind words) is early allows = (other_step s before p ps n at (ap may_be_amended is)).0
      declared_step upscope is early allows = (other_step s before p ps n at (ap may_be_amended is)).0
      declared_step (dump_word word) is early allows = (other_step s before p ps n at (ap may_be_amended is)).0
      declared_step (other word words) is early allows = (other_step s before p ps n at (ap may_be_amended is)).0

      by_body : (b : Bool) → s.in_body ≡ b → Step s before p ps n (pieces_after_state r s before p)
      by_body true body =
          let (declared, decided) = known s (piece_items (p ∷ ps)) ends body in
          (body_both s before ps n at body declared decided p.space p.body p.item ends.allowed.0).0
      by_body false early = declared_step p.item refl early ends.allowed.0

  end_is : (before : List Piece) (s : ParseState) → state_of_pieces 0 before ≡ without_limit s → EndsWith s []
      → part_after r before [] ≡ (if is_up_to_first w s.tick then first_pieces r ds before else [])
  unfolding part_after
  end_is before s same ends =
      ap (λ (x : ParseState). ended_pieces r x before (decide r x.timescale x.declared)) same
      ∙ ap (ended_pieces r s before) ends.decided
      ∙ ap (λ (d : List VariableDeclaration). if is_up_to_first w s.tick then first_pieces r d before else [])
      ends.declared

  all_changes : (before ps : List Piece) (s : ParseState) (n : ℕ) → n ≡ tick_in_part s.tick
      → state_of_pieces 0 before ≡ without_limit s → EndsWith s (piece_items ps)
      → with_ticks changes n (part_after r before ps)
      ≡ ahead (is_up_to_first w s.tick) (before ++ pieces_up_to w.first ps)
      ++ retimed w (filter in_window (with_ticks changes s.tick ps))
  unfolding part_after with_ticks pieces_up_to
  all_changes before [] s n at same ends =
      ap (with_ticks changes n) (end_is before s same ends) ∙ by_test (is_up_to_first w s.tick)
    where
      by_test : (b : Bool) → with_ticks changes n (if b then first_pieces r ds before else [])
          ≡ ahead b (before ++ []) ++ []
      by_test true = (first_at_zero r ds before n).0 ∙ ap (λ l. ahead true l) (sym (append-nil before))
          ∙ sym (append-nil (ahead true (before ++ [])))
      by_test false = refl
  all_changes before (p ∷ ps) s n at same ends =
      let made : List Piece = pieces_after_state r s before p in
      let step = any_step s before p ps n at ends in
      let t : ℕ = tick_after_item s.tick p.item in
      let later : List (ℕ × Piece) = with_ticks changes t ps in
      let rest = all_changes (before ++ p ∷ []) ps (state_after_item s p.item) (tick_after n made)
      (step.tick ∙ ap tick_in_part (sym (same_tick s p.item))) (next_state before p s same)
      (further s p.item (piece_items ps) ends) in
      ap (λ (x : ParseState). with_ticks changes n (pieces_after_state r x before p
      ++ part_after r (before ++ p ∷ []) ps)) same
      ∙ ticks_of_both changes n made (part_after r (before ++ p ∷ []) ps)
      ∙ ap (λ l. with_ticks changes n made ++ l) (rest
      ∙ ap (λ k. ahead (is_up_to_first w k) ((before ++ p ∷ []) ++ pieces_up_to w.first ps)
      ++ retimed w (filter in_window (with_ticks changes k ps))) (same_tick s p.item))
      ∙ step.changes_are (retimed w (filter in_window later))
      ∙ ap (λ l. ahead (is_up_to_first w s.tick) (before ++ pieces_up_to w.first (p ∷ ps)) ++ l)
      (sym (ap (retimed w) (filter-append in_window (one_with_tick changes s.tick p) later)
      ∙ map-append (λ q. (min w.last q.0 - w.first, q.1)) (filter in_window (one_with_tick changes s.tick p))
      (filter in_window later)))

  -- ---- what stands whatever the part

  body_others : (before ps : List Piece) (s : ParseState) (n : ℕ) → n ≡ tick_in_part s.tick
      → state_of_pieces 0 before ≡ without_limit s → EndsWith s (piece_items ps) → s.in_body ≡ true
      → with_ticks stays n (part_after r before ps) ≡ retimed w (with_ticks stays s.tick ps)
  unfolding part_after with_ticks
  body_others before [] s n at same ends body =
      ap (with_ticks stays n) (end_is before s same ends) ∙ by_test (is_up_to_first w s.tick)
    where
      by_test : (b : Bool) → with_ticks stays n (if b then first_pieces r ds before else []) ≡ []
      by_test true = (first_at_zero r ds before n).1
      by_test false = refl
  body_others before (p ∷ ps) s n at same ends body =
      let made : List Piece = pieces_after_state r s before p in
      let (declared, decided) = known s (piece_items (p ∷ ps)) ends body in
      let both = body_both s before ps n at body declared decided p.space p.body p.item ends.allowed.0 in
      let still = (body_stays s (p.item ∷ []) (ends.allowed.0, tt) body).in_body in
      let rest = body_others (before ++ p ∷ []) ps (state_after_item s p.item) (tick_after n made)
      (both.0.tick ∙ ap tick_in_part (sym (same_tick s p.item))) (next_state before p s same)
      (further s p.item (piece_items ps) ends) still in
      ap (λ (x : ParseState). with_ticks stays n (pieces_after_state r x before p
      ++ part_after r (before ++ p ∷ []) ps)) same
      ∙ ticks_of_both stays n made (part_after r (before ++ p ∷ []) ps)
      ∙ (λ i. both.1 i ++ (rest ∙ ap (λ k. retimed w (with_ticks stays k ps)) (same_tick s p.item)) i)
      ∙ sym (map-append (λ q. (min w.last q.0 - w.first, q.1)) (one_with_tick stays s.tick p)
      (with_ticks stays (tick_after_item s.tick p.item) ps))

  -- in two, with the comment between
  record InTwoOthers (s : ParseState) (ps : List Piece) (n : ℕ) (made : List Piece) : Type 0 where
    first : List (ℕ × Piece)
    later : List (ℕ × Piece)
    space : List ℕ
    others : retimed w (with_ticks stays s.tick ps) ≡ first ++ later
    others_in_part : with_ticks stays n made
        ≡ first ++ (0, comment_piece w (kept_count r ds) (all_count ds) space) ∷ later

  all_others : (before ps : List Piece) (s : ParseState) (n : ℕ) → n ≡ tick_in_part s.tick
      → state_of_pieces 0 before ≡ without_limit s → EndsWith s (piece_items ps) → s.in_body ≡ false → s.tick ≡ 0
      → InTwoOthers s ps n (part_after r before ps)
  unfolding part_after with_ticks
  all_others before [] s n at same ends early zero = absurd (false≢true (sym early ∙ ends.in_body))
  all_others before (p ∷ ps) s n at same ends early zero = by_item (λ m now still none.
      all_others (before ++ p ∷ []) ps (state_after_item s p.item) m now (next_state before p s same)
      (further s p.item (piece_items ps) ends) still none) p.item refl ends.allowed.0
    where
      Next : Type 0
      Next = (m : ℕ) → m ≡ tick_in_part (state_after_item s p.item).tick → (state_after_item s p.item).in_body ≡ false
          → (state_after_item s p.item).tick ≡ 0
          → InTwoOthers (state_after_item s p.item) ps m (part_after r (before ++ p ∷ []) ps)

      made : List Piece
      made = pieces_after_state r s before p

      part : with_ticks stays n (part_after r before (p ∷ ps))
          ≡ with_ticks stays n made ++ with_ticks stays (tick_after n made) (part_after r (before ++ p ∷ []) ps)
      part = ap (λ (x : ParseState). with_ticks stays n (pieces_after_state r x before p
          ++ part_after r (before ++ p ∷ []) ps)) same
          ∙ ticks_of_both stays n made (part_after r (before ++ p ∷ []) ps)

      -- a piece that does not end the declarations
      goes_on : Next → Step s before p ps n made × OthersStand s p n made → (state_after_item s p.item).in_body ≡ false
          → ((now : ℕ) → tick_after_item now p.item ≡ now) → InTwoOthers s (p ∷ ps) n (part_after r before (p ∷ ps))
      goes_on next both still held =
          let rest = next (tick_after n made) (both.0.tick ∙ ap tick_in_part (sym (same_tick s p.item))) still
          (same_tick s p.item ∙ held s.tick ∙ zero) in
          let here : List (ℕ × Piece) = retimed w (one_with_tick stays s.tick p) in
          record {
            first = here ++ rest.first;
            later = rest.later;
            space = rest.space;
            others = map-append (λ q. (min w.last q.0 - w.first, q.1)) (one_with_tick stays s.tick p)
                (with_ticks stays (tick_after_item s.tick p.item) ps)
                ∙ ap (λ l. here ++ l) (ap (λ k. retimed w (with_ticks stays k ps)) (sym (same_tick s p.item))
                ∙ rest.others) ∙ sym (append_assoc here rest.first rest.later);
            others_in_part = part ∙ (λ i. both.1 i ++ rest.others_in_part i)
                ∙ sym (append_assoc here rest.first _);
          }

      -- the one that does
      ended : p.item ≡ end_definitions → InTwoOthers s (p ∷ ps) n (part_after r before (p ∷ ps))
      ended is =
          let now_in_body : (state_after_item s p.item).in_body ≡ true =
          ap (λ i. (state_after_item s i).in_body) is in
          let after = further s p.item (piece_items ps) ends in
          let (declared, decided) = known (state_after_item s p.item) (piece_items ps) after now_in_body in
          let own : s.declared ≡ ds = ap (λ i. (state_after_item s i).declared) (sym is) ∙ declared in
          let asked : decide r s.timescale s.declared ≡ Ok w =
          ap (λ i. decide r (state_after_item s i).timescale (state_after_item s i).declared) (sym is) ∙ decided in
          let rest = body_others (before ++ p ∷ []) ps (state_after_item s p.item) (tick_after n made)
          ((any_step s before p ps n at ends).tick ∙ ap tick_in_part (sym (same_tick s p.item)))
          (next_state before p s same) after now_in_body in
          record {
            first = [];
            later = retimed w (with_ticks stays (state_after_item s p.item).tick ps);
            space = p.space;
            others = ap (λ i. retimed w ((if stays i then (s.tick, p) ∷ [] else [])
                ++ with_ticks stays (tick_after_item s.tick p.item) ps)) is
                ∙ ap (λ k. retimed w (with_ticks stays k ps)) (sym (same_tick s p.item));
            others_in_part = part ∙ (λ i. comment_comes s before ps n at early p is own asked i ++ rest i)
                ∙ ap (λ k. (k, comment_piece w (kept_count r ds) (all_count ds) p.space)
                ∷ retimed w (with_ticks stays (state_after_item s p.item).tick ps)) (omega (arith, at, zero));
          }

      by_other : Next → may_be_amended p.item ≡ false → (state_after_item s p.item).in_body ≡ false
          → InTwoOthers s (p ∷ ps) n (part_after r before (p ∷ ps))
      by_other next isnt still = goes_on next (other_step s before p ps n at isnt) still (other_item p.item isnt).1

      by_item : Next → (i : Item) → p.item ≡ i → Allows s i → InTwoOthers s (p ∷ ps) n (part_after r before (p ∷ ps))
      by_item next (variable words) is allows = goes_on next (variable_both s before ps n at early p words is)
          (ap (λ i. (state_after_item s i).in_body) is ∙ early) (λ now. ap (tick_after_item now) is)
      by_item next end_definitions is allows = ended is
      by_item next (stamp digits) is allows = absurd (false≢true (sym early ∙ allows.0))
      by_item next (scalar digit code) is allows = absurd (never s.in_body _ early allows.0)
      by_item next (vector first digits code) is allows = absurd (never s.in_body _ early allows.0)
      by_item next (real_or_string first text code) is allows =
          absurd (never s.in_body _ early allows.0)
      by_item next (entry kind words) is allows =
          by_other next (ap may_be_amended is) (ap (λ i. (state_after_item s i).in_body) is ∙ early)
      by_item next (timescale words) is allows =
          by_other next (ap may_be_amended is) (ap (λ i. (state_after_item s i).in_body) is ∙ early)
      by_item next (scope kind words) is allows =
          by_other next (ap may_be_amended is) (ap (λ i. (state_after_item s i).in_body) is ∙ early)
      by_item next upscope is allows =
          by_other next (ap may_be_amended is) (ap (λ i. (state_after_item s i).in_body) is ∙ early)
      by_item next (dump_word word) is allows =
          by_other next (ap may_be_amended is) (ap (λ i. (state_after_item s i).in_body) is ∙ early)
      by_item next (other word words) is allows =
          by_other next (ap may_be_amended is) (ap (λ i. (state_after_item s i).in_body) is ∙ early)

-- ---- the part

pub part_stands : (r : Request) (limit : ℕ) (file : List ℕ) (pieces : List Piece) (tail : List ℕ) (w : TickRange)
    → HasPart r limit file pieces tail w
    → StandInPart r w (state_of_pieces limit pieces).declared pieces (part_pieces r pieces)
part_stands r limit file pieces tail w has =
    let s : ParseState = initial_state limit in
    let whole : ParseState = state_of_pieces limit pieces in
    let order = decided_in_order r whole.timescale whole.declared w has.decided in
    let at : 0 ≡ min w.last s.tick - w.first = omega arith in
    let ends : EndsWith r w order whole.declared s (piece_items pieces) =
    record { allowed = has.allowed; in_body = has.in_body; declared = refl; decided = has.decided } in
    let others = all_others r w order whole.declared [] pieces s 0 at refl ends refl refl in
    record {
      changes = without_ticks changes (λ digits. refl) 0 (part_after r [] pieces)
          ∙ all_changes r w order whole.declared [] pieces s 0 at refl ends
          ∙ ap (λ b. (if b then map (λ p. (0, p)) (drop 1 (first_pieces r whole.declared
          (pieces_up_to w.first pieces))) else [])
          ++ retimed w (filter (λ q. is_within w q.0 && is_used_change r whole.declared q.1.item)
          (with_ticks changes 0 pieces))) (ap (λ b. nat_lt 0 w.first && b) (le-leb 0 w.first (omega arith))
          ∙ from_start (nat_lt 0 w.first));
      first = others.first;
      later = others.later;
      space = others.space;
      others = others.others;
      others_in_part = without_ticks stays (λ digits. refl) 0 (part_after r [] pieces) ∙ others.others_in_part;
    }
  where
    from_start : (b : Bool) → (b && true) ≡ b
    from_start true = refl
    from_start false = refl
