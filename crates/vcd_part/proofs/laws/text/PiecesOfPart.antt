-- What holds of each piece of a file, and of the pieces that the part has of its own, holds of each of the part.
use Rattle.std.proofs.Common.{◌≡◌, ℕ, ◌-◌, ◌≤◌, Bool, true, false, not, ◌&&◌, List, [], ◌∷◌, ◌++◌, refl}
use Rattle.std.proofs.Common.{sym, subst, Option, Some, None, if◌then◌else◌, arith, All, length, decimal, map}
use Rattle.std.proofs.Common.{nat_le, nat_lt, max, ◌==◌}
use Rattle.std.specs.Prelude.{Result, Ok, Err, filter, option_to_list}
use Rattle.std.specs.List.{list_any, flat_map}
use Rattle.std.specs.Option.{option_or}
use Rattle.std.proofs.lemmas.Bool.{and_parts, leb-true, ltb-true}
use Rattle.std.proofs.lemmas.List.Elements.{All-nil, All-cons, All-head, All-tail, All-append}
use Rattle.vcd_core.specs.Decimal.{number_of, is_number}
use Rattle.vcd_core.specs.declared.capture.TheConstants.{END_LIMIT}
use Rattle.vcd_text.specs.Items.{Item, entry, timescale, scope, upscope, variable, end_definitions, stamp, scalar}
use Rattle.vcd_text.specs.Items.{vector, real_or_string, dump_word, other}
use Rattle.vcd_text.specs.Grammar.{ParseState, VariableDeclaration, Allows, AllowsAll, state_after_item}
use Rattle.vcd_text.specs.Grammar.{declaration_of}
use Rattle.vcd_copy.specs.Pieces.{Piece, state_of_pieces}
use Rattle.vcd_copy.specs.Copied.{piece_items, may_be_amended}
use Rattle.vcd_text.specs.declared.reading.choice.TickRange.{TickRange}
use Rattle.vcd_text.proofs.shared.ItemTests.{has_tick}
use Rattle.vcd_part.specs.declared.request.Request.{Request}
use Rattle.vcd_part.specs.declared.request.Refusal.{Refusal}
use Rattle.vcd_part.specs.Requests.{keeps, decide}
use Rattle.vcd_part.specs.PartPieces.{first_pieces, last_such, on_own_line, comment_piece, bounded_count}
use Rattle.vcd_copy.specs.Pieces.{stamp_line}
use Rattle.vcd_part.specs.PartPieces.{stamp_in_part, last_stamp, stamp_pieces, body_in_part, ended_in_part, is_used}
use Rattle.vcd_part.specs.PartPieces.{declaration_in_part, pieces_after_state, part_after, ended_pieces}
use Rattle.vcd_part.specs.PartPieces.{is_up_to_first, is_within, is_change_of, lasting_codes, kept_count, all_count}
use Rattle.vcd_part.proofs.laws.states.Windows.{IsInOrder, decided_in_order}
use Rattle.vcd_part.proofs.laws.states.StatesInTurn.{without_limit, next_state}

-- ---- what holds of each piece of the part

-- a stamp with another tick
abbrev as_stamp : List ℕ → ℕ → Piece
as_stamp space u = record { item = stamp (decimal u); space = space; body = 35 ∷ decimal u }

module _ (r : Request) (P Q : Piece → Type 0)
    (stamped : (p : Piece) (u : ℕ) → u ≤ END_LIMIT → P p → P (as_stamp p.space u))
    (line : (u : ℕ) → u ≤ END_LIMIT → P (stamp_line u)) (own : (p : Piece) → Q p → P (on_own_line p))
    (comment : (w : TickRange) (a b : ℕ) (p : Piece) → IsInOrder w → P p
    → P (comment_piece w (bounded_count a) (bounded_count b) p.space))
  where
    all_if : (b : Bool) (xs : List Piece) → All P xs → All P (if b then xs else [])
    all_if true xs all = all
    all_if false xs all = All-nil P

    all_chosen : (x y : Bool) (xs ys zs : List Piece) → All P xs → All P ys → All P zs
        → All P (if not x then zs else (if y then xs else ys))
    all_chosen false y xs ys zs first second third = third
    all_chosen true true xs ys zs first second third = first
    all_chosen true false xs ys zs first second third = second

    one : (p : Piece) → P p → All P (p ∷ [])
    one p is = All-cons P p [] is (All-nil P)

    last_has : (test : Item → Bool) (ps : List Piece) → All Q ps
        → All P (map on_own_line (option_to_list (last_such test ps)))
    unfolding last_such
    last_has test [] all = All-nil P
    last_has test (p ∷ ps) all = by_last (last_such test ps) (test p.item) (last_has test ps (All-tail Q p ps all))
      where
        by_last : (o : Option Piece) (b : Bool) → All P (map on_own_line (option_to_list o))
            → All P (map on_own_line (option_to_list (option_or o (if b then Some p else None))))
        by_last (Some q) b found = found
        by_last None true found = one (on_own_line p) (own p (All-head Q p ps all))
        by_last None false found = All-nil P

    all_first : (ds : List VariableDeclaration) (before : List Piece) → All Q before
        → All P (first_pieces r ds before)
    all_first ds before all = All-cons P (stamp_line 0) _ (line 0 (omega arith)) (each (lasting_codes r ds))
      where
        each : (codes : List (List ℕ)) → All P (flat_map (λ code. map on_own_line (option_to_list (last_such
            (is_change_of ds code) before))) codes)
        each [] = All-nil P
        each (c ∷ cs) = All-append P _ _ (last_has (is_change_of ds c) before all) (each cs)

    module _ (s : ParseState) (before : List Piece) (all : All Q before) (space body : List ℕ) where
      abbrev piece : Item → Piece
      piece i = record { item = i; space = space; body = body }

      all_stamped : (w : TickRange) (digits : List ℕ) → Allows s (stamp digits) → P (piece (stamp digits))
          → All P (stamp_pieces r w s before (piece (stamp digits)) (number_of digits))
      all_stamped w digits allows is =
          let t : ℕ = number_of digits in
          let most : t ≤ END_LIMIT = leb-true t END_LIMIT (and_parts (is_number digits) (nat_le t END_LIMIT) (has_tick s
          digits allows).0).1 in
          All-append P _ _ (all_if (is_up_to_first w s.tick && not (is_up_to_first w t)) _ (all_first s.declared before
          all)) (by_test (is_within w t) most)
        where
          in_part : (b : Bool) → number_of digits ≤ END_LIMIT → P (if b then piece (stamp digits) else as_stamp space
              (number_of digits - w.first))
          in_part true most = is
          in_part false most = stamped (piece (stamp digits)) (number_of digits - w.first) (omega (arith, most)) is

          by_past : (x y : Bool) → nat_lt w.last (number_of digits) ≡ y → number_of digits ≤ END_LIMIT
              → All P (if x && y then last_stamp w s.tick else [])
          by_past true true past most =
              let few = ltb-true w.last (number_of digits) past in
              all_if (nat_lt (max s.tick w.first) w.last) _ (one (stamp_line (w.last - w.first)) (line (w.last -
              w.first) (omega (arith, few, most))))
          by_past true false past most = All-nil P
          by_past false y past most = All-nil P

          by_test : (b : Bool) → number_of digits ≤ END_LIMIT → All P (if b then stamp_in_part w (piece (stamp digits))
              (number_of digits) ∷ [] else (if nat_le s.tick w.last && nat_lt w.last (number_of digits) then last_stamp
              w s.tick else []))
          by_test true most = one _ (in_part (w.first == 0) most)
          by_test false most = by_past (nat_le s.tick w.last) (nat_lt w.last (number_of digits)) refl most

      all_body : (i : Item) (answer : Result TickRange Refusal) → Allows s i → P (piece i)
          → All P (body_in_part r s before (piece i) i answer)
      all_body (entry kind ws) answer allows is = All-nil P
      all_body (timescale ws) answer allows is = All-nil P
      all_body (scope kind ws) answer allows is = All-nil P
      all_body upscope answer allows is = All-nil P
      all_body (variable ws) answer allows is = All-nil P
      all_body end_definitions answer allows is = All-nil P
      all_body (stamp digits) (Ok w) allows is = all_stamped w digits allows is
      all_body (stamp digits) (Err e) allows is = All-nil P
      all_body (scalar digit code) (Ok w) allows is =
          all_if (is_within w s.tick && is_used r s.declared code) (piece (scalar digit code) ∷ []) (one
          (piece (scalar digit code)) is)
      all_body (scalar digit code) (Err e) allows is = All-nil P
      all_body (vector first digits code) (Ok w) allows is =
          all_if (is_within w s.tick && is_used r s.declared code) (piece (vector first digits code) ∷ []) (one
          (piece (vector first digits code)) is)
      all_body (vector first digits code) (Err e) allows is = All-nil P
      all_body (real_or_string first text code) (Ok w) allows is =
          all_if (is_within w s.tick && is_used r s.declared code) (piece (real_or_string first text code) ∷ []) (one
          (piece (real_or_string first text code)) is)
      all_body (real_or_string first text code) (Err e) allows is = All-nil P
      all_body (dump_word word) answer allows is = All-nil P
      all_body (other word ws) answer allows is = All-nil P

      all_ended : (i : Item) → P (piece i) → Q (piece i)
          → All P (ended_in_part r s.declared (piece i) (decide r s.timescale s.declared))
      all_ended i is was = by_answer (decide r s.timescale s.declared) refl
        where
          by_answer : (o : Result TickRange Refusal) → decide r s.timescale s.declared ≡ o
              → All P (ended_in_part r s.declared (piece i) o)
          by_answer (Ok w) decided = All-cons P (comment_piece w (kept_count r s.declared) (all_count s.declared) space)
              (on_own_line (piece i) ∷ []) (comment w (length (filter (keeps r) s.declared)) (length
              s.declared) (piece i) (decided_in_order r s.timescale s.declared w decided) is) (one (on_own_line (piece
              i)) (own (piece i) was))
          by_answer (Err e) decided = All-nil P

      all_declared : (i : Item) → P (piece i) → Q (piece i) → All P (declaration_in_part r s (piece i) i)
      all_declared (entry kind ws) is was = all_ended (entry kind ws) is was
      all_declared (timescale ws) is was = all_ended (timescale ws) is was
      all_declared (scope kind ws) is was = all_ended (scope kind ws) is was
      all_declared upscope is was = all_ended upscope is was
      all_declared (variable ws) is was = all_if (list_any (keeps r) (option_to_list (declaration_of s ws))) (piece
          (variable ws) ∷ []) (one (piece (variable ws)) is)
      all_declared end_definitions is was = all_ended end_definitions is was
      all_declared (stamp digits) is was = all_ended (stamp digits) is was
      all_declared (scalar digit code) is was = all_ended (scalar digit code) is was
      all_declared (vector first digits code) is was = all_ended (vector first digits code) is was
      all_declared (real_or_string first text code) is was = all_ended (real_or_string first text code) is was
      all_declared (dump_word word) is was = all_ended (dump_word word) is was
      all_declared (other word ws) is was = all_ended (other word ws) is was

      all_placed : (i : Item) → Allows s i → P (piece i) → Q (piece i)
          → All P (pieces_after_state r s before (piece i))
      all_placed i allows is was = all_chosen (may_be_amended i) s.in_body (body_in_part r s before (piece i) i
          (decide r
          s.timescale s.declared)) (declaration_in_part r s (piece i) i) (piece i ∷ []) (all_body i (decide r
          s.timescale s.declared) allows is) (all_declared i is was) (one (piece i) is)

    all_ends : (s : ParseState) (pieces : List Piece) (answer : Result TickRange Refusal) → All Q pieces
        → All P (ended_pieces r s pieces answer)
    all_ends s pieces (Ok w) all = all_if (is_up_to_first w s.tick) _ (all_first s.declared pieces all)
    all_ends s pieces (Err e) all = All-nil P

    pub all_after : (before ps : List Piece) (s : ParseState) → state_of_pieces 0 before ≡ without_limit s
        → AllowsAll s (piece_items ps) → All Q before → All Q ps → All P ps → All P (part_after r before ps)
    unfolding part_after
    all_after before [] s same allows all_before all_were all = all_ends (state_of_pieces 0 before) before (decide r
        (state_of_pieces 0 before).timescale (state_of_pieces 0 before).declared) all_before
    all_after before (p ∷ ps) s same allows all_before all_were all =
        let here = all_placed s before all_before p.space p.body p.item allows.0 (All-head P p ps all) (All-head Q p ps
        all_were) in
        let rest = all_after (before ++ p ∷ []) ps (state_after_item s p.item) (next_state before p s same) allows.1
        (All-append Q before (p ∷ []) all_before (All-cons Q p [] (All-head Q p ps all_were) (All-nil Q))) (All-tail Q p
        ps all_were) (All-tail P p ps all) in
        All-append P _ _ (subst (λ (x : ParseState). All P (pieces_after_state r x before p)) (sym same) here) rest
