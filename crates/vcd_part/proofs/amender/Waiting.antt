-- What a `PartAmender` holds while a stamp waits, after a piece more.
use Rattle.std.proofs.Common.{◌≡◌, ◌∙◌, ℕ, Bool, true, false, List, [], ◌∷◌, ◌++◌, refl, sym, ap, subst, All}
use Rattle.std.proofs.Common.{if◌then◌else◌, Option, Some, None, map, nat_lt, arith}
use Rattle.std.specs.Prelude.{Result, Ok, Err, option_to_list}
use Rattle.std.specs.Global.{Vec}
use Rattle.std.specs.List.{list_any, flat_map}
use Rattle.std.proofs.lemmas.Bool.{and_parts, false≢true}
use Rattle.std.proofs.lemmas.List.Elements.{All-nil, All-cons, All-append}
use Rattle.vcd_text.specs.Items.{Item, entry, timescale, scope, upscope, variable, end_definitions, stamp, scalar}
use Rattle.vcd_text.specs.Items.{vector, real_or_string, dump_word, other}
use Rattle.vcd_text.specs.Grammar.{ParseState, VariableDeclaration, Allows, AllowsAll, state_after}
use Rattle.vcd_text.specs.Grammar.{declaration_of}
use Rattle.vcd_copy.specs.Pieces.{Piece, piece_bytes, state_of_pieces, stamp_line}
use Rattle.vcd_copy.specs.Copied.{IsNext, piece_items, may_be_amended}
use Rattle.vcd_text.specs.declared.reading.choice.TickRange.{TickRange}
use Rattle.vcd_part.specs.declared.amender.PartAmender.{PartAmender}
use Rattle.vcd_part.specs.declared.request.Refusal.{Refusal}
use Rattle.vcd_part.specs.declared.request.Request.{Request}
use Rattle.vcd_part.specs.Requests.{keeps, decide}
use Rattle.vcd_part.specs.PartPieces.{pieces_of_step, declaration_in_part, ended_in_part, first_pieces, last_such}
use Rattle.vcd_part.specs.PartPieces.{is_change_of, is_stamp, on_own_line, comment_piece, lasting_codes}
use Rattle.vcd_part.specs.PartPieces.{kept_count, all_count}
use Rattle.vcd_part.specs.WrittenPart.{comment_count}
use Rattle.vcd_part.specs.inside.PartAmender.{HasSeen, Knows, IsAt}
use Rattle.vcd_part.specs.inside.PartCopy.{waiting_after, settled_after, waiting_stamp, waiting_from}
use Rattle.vcd_copy.proofs.shared.StatesOfPieces.{one_more, at_any_limit}
use Rattle.vcd_part.proofs.amender.States.{next_allowed, before_allowed}
use Rattle.vcd_part.proofs.amender.LastChanges.{still_out}
use Rattle.vcd_part.proofs.amender.Decided.{pieces_in_declarations}
use Rattle.vcd_part.proofs.laws.signals.SignalValues.{last_passes}
use Rattle.vcd_text.proofs.read_back.Decimals.{number_of-decimal}
use Rattle.vcd_part.proofs.shared.SettledPieces.{IsNoStamp, no_stamps_wait, waiting_more, none_settle}
use Rattle.vcd_part.proofs.shared.SettledPieces.{first_stamp_settles, settled_both, waiting_both}

-- ---- one that holds another stamp, or has counted another number

-- it knows the same
pub known_still : (m : PartAmender) (v : Vec ℕ) (before : List Piece) (s : ParseState) → IsAt m before s
    → IsAt (record m { waiting = v }) before s
known_still m v before s at = record {
  noted = at.noted;
  uses = at.uses;
  window = at.window;
  refusal = at.refusal;
  tick = at.tick;
  some = at.some;
  holds_none = at.holds_none;
  holds = at.holds;
}

pub known_counted : (m : PartAmender) (n : ℕ) (before : List Piece) (s : ParseState) → IsAt m before s
    → IsAt (record m { comments = n }) before s
known_counted m n before s at = record {
  noted = at.noted;
  uses = at.uses;
  window = at.window;
  refusal = at.refusal;
  tick = at.tick;
  some = at.some;
  holds_none = at.holds_none;
  holds = at.holds;
}

-- with these pieces in the place of one more
pub seen_with : (m : PartAmender) (v : Vec ℕ) (before : List Piece) (p : Piece) (ps : List Piece)
    → pieces_of_step m.request before p ≡ ps → Knows m (before ++ p ∷ [])
    → v.items ≡ piece_bytes (waiting_after (waiting_stamp m.request before) ps)
    → m.comments ≡ comment_count (before ++ p ∷ []) → HasSeen (record m { waiting = v }) (before ++ p ∷ [])
seen_with m v before p ps pieces known waits counts = record {
  known = known_still m v (before ++ p ∷ []) (state_of_pieces 0 (before ++ p ∷ [])) known;
  waiting = waits ∙ ap piece_bytes (ap (waiting_after (waiting_stamp m.request before)) (sym pieces)
      ∙ sym (waiting_more m.request before p));
  comments = counts;
}

-- with none in its place
pub seen_without : (m : PartAmender) (v : Vec ℕ) (before : List Piece) (p : Piece)
    → pieces_of_step m.request before p ≡ [] → Knows m (before ++ p ∷ [])
    → v.items ≡ piece_bytes (waiting_stamp m.request before) → m.comments ≡ comment_count (before ++ p ∷ [])
    → HasSeen (record m { waiting = v }) (before ++ p ∷ [])
seen_without m v before p none known waits counts = seen_with m v before p [] none known
    (waits ∙ ap piece_bytes (sym (none_settle (waiting_stamp m.request before)).1)) counts

pub bytes_without : (r : Request) (before : List Piece) (p : Piece) → pieces_of_step r before p ≡ []
    → piece_bytes (settled_after (waiting_stamp r before) (pieces_of_step r before p)) ≡ []
bytes_without r before p none = ap (λ (l : List Piece). piece_bytes (settled_after (waiting_stamp r before) l)) none
    ∙ ap piece_bytes (none_settle (waiting_stamp r before)).0

-- ---- before the end of the declarations no stamp waits

ended_are_no_stamps : (r : Request) (ds : List VariableDeclaration) (p : Piece) (a : Result TickRange Refusal)
    → is_stamp p.item ≡ false → All IsNoStamp (ended_in_part r ds p a)
ended_are_no_stamps r ds p (Ok w) isnt =
    let comment : Piece = comment_piece w (kept_count r ds) (all_count ds) p.space in
    All-cons IsNoStamp comment (on_own_line p ∷ []) refl
    (All-cons IsNoStamp (on_own_line p) [] isnt (All-nil IsNoStamp))
ended_are_no_stamps r ds p (Err refusal) isnt = All-nil IsNoStamp

pub no_stamps_out : (r : Request) (limit : ℕ) (before : List Piece) (i : Item) (space body : List ℕ)
    → Allows (state_of_pieces limit before) i → (state_of_pieces limit before).in_body ≡ false
    → All IsNoStamp (pieces_of_step r before (record { item = i; space = space; body = body }))
no_stamps_out r limit before i space body allowed out = by_item i allowed
  where
    piece : Item → Piece
    piece i = record { item = i; space = space; body = body }

    also_out : (state_of_pieces 0 before).in_body ≡ false
    also_out = sym (ap (λ (s : ParseState). s.in_body) (at_any_limit limit before)) ∙ out

    one : (p : Piece) → is_stamp p.item ≡ false → All IsNoStamp (p ∷ [])
    one p isnt = All-cons IsNoStamp p [] isnt (All-nil IsNoStamp)

    kept : (b : Bool) (p : Piece) → is_stamp p.item ≡ false → All IsNoStamp (if b then p ∷ [] else [])
    kept true p isnt = one p isnt
    kept false p isnt = All-nil IsNoStamp

    amended : (i : Item) → may_be_amended i ≡ true
        → All IsNoStamp (declaration_in_part r (state_of_pieces 0 before) (piece i) i)
        → All IsNoStamp (pieces_of_step r before (piece i))
    amended i is all = subst (λ (l : List Piece). All IsNoStamp l)
        (sym (pieces_in_declarations r before (piece i) is also_out)) all

    by_item : (i : Item) → Allows (state_of_pieces limit before) i
        → All IsNoStamp (pieces_of_step r before (piece i))
    by_item (entry kind ws) allowed = one (piece (entry kind ws)) refl
    by_item (timescale ws) allowed = one (piece (timescale ws)) refl
    by_item (scope kind ws) allowed = one (piece (scope kind ws)) refl
    by_item upscope allowed = one (piece upscope) refl
    by_item (variable ws) allowed = amended (variable ws) refl
        (kept (list_any (keeps r) (option_to_list (declaration_of (state_of_pieces 0 before) ws)))
        (piece (variable ws)) refl)
    by_item end_definitions allowed = amended end_definitions refl (ended_are_no_stamps r
        (state_of_pieces 0 before).declared (piece end_definitions) (decide r (state_of_pieces 0 before).timescale
        (state_of_pieces 0 before).declared) refl)
    by_item (stamp digits) allowed = absurd (false≢true (sym out ∙ allowed.0))
    by_item (scalar digit code) allowed = absurd (false≢true (sym out ∙ (and_parts _ _ allowed.0).0))
    by_item (vector first digits code) allowed = absurd (false≢true (sym out ∙ (and_parts _ _ allowed.0).0))
    by_item (real_or_string first text code) allowed = absurd (false≢true (sym out ∙ (and_parts _ _ allowed.0).0))
    by_item (dump_word word) allowed = one (piece (dump_word word)) refl
    by_item (other word ws) allowed = one (piece (other word ws)) refl

none_waits : (r : Request) (limit : ℕ) (done ps : List Piece)
    → AllowsAll (state_of_pieces limit done) (piece_items ps)
    → (state_after (state_of_pieces limit done) (piece_items ps)).in_body ≡ false → waiting_from r done [] ps ≡ []
unfolding waiting_from
none_waits r limit done [] allowed out = refl
none_waits r limit done (p ∷ ps) allowed out =
    let s : ParseState = state_of_pieces limit done in
    let none = no_stamps_out r limit done p.item p.space p.body allowed.0 (still_out s (piece_items (p ∷ ps)) out) in
    let next = one_more limit done p in
    ap (λ (w : List Piece). waiting_from r (done ++ p ∷ []) w ps) (no_stamps_wait (pieces_of_step r done p) none).1
    ∙ none_waits r limit (done ++ p ∷ []) ps
    (subst (λ (c : ParseState). AllowsAll c (piece_items ps)) (sym next) allowed.1)
    (ap (λ (c : ParseState). (state_after c (piece_items ps)).in_body) next ∙ out)

-- so the pieces in the place of the next one are written at once
pub record IsSettled (r : Request) (before : List Piece) (p : Piece) : Type 0 where
  pub written : settled_after (waiting_stamp r before) (pieces_of_step r before p) ≡ pieces_of_step r before p
  pub before_it : waiting_stamp r before ≡ []
  pub none : waiting_after (waiting_stamp r before) (pieces_of_step r before p) ≡ []

pub settled_out : (r : Request) (limit : ℕ) (before : List Piece) (p : Piece) (space body : List ℕ)
    → IsNext limit before p space body → (state_of_pieces 0 before).in_body ≡ false → IsSettled r before p
settled_out r limit before p space body next out =
    let here : (state_of_pieces limit before).in_body ≡ false =
    ap (λ (s : ParseState). s.in_body) (at_any_limit limit before) ∙ out in
    let nothing : waiting_stamp r before ≡ [] =
    none_waits r limit [] before (before_allowed limit before p space body next) here in
    let allowed : Allows (state_of_pieces limit before) p.item =
    subst (λ (c : ParseState). Allows c p.item) (sym (at_any_limit limit before))
    (next_allowed limit before p space body next) in
    let pieces : List Piece = pieces_of_step r before p in
    let stand = no_stamps_wait pieces (no_stamps_out r limit before p.item p.space p.body allowed here) in
    record {
      written = ap (λ (w : List Piece). settled_after w pieces) nothing ∙ stand.0;
      before_it = nothing;
      none = ap (λ (w : List Piece). waiting_after w pieces) nothing ∙ stand.1;
    }

-- ---- the pieces of tick 0 are written at once

change_is_no_stamp : (ds : List VariableDeclaration) (code : List ℕ) (i : Item) → is_change_of ds code i ≡ true
    → is_stamp i ≡ false
change_is_no_stamp ds code (entry kind words) is = refl
change_is_no_stamp ds code (timescale words) is = refl
change_is_no_stamp ds code (scope kind words) is = refl
change_is_no_stamp ds code upscope is = refl
change_is_no_stamp ds code (variable words) is = refl
change_is_no_stamp ds code end_definitions is = refl
change_is_no_stamp ds code (stamp digits) is = absurd (false≢true is)
change_is_no_stamp ds code (scalar digit own) is = refl
change_is_no_stamp ds code (vector first digits own) is = refl
change_is_no_stamp ds code (real_or_string first text own) is = refl
change_is_no_stamp ds code (dump_word word) is = refl
change_is_no_stamp ds code (other word words) is = refl

module _ (r : Request) (ds : List VariableDeclaration) (before : List Piece) where
  abbrev line_of_code : List ℕ → List Piece
  line_of_code code = map on_own_line (option_to_list (last_such (is_change_of ds code) before))

  line_is_no_stamp : (code : List ℕ) → All IsNoStamp (line_of_code code)
  line_is_no_stamp code = by_last (last_such (is_change_of ds code) before) refl
    where
      by_last : (o : Option Piece) → last_such (is_change_of ds code) before ≡ o
          → All IsNoStamp (map on_own_line (option_to_list o))
      by_last (Some q) is = All-cons IsNoStamp (on_own_line q) []
          (change_is_no_stamp ds code q.item (last_passes (is_change_of ds code) before q is)) (All-nil IsNoStamp)
      by_last None is = All-nil IsNoStamp

  lines_are_no_stamps : (codes : List (List ℕ)) → All IsNoStamp (flat_map line_of_code codes)
  lines_are_no_stamps [] = All-nil IsNoStamp
  lines_are_no_stamps (c ∷ cs) = All-append IsNoStamp (line_of_code c) (flat_map line_of_code cs) (line_is_no_stamp c)
      (lines_are_no_stamps cs)

  pub first_pieces_settle : (w : List Piece)
      → (settled_after w (first_pieces r ds before) ≡ first_pieces r ds before)
      × (waiting_after w (first_pieces r ds before) ≡ [])
  first_pieces_settle w =
      let lines : List Piece = flat_map line_of_code (lasting_codes r ds) in
      let rest = no_stamps_wait lines (lines_are_no_stamps (lasting_codes r ds)) in
      let zero = first_stamp_settles w (stamp_line 0) refl
      (ap (λ (n : ℕ). nat_lt 0 n) (number_of-decimal 0 (omega arith))) in (
        settled_both w (stamp_line 0 ∷ []) lines ∙ (λ i. zero.0 i ++ settled_after (zero.1 i) lines)
            ∙ ap (λ (l : List Piece). stamp_line 0 ∷ l) rest.0,
        waiting_both w (stamp_line 0 ∷ []) lines ∙ ap (λ (v : List Piece). waiting_after v lines) zero.1 ∙ rest.1,
      )
