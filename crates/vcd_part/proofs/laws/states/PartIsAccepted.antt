-- The pieces of the part of a file are accepted, and lead to the state of the part.
use Rattle.std.proofs.Common.{◌≡◌, ℕ, ◌-◌, ◌∙◌, true, false, List, [], ◌∷◌, ◌++◌, refl, ap, sym, subst, min}
use Rattle.std.proofs.Common.{inl, inr}
use Rattle.std.specs.Prelude.{Ok}
use Rattle.std.proofs.lemmas.Bool.{cases_Bool, false≢true}
use Rattle.std.proofs.lemmas.List.{map-append}
use Rattle.vcd_text.specs.Items.{Item, entry, timescale, scope, upscope, variable, end_definitions, stamp, scalar}
use Rattle.vcd_text.specs.Items.{vector, real_or_string, dump_word, other}
use Rattle.vcd_text.specs.Grammar.{ParseState, VariableDeclaration, AllowsAll, state_after_item, state_after}
use Rattle.vcd_text.specs.Grammar.{initial_state}
use Rattle.vcd_copy.specs.Pieces.{Piece, state_of_pieces}
use Rattle.vcd_copy.specs.Copied.{piece_items}
use Rattle.vcd_text.specs.declared.reading.choice.TickRange.{TickRange}
use Rattle.vcd_text.proofs.shared.ItemsInTurn.{Reaches, reaches_both}
use Rattle.vcd_part.specs.declared.request.Request.{Request}
use Rattle.vcd_part.specs.Requests.{decide}
use Rattle.vcd_part.specs.PartPieces.{part_after, part_pieces, pieces_after_state, pieces_of_step, comment_words}
use Rattle.vcd_part.specs.PartPieces.{kept_count, all_count, last_such}
use Rattle.vcd_part.specs.PartLaws.{HasPart}
use Rattle.vcd_part.proofs.laws.EmptyStamps.{reaches_without}
use Rattle.vcd_part.proofs.laws.states.Windows.{IsInOrder, decided_in_order}
use Rattle.vcd_part.proofs.laws.states.PartStates.{among, in_part}
use Rattle.vcd_part.proofs.laws.states.StatesInTurn.{without_limit, next_state, body_stays}
use Rattle.vcd_part.proofs.laws.states.PartChanges.{Follows}
use Rattle.vcd_part.proofs.laws.states.PartBody.{Ends, body_leads}
use Rattle.vcd_part.proofs.laws.states.PartDeclarations.{IsHeader, header_leads, body_starts}

-- only this item ends the declarations
is_end : (s : ParseState) (i : Item) → s.in_body ≡ false → (state_after_item s i).in_body ≡ true
    → i ≡ end_definitions
is_end s (entry kind words) header body = absurd (false≢true (sym header ∙ body))
is_end s (timescale words) header body = absurd (false≢true (sym header ∙ body))
is_end s (scope kind words) header body = absurd (false≢true (sym header ∙ body))
is_end s upscope header body = absurd (false≢true (sym header ∙ body))
is_end s (variable words) header body = absurd (false≢true (sym header ∙ body))
is_end s end_definitions header body = refl
is_end s (stamp digits) header body = absurd (false≢true (sym header ∙ body))
is_end s (scalar digit code) header body = absurd (false≢true (sym header ∙ body))
is_end s (vector first digits code) header body = absurd (false≢true (sym header ∙ body))
is_end s (real_or_string first text code) header body = absurd (false≢true (sym header ∙ body))
is_end s (dump_word word) header body = absurd (false≢true (sym header ∙ body))
is_end s (other word words) header body = absurd (false≢true (sym header ∙ body))

module _ (r : Request) (w : TickRange) where
  -- the words of the comment after this state
  abbrev pub words_at : ParseState → List (List ℕ)
  words_at s = comment_words w (kept_count r s.declared) (all_count s.declared)

  -- the state of the part where the body starts
  record Starts (before : List Piece) (s : ParseState) (space body : List ℕ) (i : Item) : Type 0 where
    leads : Reaches (among r s) (piece_items (pieces_after_state r s before (record {
      item = i;
      space = space;
      body =
          body;
    }))) (in_part r (words_at (state_after_item s i)) (state_after_item s i) [] 0)
    follows : Follows r w (before ++ record {
      item = i;
      space = space;
      body =
          body;
    } ∷ []) (state_after_item s i) [] 0

  starts : (order : IsInOrder w) (before : List Piece) (s : ParseState) (is : IsHeader before s) (i : Item) (space
      body : List ℕ)
      → (state_after_item s i).in_body ≡ true
      → decide r (state_after_item s i).timescale (state_after_item s i).declared ≡ Ok w → Starts before s space body i
  starts order before s is i space body in_body decided =
      let same : i ≡ end_definitions = is_end s i is.in_header in_body in
      let at_end : decide r s.timescale s.declared ≡ Ok w = subst (λ (i : Item). decide r (state_after_item s
      i).timescale (state_after_item s i).declared ≡ Ok w) same decided in
      let start = body_starts r before s is w order at_end space body in
      subst (λ (i : Item). Starts before s space body i) (sym same) (record {
        leads = start.leads;
        follows = start.follows;
      })

  both_end : (words : List (List ℕ)) (start middle s : ParseState) (xs ys : List Piece)
      → Reaches start (piece_items xs) middle → Ends r w words middle (piece_items ys) s
      → Ends r w words start (piece_items (xs ++ ys)) s
  both_end words start middle s xs ys first rest = record {
    more = rest.more;
    leads = subst (λ (l : List Item). Reaches start l (in_part r words s rest.more (min w.last s.tick - w.first))) (sym
        (map-append (λ (p : Piece). p.item) xs ys)) (reaches_both start middle _ (piece_items xs) (piece_items ys) first
        rest.leads);
    same = rest.same;
    one = rest.one;
  }

  header_ends : (order : IsInOrder w) (before ps : List Piece) (s : ParseState) → IsHeader before s
      → state_of_pieces 0 before ≡ without_limit s → AllowsAll s (piece_items ps)
      → (state_after s (piece_items ps)).in_body ≡ true
      → decide r (state_after s (piece_items ps)).timescale (state_after s (piece_items ps)).declared ≡ Ok w
      → Ends r w (words_at (state_after s (piece_items ps))) (among r s) (piece_items (part_after r before ps))
      (state_after s (piece_items ps))
  unfolding part_after
  header_ends order before [] s is same allows body decided = absurd (false≢true (sym is.in_header ∙ body))
  header_ends order before (p ∷ ps) s is same allows body decided =
      let next : ParseState = state_after_item s p.item in
      let end : ParseState = state_after s (piece_items (p ∷ ps)) in
      let rest : List Piece = part_after r (before ++ p ∷ []) ps in
      let as_step : pieces_of_step r before p ≡ pieces_after_state r s before p = ap (λ (x : ParseState).
      pieces_after_state r x before p) same in
      subst (λ (l : List Piece). Ends r w (words_at end) (among r s) (piece_items (l ++ rest)) end) (sym as_step)
      (elim (cases_Bool next.in_body) [
        | inl starts_now ↦
            let stays = body_stays next (piece_items ps) allows.1 starts_now in
            let at_end : decide r next.timescale next.declared ≡ Ok w = (λ i. decide r (sym stays.timescale i) (sym
            stays.declared i)) ∙ decided in
            let start = starts order before s is p.item p.space p.body starts_now at_end in
            let ends = body_leads r w order (words_at next) (before ++ p ∷ []) ps next [] 0 start.follows (next_state
            before p s same) allows.1 in
            let all = both_end (words_at next) (among r s) (in_part r (words_at next) next [] 0) end
            (pieces_after_state r s before p) rest start.leads ends in
            subst (λ (ds : List VariableDeclaration). Ends r w (comment_words w (kept_count r ds) (all_count ds))
            (among r s) (piece_items (pieces_after_state r s before p ++ rest)) end) (sym stays.declared) all
        | inr goes_on ↦
            let here = header_leads r before s is p.item p.space p.body goes_on allows.0 in
            both_end (words_at end) (among r s) (among r next) end (pieces_after_state r s before p) rest here.leads
            (header_ends order (before ++ p ∷ []) ps next here.header (next_state before p s same) allows.1 body
            decided)
      ])

nothing_yet : (limit : ℕ) → IsHeader [] (initial_state limit)
unfolding last_such
nothing_yet limit = record {
  in_header = refl;
  one = λ a b a_in b_in same. absurd a_in;
  no_changes = refl;
  start = refl;
  none = λ ds code. refl;
}

-- ---- the whole

module _ (r : Request) (limit : ℕ) (file : List ℕ) (pieces : List Piece) (tail : List ℕ) (w : TickRange)
    (has : HasPart r limit file pieces tail w) where
  abbrev pub whole : ParseState
  whole = state_of_pieces limit pieces

  pub in_order : IsInOrder w
  in_order = decided_in_order r whole.timescale whole.declared w has.decided

  pub part_ends : Ends r w (words_at r w whole) (initial_state limit)
      (piece_items (part_pieces r pieces)) whole
  part_ends =
      let ends = header_ends r w in_order [] pieces (initial_state limit) (nothing_yet limit) refl has.allowed
      has.in_body has.decided in
      record {
        more = ends.more;
        leads = reaches_without (initial_state limit) _ (part_after r [] pieces) ends.leads;
        same = ends.same;
        one = ends.one;
      }
