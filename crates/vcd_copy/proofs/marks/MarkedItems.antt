-- What is shown of a piece after others is shown of it after these with a mark.
use Rattle.std.proofs.Common.{◌≡◌, ◌∙◌, ℕ, Bool, true, false, List, [], ◌∷◌, ◌++◌, refl, ap, sym, subst}
use Rattle.std.proofs.Common.{append_assoc, Option, Some, None}
use Rattle.std.specs.Prelude.{IfSome}
use Rattle.vcd_core.specs.declared.capture.Header.{Header}
use Rattle.vcd_core.specs.declared.capture.ScopeName.{ScopeName}
use Rattle.vcd_core.specs.declared.capture.HeaderKind.TheVariants.{Comment}
use Rattle.vcd_text.specs.Items.{Item, entry, end_definitions}
use Rattle.vcd_text.specs.Grammar.{ParseState, AllowsAll, state_after_item, initial_state}
use Rattle.vcd_copy.specs.Pieces.{Piece, state_of_pieces}
use Rattle.vcd_copy.specs.Copied.{CopyRules, piece_items, may_be_amended, Shows, IsNext, IsShownNext, IsTakenNext}
use Rattle.vcd_copy.specs.declared.copying.amender.AmendableItem.{AmendableItem}
use Rattle.vcd_copy.specs.declared.copying.amender.AmendableItem.TheVariants as shown
use Rattle.vcd_copy.specs.Marks.{CommentBytes, comment_piece, mark_before, after_mark, with_mark, IsMark}
use Rattle.vcd_copy.specs.Marks.{in_place_after, marked_rules}
use Rattle.vcd_copy.specs.MarkText.{comment_of_mark, mark_with_edits}
use Rattle.vcd_copy.specs.declared.marking.Mark.{Mark}
use Rattle.vcd_copy.proofs.shared.StatesOfPieces.{one_more}
use Rattle.vcd_copy.proofs.marks.MarkWords.{every_mark_is_comment}
use Rattle.vcd_copy.proofs.marks.MarkedFiles.{with_one_more, header_with, noted, noted_if, all_marked}

pub comment_is_mark : (mark : Option Mark) → IfSome (comment_of_mark mark) IsMark
comment_is_mark None = tt
comment_is_mark (Some m) = every_mark_is_comment m.head m.edits.now

-- before an item that stands comes no mark
pub none_before_other : (mark : Option CommentBytes) (i : Item) → may_be_amended i ≡ false → mark_before mark i ≡ None
none_before_other mark end_definitions stands = absurd (cc)
none_before_other mark i stands = refl

-- ---- states

first_pieces : (s : ParseState) (ps qs : List Piece) → AllowsAll s (piece_items (ps ++ qs))
    → AllowsAll s (piece_items ps)
first_pieces s [] qs all = tt
first_pieces s (p ∷ ps) qs all = (all.0, first_pieces (state_after_item s p.item) ps qs all.1)

-- the header is not shown
shows_with : (hs : List Header) (s : ParseState) (item : AmendableItem) (code : List ℕ) (i : Item)
    → Shows s item code i → Shows (record s { header = hs }) item code i
shows_with hs s shown.Variable code i shows = shows
shows_with hs s (shown.EndDefinitions open_scopes timescale) code i shows = shows
shows_with hs s (shown.Stamp tick) code i shows = shows
shows_with hs s shown.Value code i shows = shows
shows_with hs s shown.RealOrString code i shows = shows

shows_noted : (mark : Option CommentBytes) (b : Bool) (s : ParseState) (item : AmendableItem) (code : List ℕ)
    (i : Item) → Shows s item code i → Shows (noted_if mark b s) item code i
shows_noted mark true s item code i shows = shows_with (header_with mark s.header) s item code i shows
shows_noted mark false s item code i shows = shows

same_scopes : (mark : Option CommentBytes) (b : Bool) (s : ParseState) → (noted_if mark b s).scopes ≡ s.scopes
same_scopes mark true s = refl
same_scopes mark false s = refl

-- ---- pieces

module _ (mark : Option CommentBytes) (limit : ℕ) (before : List Piece) (p : Piece) where
  abbrev marked : List Piece
  marked = with_mark mark before

  abbrev state : ParseState
  state = state_of_pieces limit before

  module _ (m : IfSome mark IsMark) (allowed : AllowsAll (initial_state limit) (piece_items (before ++ p ∷ []))) where
    allowed_after : AllowsAll (initial_state limit)
        (piece_items (marked ++ after_mark (mark_before mark p.item) p))
    allowed_after = subst (λ (ps : List Piece). AllowsAll (initial_state limit) (piece_items ps))
        (with_one_more mark before p) (all_marked mark m (initial_state limit) (before ++ p ∷ []) allowed).0

    state_is : state_of_pieces limit marked ≡ noted mark state
    state_is = (all_marked mark m (initial_state limit) before
        (first_pieces (initial_state limit) before (p ∷ []) allowed)).1

  -- a piece before which no mark comes
  module _ (none : mark_before mark p.item ≡ None) where
    pub one_more_plain : with_mark mark (before ++ p ∷ []) ≡ marked ++ p ∷ []
    one_more_plain = with_one_more mark before p ∙ ap (λ (o : Option CommentBytes). marked ++ after_mark o p) none

    plain_in_place : (r : CopyRules) → (marked_rules mark r).in_place before p ≡ r.in_place marked p
    plain_in_place r = ap (λ (o : Option CommentBytes). in_place_after r marked o p) none

    module _ (m : IfSome mark IsMark) where
      pub next_marked : (space body : List ℕ) → IsNext limit before p space body → IsNext limit marked p space body
      next_marked space body next = record {
        allowed = subst (λ (o : Option CommentBytes). AllowsAll (initial_state limit)
            (piece_items (marked ++ after_mark o p))) none (allowed_after m next.allowed);
        space_is = next.space_is;
        body_is = next.body_is;
        spelled = next.spelled;
      }

      shown_marked : (item : AmendableItem) (code space body : List ℕ)
          → IsShownNext limit before p item code space body → IsShownNext limit marked p item code space body
      shown_marked item code space body is = record {
        next = next_marked space body is.next;
        shows = subst (λ (s : ParseState). Shows s item code p.item) (sym (state_is m is.next.allowed))
            (shows_noted mark state.in_body state item code p.item is.shows);
      }

      taken_marked : (item : AmendableItem) (code : List ℕ) (scopes : List ScopeName) (space body : List ℕ)
          → IsTakenNext limit before p item code scopes space body
          → IsTakenNext limit marked p item code scopes space body
      taken_marked item code scopes space body is = record {
        shown = shown_marked item code space body is.shown;
        scopes_are = is.scopes_are ∙ sym (same_scopes mark state.in_body state)
            ∙ ap (λ (s : ParseState). s.scopes) (sym (state_is m is.shown.next.allowed));
      }

  -- the piece before which it comes
  module _ (c : CommentBytes) (some : mark_before mark p.item ≡ Some c) (space : List ℕ) (space_is : p.space ≡ space)
    where
      abbrev with_it : List Piece
      with_it = marked ++ comment_piece space c ∷ []

      abbrev after_it : Piece
      after_it = record p { space = 10 ∷ [] }

      both : marked ++ after_mark (mark_before mark p.item) p ≡ with_it ++ after_it ∷ []
      both = ap (λ (o : Option CommentBytes). marked ++ after_mark o p) some
          ∙ ap (λ (s : List ℕ). marked ++ comment_piece s c ∷ after_it ∷ []) space_is
          ∙ sym (append_assoc marked (comment_piece space c ∷ []) (after_it ∷ []))

      one_more_end : with_mark mark (before ++ p ∷ []) ≡ with_it ++ after_it ∷ []
      one_more_end = with_one_more mark before p ∙ both

      end_in_place : (r : CopyRules) → (marked_rules mark r).in_place before p
          ≡ (r.before_others marked ++ (space ++ c.bytes)) ++ r.in_place with_it after_it
      end_in_place r = ap (λ (o : Option CommentBytes). in_place_after r marked o p) some
          ∙ ap (λ (s : List ℕ). (r.before_others marked ++ (s ++ c.bytes))
          ++ r.in_place (marked ++ comment_piece s c ∷ []) after_it) space_is

      module _ (m : IfSome mark IsMark) (comment : IsMark c)
          (allowed : AllowsAll (initial_state limit) (piece_items (before ++ p ∷ []))) where
        end_allowed : AllowsAll (initial_state limit) (piece_items (with_it ++ after_it ∷ []))
        end_allowed = subst (λ (ps : List Piece). AllowsAll (initial_state limit) (piece_items ps)) both
            (allowed_after m allowed)

        mark_is_next : IsNext limit marked (comment_piece space c) space c.bytes
        mark_is_next = record {
          allowed = first_pieces (initial_state limit) with_it (after_it ∷ []) end_allowed;
          space_is = refl;
          body_is = refl;
          spelled = comment.spelled;
        }

        end_is_taken : (item : AmendableItem) (code : List ℕ) (scopes : List ScopeName) (body : List ℕ)
            → IsTakenNext limit before p item code scopes space body
            → IsTakenNext limit with_it after_it item code scopes (10 ∷ []) body
        end_is_taken item code scopes body is =
            let now : state_of_pieces limit with_it ≡ state_after_item (noted mark state) (entry Comment c.words) =
            one_more limit marked (comment_piece space c)
            ∙ ap (λ (s : ParseState). state_after_item s (entry Comment c.words)) (state_is m allowed) in
            record {
              shown = record {
                next = record {
                  allowed = end_allowed;
                  space_is = refl;
                  body_is = is.shown.next.body_is;
                  spelled = is.shown.next.spelled;
                };
                shows = subst (λ (s : ParseState). Shows s item code p.item) (sym now)
                    (shows_with ((noted mark state).header ++ record { kind = Comment; words = c.words } ∷ [])
                    (noted mark state) item code p.item
                    (shows_noted mark state.in_body state item code p.item is.shown.shows));
              };
              scopes_are = is.scopes_are ∙ sym (same_scopes mark state.in_body state)
                  ∙ ap (λ (s : ParseState). s.scopes) (sym now);
            }

-- ---- as the code finds it

-- what the code finds to come before an item that is shown so
abbrev FindsMark : (own found : Option Mark) → AmendableItem → Type 0
FindsMark own found item = (s : ParseState) (code : List ℕ) (i : Item) → Shows s item code i
    → comment_of_mark found ≡ mark_before (comment_of_mark own) i

-- no mark comes before a piece
pub record IsPlainNext (own : Option Mark) (limit : ℕ) (before : List Piece) (p : Piece) : Type 0 where
  pub more : with_mark (comment_of_mark own) (before ++ p ∷ []) ≡ with_mark (comment_of_mark own) before ++ p ∷ []
  pub in_place : (r : CopyRules) → (marked_rules (comment_of_mark own) r).in_place before p
      ≡ r.in_place (with_mark (comment_of_mark own) before) p
  pub shown : (item : AmendableItem) (code space body : List ℕ) → IsShownNext limit before p item code space body
      → IsShownNext limit (with_mark (comment_of_mark own) before) p item code space body
  pub taken : (item : AmendableItem) (code : List ℕ) (scopes : List ScopeName) (space body : List ℕ)
      → IsTakenNext limit before p item code scopes space body
      → IsTakenNext limit (with_mark (comment_of_mark own) before) p item code scopes space body

pub plain_next : (own found : Option Mark) (limit : ℕ) (before : List Piece) (p : Piece) (item : AmendableItem)
    (code space body : List ℕ) → FindsMark own found item → found ≡ None
    → IsShownNext limit before p item code space body → IsPlainNext own limit before p
plain_next own found limit before p item code space body finds is shown =
    let mark : Option CommentBytes = comment_of_mark own in
    let none : mark_before mark p.item ≡ None =
    sym (finds (state_of_pieces limit before) code p.item shown.shows) ∙ ap comment_of_mark is in
    record {
      more = one_more_plain mark limit before p none;
      in_place = plain_in_place mark limit before p none;
      shown = shown_marked mark limit before p none (comment_is_mark own);
      taken = taken_marked mark limit before p none (comment_is_mark own);
    }

-- a mark comes before a piece
pub record IsEndNext (own : Option Mark) (limit : ℕ) (before : List Piece) (p : Piece) (m : Mark)
    (item : AmendableItem) (code : List ℕ) (scopes : List ScopeName) (space body : List ℕ) : Type 0 where
  pub marked : List Piece
  pub after : Piece
  pub marked_is : marked ≡ with_mark (comment_of_mark own) before
      ++ comment_piece space (mark_with_edits m.head m.edits.now) ∷ []
  pub more : with_mark (comment_of_mark own) (before ++ p ∷ []) ≡ marked ++ after ∷ []
  pub in_place : (r : CopyRules) → (marked_rules (comment_of_mark own) r).in_place before p
      ≡ (r.before_others (with_mark (comment_of_mark own) before)
      ++ (space ++ (mark_with_edits m.head m.edits.now).bytes)) ++ r.in_place marked after
  pub next : IsNext limit (with_mark (comment_of_mark own) before)
      (comment_piece space (mark_with_edits m.head m.edits.now)) space (mark_with_edits m.head m.edits.now).bytes
  pub taken : IsTakenNext limit marked after item code scopes (10 ∷ []) body

pub end_next : (own found : Option Mark) (limit : ℕ) (before : List Piece) (p : Piece) (m : Mark)
    (item : AmendableItem) (code : List ℕ) (scopes : List ScopeName) (space body : List ℕ) → FindsMark own found item
    → found ≡ Some m → IsTakenNext limit before p item code scopes space body
    → IsEndNext own limit before p m item code scopes space body
end_next own found limit before p m item code scopes space body finds is taken =
    let mark : Option CommentBytes = comment_of_mark own in
    let c : CommentBytes = mark_with_edits m.head m.edits.now in
    let next = taken.shown.next in
    let some : mark_before mark p.item ≡ Some c =
    sym (finds (state_of_pieces limit before) code p.item taken.shown.shows) ∙ ap comment_of_mark is in
    let comment : IsMark c = every_mark_is_comment m.head m.edits.now in
    record {
      marked = with_mark mark before ++ comment_piece space c ∷ [];
      after = record p { space = 10 ∷ [] };
      marked_is = refl;
      more = one_more_end mark limit before p c some space next.space_is;
      in_place = end_in_place mark limit before p c some space next.space_is;
      next = mark_is_next mark limit before p c some space next.space_is (comment_is_mark own) comment next.allowed;
      taken = end_is_taken mark limit before p c some space next.space_is (comment_is_mark own) comment next.allowed
          item code scopes body taken;
    }
