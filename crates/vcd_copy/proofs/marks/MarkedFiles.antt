-- A file with a mark is accepted, and means what it meant, with the mark in its header.
use Rattle.std.proofs.Common.{◌≡◌, ℕ, ◌∙◌, Bool, true, false, All, drop, List, [], ◌∷◌, ◌++◌, not, ◌&&◌}
use Rattle.std.proofs.Common.{refl, ap, sym, arith, subst, if◌then◌else◌, Option, Some, None, append_assoc, append-nil}
use Rattle.std.specs.Prelude.{IsTrue, IfSome}
use Rattle.std.proofs.lemmas.Bool.{and_from}
use Rattle.std.proofs.lemmas.List.Elements.{All-cons, All-head, All-tail}
use Rattle.vcd_core.specs.declared.capture.Header.{Header}
use Rattle.vcd_core.specs.declared.capture.HeaderKind.TheVariants.{Comment}
use Rattle.vcd_text.specs.Items.{Item, entry, variable, end_definitions, has_no_end_word}
use Rattle.vcd_text.specs.Grammar.{ParseState, Allows, AllowsAll, state_after, state_after_item, initial_state}
use Rattle.vcd_copy.specs.Pieces.{Piece, IsCut, piece_bytes, state_of_pieces}
use Rattle.vcd_copy.specs.Copied.{piece_items}
use Rattle.vcd_copy.specs.Marks.{CommentBytes, comment_piece, mark_before, after_mark, with_mark, IsMark}
use Rattle.vcd_copy.specs.Marks.{MarkedFileMeansSame}
use Rattle.vcd_copy.proofs.shared.SpelledItems.{cut_spells_items}
use Rattle.vcd_copy.proofs.pieces.Cuts.{SpellsItem, IsTight, SpaceIsWhite, HasSomeSpace}

-- ---- where a mark comes

-- it comes before one item
pub ends_with_mark : (mark : Option CommentBytes) (i : Item) (m : CommentBytes) → mark_before mark i ≡ Some m
    → (i ≡ end_definitions) × (mark ≡ Some m)
ends_with_mark mark end_definitions m is = (refl, is)
ends_with_mark mark i m is = absurd (cc)

-- without a mark all pieces stay
pub none_before : (i : Item) → mark_before None i ≡ None
none_before end_definitions = refl
none_before i = refl

pub unmarked : (ps : List Piece) → with_mark None ps ≡ ps
unfolding with_mark
unmarked [] = refl
unmarked (p ∷ ps) = λ i. after_mark (none_before p.item i) p ++ unmarked ps i

-- with one piece more
pub with_one_more : (mark : Option CommentBytes) (before : List Piece) (p : Piece)
    → with_mark mark (before ++ p ∷ []) ≡ with_mark mark before ++ after_mark (mark_before mark p.item) p
unfolding with_mark
with_one_more mark [] p = append-nil (after_mark (mark_before mark p.item) p)
with_one_more mark (b ∷ bs) p =
    ap (λ (ps : List Piece). after_mark (mark_before mark b.item) b ++ ps) (with_one_more mark bs p)
    ∙ sym (append_assoc (after_mark (mark_before mark b.item) b) (with_mark mark bs) _)

-- ---- the state

-- a header with a mark, if there is one
abbrev pub header_with : Option CommentBytes → List Header → List Header
header_with None hs = hs
header_with (Some m) hs = hs ++ record { kind = Comment; words = m.words } ∷ []

-- a state whose header has the mark, if the declarations have ended
abbrev pub noted_if : Option CommentBytes → Bool → ParseState → ParseState
noted_if mark b s = if b then record s { header = header_with mark s.header } else s

abbrev pub noted : Option CommentBytes → ParseState → ParseState
noted mark s = noted_if mark s.in_body s

allows_noted : (mark : Option CommentBytes) (b : Bool) (s : ParseState) (i : Item) → Allows s i
    → Allows (noted_if mark b s) i
allows_noted mark false s i allows = allows
allows_noted mark true s (variable []) allows = allows
allows_noted mark true s (variable (kind ∷ [])) allows = allows
allows_noted mark true s (variable (kind ∷ size ∷ [])) allows = allows
allows_noted mark true s (variable (kind ∷ size ∷ code ∷ [])) allows = allows
allows_noted mark true s (variable (kind ∷ size ∷ code ∷ name ∷ names)) allows = allows
allows_noted mark true s i allows = allows

in_declarations : (b c : Bool) → (not b && c) ≡ true → b ≡ false
in_declarations false c is = refl
in_declarations true c is = absurd (cc)

before_end : (b : Bool) → not b ≡ true → b ≡ false
before_end false is = refl
before_end true is = absurd (cc)

-- an item that is no entry, and does not end the declarations
abbrev IsPlain : Item → Type 0
IsPlain (entry kind words) = ⊥
IsPlain end_definitions = ⊥
IsPlain i = Unit {0}

plain_item : (mark : Option CommentBytes) (b : Bool) (s : ParseState) (i : Item) → IsPlain i
    → state_after_item (noted_if mark b s) i ≡ noted_if mark b (state_after_item s i)
plain_item mark b s (entry kind words) plain = absurd plain
plain_item mark b s end_definitions plain = absurd plain
plain_item mark true s (variable []) plain = refl
plain_item mark true s (variable (kind ∷ [])) plain = refl
plain_item mark true s (variable (kind ∷ size ∷ [])) plain = refl
plain_item mark true s (variable (kind ∷ size ∷ code ∷ [])) plain = refl
plain_item mark true s (variable (kind ∷ size ∷ code ∷ name ∷ names)) plain = refl
plain_item mark true s i plain = refl
plain_item mark false s i plain = refl

-- after an item before which no mark comes
noted_item : (mark : Option CommentBytes) (s : ParseState) (i : Item) → mark_before mark i ≡ None → Allows s i
    → state_after_item (noted mark s) i ≡ noted mark (state_after_item s i)
noted_item mark s (entry kind words) none allows =
    subst (λ b. state_after_item (noted_if mark b s) (entry kind words)
    ≡ noted_if mark b (state_after_item s (entry kind words))) (sym (in_declarations s.in_body _ allows.0)) refl
noted_item mark s end_definitions none allows =
    (λ i. record (noted_if mark (before_end s.in_body allows.0 i) s) { in_body = true })
    ∙ ap (λ (o : Option CommentBytes). record s { header = header_with o s.header; in_body = true }) (sym none)
noted_item mark s i none allows = plain_item mark s.in_body s i tt

-- ---- a mark among pieces

-- it is allowed before the end of the declarations, and this after it
abbrev EndAllowed : Option CommentBytes → CommentBytes → ParseState → Bool → Item → Type 0
EndAllowed mark c s b i = Allows (noted_if mark b s) (entry Comment c.words)
    × Allows (state_after_item (noted_if mark b s) (entry Comment c.words)) i
    × (state_after_item (state_after_item (noted_if mark b s) (entry Comment c.words)) i
    ≡ noted mark (state_after_item s i))

end_allowed : (mark : Option CommentBytes) (c : CommentBytes) (s : ParseState) → IsMark c → mark ≡ Some c
    → Allows s end_definitions → EndAllowed mark c s s.in_body end_definitions
end_allowed mark c s comment some ends =
    subst (λ (b : Bool). EndAllowed mark c s b end_definitions) (sym (before_end s.in_body ends.0)) (
      (and_from (not s.in_body) (has_no_end_word c.words) ends.0 comment.no_end, refl),
      ends,
      ap (λ (o : Option CommentBytes). record s { header = header_with o s.header; in_body = true }) (sym some),
    )

module _ (mark : Option CommentBytes) (m : IfSome mark IsMark) where
  pub all_marked : (s : ParseState) (ps : List Piece) → AllowsAll s (piece_items ps)
      → AllowsAll (noted mark s) (piece_items (with_mark mark ps))
      × (state_after (noted mark s) (piece_items (with_mark mark ps)) ≡ noted mark (state_after s (piece_items ps)))
  unfolding with_mark
  all_marked s [] all = (tt, refl)
  all_marked s (p ∷ ps) all =
      by_test (mark_before mark p.item) refl (all_marked (state_after_item s p.item) ps all.1)
    where
      by_test : (o : Option CommentBytes) → mark_before mark p.item ≡ o
          → AllowsAll (noted mark (state_after_item s p.item)) (piece_items (with_mark mark ps))
          × (state_after (noted mark (state_after_item s p.item)) (piece_items (with_mark mark ps))
          ≡ noted mark (state_after (state_after_item s p.item) (piece_items ps)))
          → AllowsAll (noted mark s) (piece_items (after_mark o p ++ with_mark mark ps))
          × (state_after (noted mark s) (piece_items (after_mark o p ++ with_mark mark ps))
          ≡ noted mark (state_after (state_after_item s p.item) (piece_items ps)))
      by_test None none rest =
          let same = noted_item mark s p.item none all.0 in (
            (
              allows_noted mark s.in_body s p.item all.0,
              subst (λ (u : ParseState). AllowsAll u (piece_items (with_mark mark ps))) (sym same) rest.0,
            ),
            ap (λ (u : ParseState). state_after u (piece_items (with_mark mark ps))) same ∙ rest.1,
          )
      by_test (Some c) ends rest =
          let (is, some) = ends_with_mark mark p.item c ends in
          let comment : IsMark c = subst (λ (o : Option CommentBytes). IfSome o IsMark) some m in
          let (first, second, same) = subst (λ (i : Item). EndAllowed mark c s s.in_body i) (sym is)
          (end_allowed mark c s comment some (subst (λ (i : Item). Allows s i) is all.0)) in (
            (
              first,
              (second, subst (λ (u : ParseState). AllowsAll u (piece_items (with_mark mark ps))) (sym same) rest.0),
            ),
            ap (λ (u : ParseState). state_after u (piece_items (with_mark mark ps))) same ∙ rest.1,
          )

  -- a property of each piece, which a mark has after its space, and a piece after a line feed
  all_with_mark : (P : Piece → Type 0) → ((p : Piece) (c : CommentBytes) → IsMark c → P p → P (comment_piece p.space c))
      → ((p : Piece) → P p → P (record p { space = 10 ∷ [] })) → (ps : List Piece) → All P ps
      → All P (with_mark mark ps)
  unfolding with_mark
  all_with_mark P of_mark of_next [] all = all
  all_with_mark P of_mark of_next (p ∷ ps) all =
      by_test (mark_before mark p.item) refl (all_with_mark P of_mark of_next ps (All-tail P p ps all))
    where
      by_test : (o : Option CommentBytes) → mark_before mark p.item ≡ o → All P (with_mark mark ps)
          → All P (after_mark o p ++ with_mark mark ps)
      by_test None none rest = All-cons P p (with_mark mark ps) (All-head P p ps all) rest
      by_test (Some c) ends rest =
          let here : P p = All-head P p ps all in
          let comment : IsMark c = subst (λ (o : Option CommentBytes). IfSome o IsMark)
          (ends_with_mark mark p.item c ends).1 m in
          let next : Piece = record p { space = 10 ∷ [] } in
          All-cons P (comment_piece p.space c) (next ∷ with_mark mark ps) (of_mark p c comment here)
          (All-cons P next (with_mark mark ps) (of_next p here) rest)

  -- white space comes before each piece but the first
  some_space : (ps : List Piece) → All HasSomeSpace (drop 1 ps) → All HasSomeSpace (drop 1 (with_mark mark ps))
  unfolding with_mark
  some_space [] all = all
  some_space (p ∷ ps) all = by_test (mark_before mark p.item)
      (all_with_mark HasSomeSpace (λ q c comment some. some) (λ q some. omega arith) ps all)
    where
      by_test : (o : Option CommentBytes) → All HasSomeSpace (with_mark mark ps)
          → All HasSomeSpace (drop 1 (after_mark o p ++ with_mark mark ps))
      by_test None rest = rest
      by_test (Some c) rest =
          All-cons HasSomeSpace (record p { space = 10 ∷ [] }) (with_mark mark ps) (omega arith) rest

  module _ (limit : ℕ) (file : List ℕ) (pieces : List Piece) (tail : List ℕ) (cut : IsCut file pieces tail)
      (allowed : AllowsAll (initial_state limit) (piece_items pieces)) where
    pub cut_with_mark : IsCut (piece_bytes (with_mark mark pieces) ++ tail) (with_mark mark pieces) tail
    cut_with_mark = record {
      whole = refl;
      spelled = all_with_mark SpellsItem (λ p c comment is. comment.spelled) (λ p is. is) pieces cut.spelled;
      tight = all_with_mark IsTight (λ p c comment is. comment.tight) (λ p is. is) pieces cut.tight;
      spaces = all_with_mark SpaceIsWhite (λ p c comment is. is) (λ p is. refl) pieces cut.spaces;
      apart = some_space pieces cut.apart;
      end = cut.end;
    }

    pub allowed_with_mark : AllowsAll (initial_state limit) (piece_items (with_mark mark pieces))
    allowed_with_mark = (all_marked (initial_state limit) pieces allowed).0

    pub state_with_mark : state_of_pieces limit (with_mark mark pieces) ≡ noted mark (state_of_pieces limit pieces)
    state_with_mark = (all_marked (initial_state limit) pieces allowed).1

-- the state of an accepted file with a mark
pub noted_in_body : (mark : Option CommentBytes) (s : ParseState) → IsTrue s.in_body
    → noted mark s ≡ record s { header = header_with mark s.header }
noted_in_body mark s in_body = ap (λ (b : Bool). noted_if mark b s) in_body

pub marked_file_means_same : MarkedFileMeansSame
marked_file_means_same limit mark file pieces tail m cut allowed in_body =
    let s : ParseState = state_of_pieces limit pieces in
    let t : ParseState = record s { header = header_with (Some mark) s.header } in
    let bytes : List ℕ = piece_bytes (with_mark (Some mark) pieces) ++ tail in
    record {
      state = t;
      accepted = record {
        items = piece_items (with_mark (Some mark) pieces);
        spelled = cut_spells_items bytes (with_mark (Some mark) pieces) tail
            (cut_with_mark (Some mark) m limit file pieces tail cut allowed);
        allowed = allowed_with_mark (Some mark) m limit file pieces tail cut allowed;
        state_is = state_with_mark (Some mark) m limit file pieces tail cut allowed
            ∙ noted_in_body (Some mark) s in_body;
        definitions_ended = in_body;
      };
      means = refl;
      left_out = refl;
    }
