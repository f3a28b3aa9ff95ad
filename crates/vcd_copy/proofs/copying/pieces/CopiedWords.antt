-- One more word of a file that is copied.
use Rattle.std.proofs.Common.{◌≡◌, ◌∙◌, ◌⊎◌, inl, inr, ℕ, ◌+◌, ◌-◌, ◌<◌, Bool, true, false, cond, List, [], ◌∷◌}
use Rattle.std.proofs.Common.{◌++◌}
use Rattle.std.proofs.Common.{length, length-take-le, refl, sym, ap, ap₂, subst, arith, append_assoc}
use Rattle.std.proofs.lemmas.List.{append-nil, length-append, map-append}
use Rattle.std.proofs.lemmas.Bool.{false≢true}
use Rattle.std.specs.Prelude.{Option}
use Rattle.vcd_core.specs.declared.capture.ScopeName.{ScopeName}
use Rattle.vcd_core.specs.declared.capture.Timescale.{Timescale}
use Rattle.vcd_text.specs.Words.{WordOnLine}
use Rattle.vcd_text.specs.Items.{Item, spelling, variable, end_definitions, stamp, scalar, vector, real_or_string}
use Rattle.vcd_text.specs.Items.{entry, timescale, scope, upscope, dump_word, other}
use Rattle.vcd_text.specs.Grammar.{ParseState, initial_state, state_after_item, AllowsAll, Allows, word_texts}
use Rattle.vcd_copy.specs.Pieces.{state_of_pieces, Piece}
use Rattle.vcd_copy.specs.Copied.{CopyRules, copied_piece, copied_pieces, piece_items}
use Rattle.vcd_copy.specs.Copied.{may_be_amended}
use Rattle.vcd_text.specs.inside.Words.{has_complete_words}
use Rattle.vcd_copy.specs.inside.Copying.{Adds, standing_part}
use Rattle.vcd_copy.specs.inside.Copying.{IsOpenItem, HasCopied, IsSpacedWord, EndsPiece, stands_open}
use Rattle.vcd_copy.specs.Pieces.{piece_bytes}
use Rattle.vcd_text.specs.inside.reading.Part.{Asked}
use Rattle.vcd_text.specs.inside.reading.Parser.{IsAtState, IsBegun, WordStep, goes_on, ends_item}
use Rattle.vcd_text.specs.declared.reading.parser.Parser.{Parser}
use Rattle.vcd_text.specs.declared.reading.parser.OpenItem.{OpenItem}
use Rattle.vcd_text.specs.declared.reading.parser.OpenItem.TheVariants as items
use Rattle.vcd_text.proofs.read_back.Words.{is_unbroken}
use Rattle.vcd_copy.proofs.pieces.Bytes.{texts_are}
use Rattle.vcd_copy.proofs.pieces.Cuts.{SpellsItem}
use Rattle.vcd_copy.proofs.copying.pieces.EndedItems.{nothing_open, something_open, opened_as, ended, stands_at}
use Rattle.vcd_copy.proofs.copying.pieces.EndedItems.{IsShownAs, free_if}
use Rattle.vcd_copy.proofs.copying.pieces.OneWordMore.{not_complete, no_texts, shuffled, both_held}
use Rattle.vcd_copy.proofs.shared.CopiedPieces.{copied_one}
use Rattle.vcd_copy.proofs.copying.pieces.OneWordMore.{with_words_more, with_place}
use Rattle.vcd_copy.proofs.copying.pieces.OneWordMore.{cut_more, bytes_more, reaches_more, begins, goes_further}

-- what stands whatever follows is not shown, so it may not be amended
pub not_shown : (item : OpenItem) (text : List ℕ) (tick depth : ℕ) (given : Option Timescale) (i : Item)
    (c : ParseState) → stands_open item ≡ true → IsShownAs c item text tick depth given i → may_be_amended i ≡ false
not_shown (items.Entry kind) text tick depth given i c stands is = is
not_shown items.Timescale text tick depth given i c stands is = is
not_shown items.Scope text tick depth given i c stands is = is
not_shown items.Upscope text tick depth given i c stands is = is
not_shown items.Other text tick depth given i c stands is = is
not_shown items.Nothing text tick depth given i c stands is = absurd (false≢true stands)
not_shown items.Variable text tick depth given i c stands is = absurd (false≢true stands)
not_shown items.SizedVariable text tick depth given i c stands is = absurd (false≢true stands)
not_shown items.EndDefinitions text tick depth given i c stands is = absurd (false≢true stands)
not_shown items.Vector text tick depth given i c stands is = absurd (false≢true stands)
not_shown items.RealOrString text tick depth given i c stands is = absurd (false≢true stands)

-- an item that may be amended opens and closes no scope
scopes_stay : (c : ParseState) (i : Item) → may_be_amended i ≡ true → (state_after_item c i).scopes ≡ c.scopes
scopes_stay c (variable words) amended = refl
scopes_stay c end_definitions amended = refl
scopes_stay c (stamp digits) amended = refl
scopes_stay c (scalar digit code) amended = refl
scopes_stay c (vector first digits code) amended = refl
scopes_stay c (real_or_string first text code) amended = refl
scopes_stay c (entry kind words) amended = absurd (false≢true amended)
scopes_stay c (timescale words) amended = absurd (false≢true amended)
scopes_stay c (scope kind words) amended = absurd (false≢true amended)
scopes_stay c upscope amended = absurd (false≢true amended)
scopes_stay c (dump_word word) amended = absurd (false≢true amended)
scopes_stay c (other word words) amended = absurd (false≢true amended)

-- ---- one word

module _ (limit : ℕ) (rules : CopyRules) (seen_before : List Piece → Type 0) (written0 : List ℕ → Type 0)
    (old : Parser) (held0 held1 : List ℕ) (len0 len1 : ℕ) (before bytes : List ℕ) (w : WordOnLine)
    (h : HasCopied limit rules seen_before written0 old held0 len0 before) (s : IsSpacedWord before bytes w.text)
    (whole : is_unbroken w.text ≡ true) (held_is : held1 ≡ held0 ++ bytes)
    (len_first : old.item ≡ items.Nothing → len1 ≡ length held0 + (length bytes - length w.text))
    (len_later : (old.item ≡ items.Nothing → ⊥) → len1 ≡ len0) where
  pub record Longer : Type 0 where
    pub more_space : List ℕ
    pub more_body : List ℕ
    pub opened : IsOpenItem h.pieces more_space more_body (word_texts (h.begun ++ w ∷ []))
    pub own : (h.space ++ (h.body ++ h.gap)) ++ bytes ≡ more_space ++ more_body
    pub len : len1 ≡ length more_space

  is_apart : (0 < length (h.gap ++ s.space)) ⊎ ((h.pieces ≡ []) × (h.begun ≡ []))
  is_apart = elim s.apart [
    | inl some ↦ inl (omega (arith, some, length-append h.gap s.space))
    | inr complete ↦ elim (h.gap_some complete) [
      | inl some ↦ inl (omega (arith, some, length-append h.gap s.space))
      | inr none ↦ inr none
    ]
  ]

  pub longer : Longer
  longer = go h.begun refl
    where
      go : (ws : List WordOnLine) → h.begun ≡ ws → Longer
      go [] none =
          let nothing : old.item ≡ items.Nothing = nothing_open old old.item (rw none at h.at.1) in
          let empty = h.opened.none (ap word_texts none) in
          let held : held0 ≡ h.space ++ (h.body ++ h.gap) = h.held_is ∙ ap (λ i. cond (stands_open i) h.gap
          (h.space ++ (h.body ++ h.gap))) nothing in
          let bare : h.space ++ (h.body ++ h.gap) ≡ h.gap = ap₂ (λ x y. x ++ (y ++ h.gap)) empty.0 empty.1 in
          record {
            more_space = h.gap ++ s.space;
            more_body = w.text;
            opened = begins h.pieces h.space h.body h.gap bytes h.begun w h.opened h.gap_white whole s.space s.is
                s.white
                is_apart none;
            own = ap₂ (λ x y. x ++ y) bare s.is ∙ sym (append_assoc h.gap s.space w.text);
            len = len_first nothing ∙ omega (
              arith,
              ap (length {A = ℕ}) (held ∙ bare),
              ap (length {A = ℕ}) s.is,
              length-append s.space w.text,
              length-append h.gap s.space,
            );
          }
      go (v ∷ vs) is =
          let some : 0 < length (word_texts h.begun) = rw is (omega arith) in
          record {
            more_space = h.space;
            more_body = h.body ++ ((h.gap ++ s.space) ++ w.text);
            opened = goes_further h.pieces h.space h.body h.gap bytes h.begun w h.opened h.gap_white whole s.space s.is
                s.white is_apart some;
            own = ap (λ l. (h.space ++ (h.body ++ h.gap)) ++ l) s.is ∙ shuffled h.space h.body h.gap s.space w.text;
            len = len_later (λ nothing. let none : v ∷ vs ≡ [] = sym is ∙ subst (IsBegun old h.begun) nothing h.at.1 in
                cc) ∙ h.len some;
          }

  -- the open items before and after a word that ends none
  same_standing : (later : Asked) (new : Parser) → IsAtState later new (state_of_pieces limit h.pieces) (h.begun ++ w
      ∷ []) → stands_open new.item ≡ false → stands_open old.item ≡ false
  same_standing later new at held = go h.begun refl
    where
      go : (ws : List WordOnLine) → h.begun ≡ ws → stands_open old.item ≡ false
      go [] none = ap stands_open (nothing_open old old.item (rw none at h.at.1))
      go (v ∷ vs) is =
          let first = opened_as old h.begun v.text (word_texts vs) old.item h.at.1 (ap word_texts is) in
          let again = opened_as new (h.begun ++ w ∷ []) v.text (word_texts (vs ++ w ∷ [])) new.item at.1 (ap (λ ws.
          word_texts (ws ++ w ∷ [])) is) in
          sym first ∙ ap (λ b. stands_at b v.text) (h.at.0.in_body ∙ sym at.0.in_body) ∙ again ∙ held

  module _ (seen_after : List Piece → Type 0) (written1 : List ℕ → Type 0) (held2 : List ℕ) (len2 : ℕ) (later : Asked)
      (new : Parser) where
    all_held : cond (stands_open old.item) (h.space ++ h.body) [] ++ held1 ≡ longer.more_space
        ++ longer.more_body
    all_held = ap (λ l. cond (stands_open old.item) (h.space ++ h.body) [] ++ l) (held_is
        ∙ ap (λ l. l ++ bytes) h.held_is)
        ∙ both_held (stands_open old.item) h.space h.body h.gap bytes ∙ longer.own

    own_held : stands_open old.item ≡ false → held1 ≡ longer.more_space ++ longer.more_body
    own_held held = ap (λ t. cond t (h.space ++ h.body) [] ++ held1) (sym held) ∙ all_held

    taken_bytes : before ++ bytes ≡ piece_bytes h.pieces ++ (longer.more_space ++ longer.more_body)
    taken_bytes = ap (λ l. l ++ bytes) h.whole ∙ append_assoc (piece_bytes h.pieces) _ bytes
        ∙ ap (λ l. piece_bytes h.pieces
        ++ l) longer.own

    not_complete_now : has_complete_words (before ++ bytes) ≡ true → ⊥
    not_complete_now complete = not_complete (before ++ s.space) w.text whole (ap has_complete_words
        (append_assoc before
        s.space w.text ∙ ap (λ l. before ++ l) (sym s.is)) ∙ complete)

    -- a word that goes on with an item
    pub goes_on_copied : IsAtState later new (state_of_pieces limit h.pieces) (h.begun ++ w ∷ [])
        → seen_after h.pieces
        → Adds written0 written1 (cond (stands_open new.item) (standing_part rules h.pieces old.item held1) [])
        → held2 ≡ cond (stands_open new.item) [] held1 → len2 ≡ len1
        → HasCopied limit rules seen_after written1 new held2 len2 (before ++ bytes)
    goes_on_copied at seen writes is len = record {
      asked = later;
      pieces = h.pieces;
      begun = h.begun ++ w ∷ [];
      space = longer.more_space;
      body = longer.more_body;
      gap = [];
      cut = h.cut;
      allowed = h.allowed;
      at = at;
      opened = longer.opened;
      gap_white = refl;
      gap_some = λ complete. absurd (not_complete_now complete);
      whole = taken_bytes ∙ ap (λ l. piece_bytes h.pieces ++ (longer.more_space ++ l)) (sym
          (append-nil longer.more_body));
      seen = seen;
      writes = subst written1 (emitted (stands_open new.item) refl) (writes _ h.writes);
      held_is = held_now (stands_open new.item) refl;
      len = λ some. len ∙ longer.len;
    }
      where
        emitted : (t : Bool) → stands_open new.item ≡ t → (copied_pieces rules [] h.pieces
            ++ cond (stands_open old.item) (rules.before_others h.pieces ++ (h.space ++ h.body)) [])
            ++ cond t (standing_part rules h.pieces old.item held1) []
            ≡ copied_pieces rules [] h.pieces
            ++ cond t (rules.before_others h.pieces ++ (longer.more_space ++ longer.more_body)) []
        emitted true stands = with_words_more (stands_open old.item) (copied_pieces rules [] h.pieces)
            (rules.before_others h.pieces) (h.space ++ h.body) held1 _ all_held
        emitted false held = append-nil _ ∙ ap (λ t. copied_pieces rules [] h.pieces
            ++ cond t (rules.before_others h.pieces ++ (h.space ++ h.body)) [])
            (same_standing later new at held)

        held_now : (t : Bool) → stands_open new.item ≡ t → held2 ≡ cond t [] (longer.more_space
            ++ (longer.more_body ++ []))
        held_now true stands = is ∙ ap (λ t. cond t [] held1) stands
        held_now false held = is ∙ ap (λ t. cond t [] held1) held
            ∙ own_held (same_standing later new at held)
            ∙ ap (λ l. longer.more_space ++ l) (sym (append-nil longer.more_body))

    module _ (i : Item) (spelled : spelling i ≡ word_texts (h.begun ++ w ∷ []))
        (allows : Allows (state_of_pieces limit h.pieces) i)
        (at : IsAtState later new (state_after_item (state_of_pieces limit h.pieces) i) []) where
      -- the piece that the word ends
      abbrev pub piece : Piece
      piece = record { item = i; space = longer.more_space; body = longer.more_body }

      depth_is : new.variables.scopes.depth ≡ length (state_after_item (state_of_pieces limit h.pieces) i).scopes
      depth_is = sym (length-take-le _ _ new.variables.scopes.within)
          ∙ ap (length {A = ScopeName}) at.0.variables.opened

      pub shown_as : IsShownAs (state_of_pieces limit h.pieces) old.item w.text new.tick new.variables.scopes.depth
          new.timescale i
      shown_as = ended h.asked old (state_of_pieces limit h.pieces) h.begun w i new.tick new.variables.scopes.depth
          new.timescale h.at.0 allows spelled at.0.tick depth_is at.0.timescale old.item h.at.1

      reached : AllowsAll (initial_state limit) (piece_items (h.pieces ++ piece ∷ []))
          × (state_of_pieces limit (h.pieces ++ piece ∷ []) ≡ state_after_item (state_of_pieces limit h.pieces) i)
      reached = reaches_more limit h.pieces piece h.allowed allows

      spells : SpellsItem piece
      spells = longer.opened.spelled ∙ sym spelled

      pub ends_piece : EndsPiece limit h.pieces piece old.item w.text new
      ends_piece = record {
        next = record { allowed = reached.0; space_is = refl; body_is = refl; spelled = spells };
        shown = shown_as;
        scopes = λ amended. at.0.variables.opened ∙ scopes_stay (state_of_pieces limit h.pieces) i amended;
        free = free_if h.asked old (state_of_pieces limit h.pieces) h.begun w i h.at.0 allows spelled old.item h.at.1;
      }

      pub piece_held : stands_open old.item ≡ false → (held1 ≡ piece.space ++ piece.body)
          × (len1 ≡ length piece.space)
      piece_held held = (own_held held, longer.len)

      some_texts : 0 < length (word_texts (h.begun ++ w ∷ []))
      some_texts =
          omega (
            arith,
            ap (length {A = List ℕ}) (map-append (λ w. w.text) h.begun (w ∷ [])),
            length-append (word_texts h.begun) (w.text ∷ []),
          )

      -- a word that ends an item
      pub ended_copied : seen_after (h.pieces ++ piece ∷ [])
          → Adds written0 written1 (cond (stands_open old.item) held1 (copied_piece rules h.pieces piece))
          → held2 ≡ [] → HasCopied limit rules seen_after written1 new held2 len2 (before ++ bytes)
      ended_copied seen writes empty = record {
        asked = later;
        pieces = h.pieces ++ piece ∷ [];
        begun = [];
        space = [];
        body = [];
        gap = [];
        cut = cut_more h.pieces piece h.cut spells longer.opened.tight longer.opened.white
            (longer.opened.apart some_texts);
        allowed = reached.0;
        at = subst (λ c. IsAtState later new c []) (sym reached.1) at;
        opened = record {
          spelled = texts_are [] ∙ no_texts;
          tight = (refl, refl);
          white = refl;
          apart = λ some. absurd (omega (arith, some));
          none = λ none. (refl, refl);
        };
        gap_white = refl;
        gap_some = λ complete. absurd (not_complete_now complete);
        whole = taken_bytes ∙ sym (bytes_more h.pieces piece) ∙ sym (append-nil (piece_bytes (h.pieces ++ piece ∷ [])));
        seen = seen;
        writes = subst written1 (emitted ∙ ap (λ l. copied_pieces rules []
            (h.pieces ++ piece ∷ []) ++ l)
            (sym (ap (λ t. cond (stands_open t) (rules.before_others (h.pieces ++ piece ∷ []) ++ ([] ++ [])) [])
            nothing))) (writes _ h.writes);
        held_is = empty ∙ sym (ap (λ t. cond (stands_open t) [] ([] ++ ([] ++ []))) nothing);
        len = λ some. absurd (omega (arith, some));
      }
        where
          nothing : new.item ≡ items.Nothing
          nothing = nothing_open new new.item at.1

          stands_whole : stands_open old.item ≡ true
              → copied_piece rules h.pieces piece ≡ rules.before_others h.pieces ++ (piece.space ++ piece.body)
          stands_whole stands = ap (λ t. cond t (rules.in_place h.pieces piece)
              (rules.before_others h.pieces ++ (piece.space ++ piece.body))) (not_shown
              old.item w.text new.tick new.variables.scopes.depth new.timescale i (state_of_pieces limit h.pieces)
              stands shown_as)

          emitted : (copied_pieces rules [] h.pieces
              ++ cond (stands_open old.item) (rules.before_others h.pieces ++ (h.space ++ h.body)) [])
              ++ cond (stands_open old.item) held1 (copied_piece rules h.pieces piece)
              ≡ copied_pieces rules [] (h.pieces ++ piece ∷ []) ++ []
          emitted = with_place (stands_open old.item) (copied_pieces rules [] h.pieces)
              (rules.before_others h.pieces) (h.space ++ h.body) held1 _ (copied_piece rules h.pieces piece) all_held
              stands_whole ∙ sym (copied_one rules [] h.pieces piece)
              ∙ sym (append-nil (copied_pieces rules [] (h.pieces ++ piece ∷ [])))

    -- what is held of the piece that the word ends, if it ends one
    pub piece_ended : WordStep later (state_of_pieces limit h.pieces) (h.begun ++ w ∷ []) new
        → new.item ≡ items.Nothing → (p : Piece) × EndsPiece limit h.pieces p old.item w.text new
        × (stands_open old.item ≡ false → (held1 ≡ p.space ++ p.body) × (len1 ≡ length p.space))
    piece_ended (goes_on at) nothing = absurd (something_open new h.begun w new.item at.1 nothing)
    piece_ended (ends_item i spelled allows at) nothing =
        (piece i spelled allows at, ends_piece i spelled allows at, piece_held i spelled allows at)
