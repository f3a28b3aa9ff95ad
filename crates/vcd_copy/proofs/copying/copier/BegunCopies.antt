-- What was written of a file so far begins the copy of the file, if it is accepted.
use Rattle.std.proofs.Common.{◌≡◌, ◌∙◌, ◌<◌, ℕ, Bool, true, false, cond, List, [], ◌∷◌, ◌++◌, length}
use Rattle.std.proofs.Common.{refl, sym, ap, ap₂, subst, arith, append_assoc, inl, inr}
use Rattle.std.proofs.lemmas.List.{append-nil, length-append}
use Rattle.std.proofs.lemmas.Bool.{false≢true}
use Rattle.std.proofs.lemmas.List.Elements.{All-head, All-tail}
use Rattle.std.proofs.lemmas.Grind.{flat_map-append}
use Rattle.vcd_core.specs.declared.device.Sink as sinks
use Rattle.vcd_text.specs.Words.{WordOnLine, words_of}
use Rattle.vcd_text.specs.Items.{spelling, spellings}
use Rattle.vcd_text.specs.Grammar.{ParseState, initial_state, state_after, word_texts, AllowsAll, Accepts}
use Rattle.vcd_text.specs.inside.Words.{has_complete_words}
use Rattle.vcd_text.specs.declared.reading.parser.Parser.{Parser}
use Rattle.vcd_text.specs.declared.writing.output.Output.{Output}
use Rattle.vcd_text.specs.EmittedText.{Emits}
use Rattle.vcd_copy.specs.Pieces.{Piece, IsCut, piece_bytes, state_of_pieces}
use Rattle.vcd_copy.specs.Copied.{CopyRules, IsCopy, copied_pieces, piece_items}
use Rattle.vcd_copy.specs.inside.Copying.{HasCopied, TookCopy, TookBeginning, stands_open}
use Rattle.vcd_copy.proofs.shared.SpelledItems.{bytes_spell, first_items}
use Rattle.vcd_copy.proofs.shared.CopiedPieces.{copied_more}
use Rattle.vcd_copy.proofs.pieces.Bytes.{texts, texts_are, is_end, space_first, both_parts}
use Rattle.vcd_copy.proofs.pieces.Cuts.{SpellsItem, IsTight, SpaceIsWhite, HasSomeSpace, all_parts, white_ends}
use Rattle.vcd_copy.proofs.pieces.Cuts.{file_is_cut, in_two}
use Rattle.vcd_copy.proofs.pieces.OneCut.{same_pieces, same_space, overlap, pieces_end, body_begins, begins, later}
use Rattle.vcd_copy.proofs.copying.pieces.BegunItems.{has_more_words, item_stands}
use Rattle.vcd_copy.proofs.copying.pieces.EndedItems.{nothing_open}
use Rattle.vcd_copy.proofs.copying.pieces.OneWordMore.{space_ends}
use Rattle.vcd_copy.proofs.copying.copier.Told.{begins_with, next_ends}

-- ---- the first pieces

-- pieces whose items are the first of a file's are its first pieces, and the others are cut from the rest
first_pieces : (ps front back : List Piece) (rest tail : List ℕ)
    → piece_bytes ps ++ rest ≡ piece_bytes (front ++ back) ++ tail → piece_items ps ≡ piece_items front
    → IsCut (piece_bytes ps) ps [] → (file : List ℕ) → IsCut file (front ++ back) tail
    → (0 < length ps → is_end rest ≡ true) → (ps ≡ front) × IsCut rest back tail
first_pieces [] [] back rest tail same items own file cut ends = (
  refl,
  record {
    whole = same;
    spelled = cut.spelled;
    tight = cut.tight;
    spaces = cut.spaces;
    apart = cut.apart;
    end = cut.end;
  },
)
first_pieces [] (q ∷ front) back rest tail same items own file cut ends = absurd (cc)
first_pieces (p ∷ ps) [] back rest tail same items own file cut ends = absurd (cc)
first_pieces (p ∷ ps) (q ∷ front) back rest tail same items own file cut ends =
    let qs : List Piece = q ∷ front in
    let spelled = all_parts SpellsItem qs back cut.spelled in
    let tight = all_parts IsTight qs back cut.tight in
    let spaces = all_parts SpaceIsWhite qs back cut.spaces in
    let apart = all_parts HasSomeSpace front back cut.apart in
    let both = same_pieces (p ∷ ps) qs rest (piece_bytes back ++ tail) (same
    ∙ ap (λ l. l ++ tail) (flat_map-append (λ (p : Piece). p.space ++ p.body) qs back)
    ∙ append_assoc (piece_bytes qs) (piece_bytes back) tail) items own.spelled spelled.0 own.tight tight.0 own.spaces
    spaces.0 own.apart apart.0 (ends (omega arith))
    (pieces_end back tail spaces.1 apart.1 (white_ends tail cut.end)) in (
      both.0,
      record {
        whole = both.1;
        spelled = spelled.1;
        tight = tight.1;
        spaces = spaces.1;
        apart = later back apart.1;
        end = cut.end;
      },
    )

-- ---- the open item

-- a body with more words than another begins with its bytes
first_body : (body y x r : List ℕ) (word : List ℕ) (words : List (List ℕ)) → body ++ x ≡ y ++ r → is_end r ≡ true
    → texts y ≡ texts body ++ word ∷ words → (more : List ℕ) × (y ≡ body ++ more)
first_body body y x r word words same ends longer = elim (overlap body y x r same) [
  | inl o ↦ (o.0, o.1)
  | inr o ↦ absurd (shorter o.0 o.1 o.2)
]
  where
    fewer : (xs : List (List ℕ)) → texts body ≡ texts y ++ xs → ⊥
    fewer xs is = absurd (omega (
      arith,
      ap (length {A = List ℕ}) longer,
      ap (length {A = List ℕ}) is,
      length-append (texts body) (word ∷ words),
      length-append (texts y) xs,
    ))

    shorter : (m : List ℕ) → body ≡ y ++ m → r ≡ m ++ x → ⊥
    shorter [] is rest = fewer [] (ap texts (is ∙ append-nil y) ∙ sym (append-nil (texts y)))
    shorter (b ∷ m) is rest =
        fewer (texts (b ∷ m)) (ap texts is ∙ both_parts y (b ∷ m) (ap is_end (sym rest) ∙ ends))

-- ---- the copy

module _ {limit : ℕ} {rules : CopyRules} {seen : List Piece → Type 0} {written : List ℕ → Type 0} {m : Parser}
    {held bytes : List ℕ} {len : ℕ} (h : HasCopied limit rules seen written m held len bytes)
    (complete : has_complete_words bytes ≡ true) (after : List ℕ) where
  -- what comes after the whole pieces
  abbrev coming : List ℕ
  coming = (h.space ++ (h.body ++ h.gap)) ++ after

  -- what is written of an item that stands
  abbrev of_open : Bool → List ℕ
  of_open stands = cond stands (rules.before_others h.pieces ++ (h.space ++ h.body)) []

  abbrev so_far : List ℕ
  so_far = copied_pieces rules [] h.pieces ++ of_open (stands_open m.item)

  whole : bytes ++ after ≡ piece_bytes h.pieces ++ coming
  whole = ap (λ l. l ++ after) h.whole
      ∙ append_assoc (piece_bytes h.pieces) (h.space ++ (h.body ++ h.gap)) after

  -- the copy of the pieces that come goes on with the item that is open and stands
  goes_on : (r : Piece) (rs : List Piece) (tail : List ℕ) → IsCut coming (r ∷ rs) tail
      → AllowsAll (state_of_pieces limit h.pieces) (piece_items (r ∷ rs)) → stands_open m.item ≡ true
      → (v : WordOnLine) (vs : List WordOnLine) → h.begun ≡ v ∷ vs → is_end (h.gap ++ after) ≡ true
      → (more : List ℕ) × (copied_pieces rules h.pieces (r ∷ rs) ≡ of_open true ++ more)
  unfolding copied_pieces
  goes_on r rs tail cut allowed stands v vs is ends =
      let gone : List ℕ = h.gap ++ after in
      let rest : List ℕ = piece_bytes rs ++ tail in
      let own : texts h.body ≡ word_texts h.begun = sym (texts_are h.body) ∙ h.opened.spelled in
      let turned : coming ≡ h.space ++ (h.body ++ gone) = append_assoc h.space (h.body ++ h.gap) after
      ∙ ap (λ l. h.space ++ l) (append_assoc h.body h.gap after) in
      let split : coming ≡ r.space ++ (r.body ++ rest) = cut.whole
      ∙ append_assoc (r.space ++ r.body) (piece_bytes rs) tail ∙ append_assoc r.space r.body rest in
      let words : word_texts h.begun ++ texts gone ≡ spelling r.item ++ spellings (piece_items rs) =
      ap (λ ws. ws ++ texts gone) (sym own) ∙ sym (both_parts h.body gone ends)
      ∙ sym (space_first h.space (h.body ++ gone) h.opened.white) ∙ ap texts (sym turned ∙ cut.whole)
      ∙ bytes_spell tail cut.end (r ∷ rs) cut.apart cut.spaces cut.spelled in
      let spelled : SpellsItem r = All-head SpellsItem r rs cut.spelled in
      let (word, more, longer) = has_more_words h.asked m (state_of_pieces limit h.pieces) h.begun h.at.0 h.at.1 stands
      r.item allowed.0.0 (texts gone) (spellings (piece_items rs)) words in
      let space = same_space h.space r.space (h.body ++ gone) (r.body ++ rest) h.opened.white
      (All-head SpaceIsWhite r rs cut.spaces)
      (begins h.body gone v.text (word_texts vs) (own ∙ ap word_texts is) h.opened.tight.0)
      (body_begins r rest spelled (All-head IsTight r rs cut.tight)) (sym turned ∙ split) in
      let body = first_body h.body r.body gone rest word more space.1
      (pieces_end rs tail (All-tail SpaceIsWhite r rs cut.spaces) cut.apart (white_ends tail cut.end))
      (sym (texts_are r.body) ∙ spelled ∙ longer ∙ ap (λ ws. ws ++ word ∷ more) (sym own)) in
      let kept = item_stands h.asked m (state_of_pieces limit h.pieces) h.begun h.at.0 h.at.1 stands r.item
      allowed.0.0 (word ∷ more) longer in
      let later : List ℕ = copied_pieces rules (h.pieces ++ r ∷ []) rs in (
        body.0 ++ later,
        ap (λ b. cond b (rules.in_place h.pieces r) (rules.before_others h.pieces ++ (r.space ++ r.body)) ++ later) kept
            ∙ ap₂ (λ x y. (rules.before_others h.pieces ++ (x ++ y)) ++ later) (sym space.0) body.1
            ∙ moved (rules.before_others h.pieces) h.space h.body body.0 later,
      )
    where
      moved : (a b c d e : List ℕ) → (a ++ (b ++ (c ++ d))) ++ e ≡ (a ++ (b ++ c)) ++ (d ++ e)
      moved a b c d e = grind (arith, append_assoc)

  -- the copy of the pieces that come begins with what is written of the open item
  rest_of_copy : (ps : List Piece) (tail : List ℕ) → IsCut coming ps tail
      → AllowsAll (state_of_pieces limit h.pieces) (piece_items ps) → (stands : Bool) → stands_open m.item ≡ stands
      → (more : List ℕ) × (copied_pieces rules h.pieces ps ≡ of_open stands ++ more)
  rest_of_copy ps tail cut allowed false stands = (copied_pieces rules h.pieces ps, refl)
  rest_of_copy ps tail cut allowed true stands = by_words h.begun refl ps cut allowed
    where
      nothing : h.begun ≡ [] → ⊥
      nothing none = false≢true (sym (ap stands_open (nothing_open m m.item (rw none at h.at.1))) ∙ stands)

      ends : is_end (h.gap ++ after) ≡ true
      ends = elim (h.gap_some complete) [
        | inl far ↦ space_ends h.gap after far h.gap_white
        | inr none ↦ absurd (nothing none.1)
      ]

      no_texts_come : (v : WordOnLine) (vs : List WordOnLine) → h.begun ≡ v ∷ vs → IsCut coming [] tail → ⊥
      no_texts_come v vs is none =
          let own : texts h.body ≡ v.text ∷ word_texts vs =
          sym (texts_are h.body) ∙ h.opened.spelled ∙ ap word_texts is in
          let words : (v.text ∷ word_texts vs) ++ texts (h.gap ++ after) ≡ [] =
          ap (λ ws. ws ++ texts (h.gap ++ after)) (sym own) ∙ sym (both_parts h.body (h.gap ++ after) ends)
          ∙ sym (space_first h.space (h.body ++ (h.gap ++ after)) h.opened.white)
          ∙ ap texts (sym (append_assoc h.space (h.body ++ h.gap) after
          ∙ ap (λ l. h.space ++ l) (append_assoc h.body h.gap after)) ∙ none.whole)
          ∙ bytes_spell tail none.end [] none.apart none.spaces none.spelled in
          absurd (cc)

      by_words : (ws : List WordOnLine) → h.begun ≡ ws → (qs : List Piece) → IsCut coming qs tail
          → AllowsAll (state_of_pieces limit h.pieces) (piece_items qs)
          → (more : List ℕ) × (copied_pieces rules h.pieces qs ≡ of_open true ++ more)
      by_words [] none qs cut allowed = absurd (nothing none)
      by_words (v ∷ vs) is [] cut allowed = absurd (no_texts_come v vs is cut)
      by_words (v ∷ vs) is (r ∷ rs) cut allowed = goes_on r rs tail cut allowed stands v vs is ends

  -- what was written so far begins the copy
  pub begun_copy : (s : ParseState) → Accepts limit (words_of (bytes ++ after)) s
      → (rest : List ℕ) × IsCopy limit rules (bytes ++ after) (so_far ++ rest)
  begun_copy s a =
      let words : word_texts (words_of (bytes ++ after)) ≡ spellings (piece_items h.pieces) ++ texts coming =
      texts_are (bytes ++ after) ∙ ap texts whole ∙ begins_with h.pieces coming h.cut (next_ends h after complete) in
      let (items, split, spelled, allowed) = first_items (initial_state limit) (piece_items h.pieces) a.items
      (texts coming) (sym words ∙ a.spelled) h.allowed a.allowed in
      let (all, tail, cut, items_are) = file_is_cut (bytes ++ after) a.items a.spelled in
      let two = in_two (λ (p : Piece). p.item) all (piece_items h.pieces) items (items_are ∙ split) in
      let both = first_pieces h.pieces two.front two.back coming tail
      (sym whole ∙ cut.whole ∙ ap (λ ps. piece_bytes ps ++ tail) two.whole) (sym two.front_is) h.cut (bytes ++ after)
      (subst (λ ps. IsCut (bytes ++ after) ps tail) two.whole cut) (next_ends h after complete) in
      let (more, goes) = rest_of_copy two.back tail both.1
      (subst (AllowsAll (state_of_pieces limit h.pieces)) (sym two.back_is) allowed) (stands_open m.item) refl in
      let parts : all ≡ h.pieces ++ two.back = two.whole ∙ ap (λ ps. ps ++ two.back) (sym both.0) in
      let state : state_after (initial_state limit) (piece_items all) ≡ s =
      ap (state_after (initial_state limit)) items_are ∙ a.state_is in (
        more ++ rules.at_end all tail,
        record {
          pieces = all;
          tail = tail;
          cut = cut;
          allowed = subst (AllowsAll (initial_state limit)) (sym items_are) a.allowed;
          in_body = ap (λ (s : ParseState). s.in_body) state ∙ a.definitions_ended;
          is = joined (copied_pieces rules [] h.pieces) (of_open (stands_open m.item)) more (rules.at_end all tail)
              ∙ ap (λ l. l ++ rules.at_end all tail) (sym (ap (copied_pieces rules []) parts
              ∙ copied_more rules [] h.pieces two.back ∙ ap (λ l. copied_pieces rules [] h.pieces ++ l) goes));
        },
      )
    where
      joined : (a b c d : List ℕ) → (a ++ b) ++ (c ++ d) ≡ (a ++ (b ++ c)) ++ d
      joined a b c d = grind (arith, append_assoc)

-- the output took the beginning of the copy of the file that goes on in any way
pub begun_file : {W : Type 0} {sink : sinks.Ghosts W} {limit : ℕ} {rules : CopyRules} {seen : List Piece → Type 0}
    {start now : Output W} {m : Parser} {held bytes : List ℕ} {len : ℕ}
    → HasCopied limit rules seen (Emits sink start now) m held len bytes → has_complete_words bytes ≡ true
    → (after : List ℕ) → TookBeginning sink limit rules start now (bytes ++ after)
begun_file h complete after = record {
  text = so_far h complete after;
  emits = h.writes;
  begins = λ s accepted. begun_copy h complete after s accepted;
}

-- and so did one that took all of it
pub whole_begins : {W : Type 0} {sink : sinks.Ghosts W} {limit : ℕ} {rules : CopyRules} {start now : Output W}
    {bytes : List ℕ} → TookCopy sink limit rules start now bytes → TookBeginning sink limit rules start now bytes
whole_begins {limit = limit} {rules = rules} {bytes = bytes} took = record {
  text = took.text;
  emits = took.emits;
  begins = λ s accepted. ([], subst (IsCopy limit rules bytes) (sym (append-nil took.text)) took.is_copy);
}
