-- The pieces of an amended text, which are cut from it: their items are the amended items, so it means the amended
-- capture.
use Rattle.std.proofs.Common.{◌≡◌, ◌∙◌, ℕ, ◌+◌, ◌<◌, ◌==◌, Bool, true, false, All, List, [], ◌∷◌, ◌++◌, map}
use Rattle.std.proofs.Common.{length, refl}
use Rattle.std.proofs.Common.{sym, ap, ap₂, subst, arith, append_assoc, drop, inl, inr, reverse, cond, if◌then◌else◌}
use Rattle.std.specs.List.{flat_map, list_all, join_with_byte, prefix_len, suffix_len}
use Rattle.std.proofs.lemmas.Bool.{and_parts, cases_Bool, false≢true}
use Rattle.std.proofs.lemmas.List.{append-nil, map-append, reverse-append, length-reverse}
use Rattle.std.proofs.lemmas.List.Elements.{All-nil, All-cons, All-head, All-tail, All-append, All-weaker, All-drop}
use Rattle.std.proofs.lemmas.List.Folds.{prefix_len-append}
use Rattle.std.proofs.lemmas.Grind.{flat_map-append}
use Rattle.vcd_core.specs.Word.{is_white_space}
use Rattle.std.specs.Prelude.{count_by, IsTrue}
use Rattle.vcd_text.specs.Items.{Item, spelling, spellings}
use Rattle.vcd_text.specs.Grammar.{ParseState, AllowsAll, state_after_item, state_after, initial_state, is_skipped}
use Rattle.vcd_text.specs.Meaning.{FileMeans}
use Rattle.vcd_copy.proofs.shared.SpelledItems.{cut_spells_items}
use Rattle.vcd_text.specs.Text.{item_line}
use Rattle.vcd_text.proofs.read_back.Words.{is_unbroken, is_spelled}
use Rattle.vcd_copy.specs.Pieces.{Piece, IsCut, piece_bytes, state_of_pieces}
use Rattle.vcd_copy.proofs.pieces.Bytes.{texts, texts_are, joined_words}
use Rattle.vcd_copy.proofs.pieces.Cuts.{EndsInWord, ends_after, word_ends, begins_in_word, spelling_some, IsTight}
use Rattle.vcd_copy.proofs.shared.JoinedWords.{joined_tight}
use Rattle.vcd_amend.specs.Amendment.{Amendment}
use Rattle.vcd_amend.specs.AmendedItems.{ItemFate, stands, is_left_out, is_exchanged, item_fate, inserted_items}
use Rattle.vcd_amend.specs.AmendedItems.{items_due_at, still_none_yet, items_in_place, amended_items}
use Rattle.vcd_amend.specs.AmendedMeaning.{FitsFile, FitsAmendedCode, amended_meaning}
use Rattle.vcd_amend.specs.AmendedText.{with_words, next_word, exchanged_bytes, bytes_in_place, amended_text}
use Rattle.vcd_amend.specs.AmendedText.{AmendedTextMeansAmendedCapture}
use Rattle.vcd_amend.proofs.amended.Whole.{amended_is_meant}
use Rattle.vcd_amend.proofs.amended.Spelled.{IsSpelledFate, fate_spelled, IsAlone, left_out_alone, HasWord}
use Rattle.vcd_amend.proofs.amended.Spelled.{items_at_spelled, inserted_spelled}
use Rattle.vcd_amend.proofs.amended.Fitting.{fate_fits}
use Rattle.vcd_amend.proofs.shared.Lists.{each_of_both}
use Rattle.vcd_amend.proofs.amended.OtherWords.{starts, replaced_count, exchanged_are, exchanged_words, items_of}
use Rattle.vcd_amend.proofs.amended.OtherWords.{HasSpace, SpellsItem, HasSomeSpace, body_is_unbroken}

-- ==== both ends of bytes

abbrev Ends : List ℕ → Type 0
Ends bytes = suffix_len is_white_space bytes ≡ 0

-- ---- words in the place of others

rest_ends : (b : ℕ) (c : ℕ) (bs : List ℕ) → Ends (b ∷ c ∷ bs) → Ends (c ∷ bs)
rest_ends b c bs ends =
    let both = sym (prefix_len-append is_white_space (reverse (c ∷ bs)) (b ∷ [])) ∙ sym (ap (prefix_len is_white_space)
    (reverse-append (b ∷ []) (c ∷ bs))) ∙ ends in
    by_test (prefix_len is_white_space (reverse (c ∷ bs)) == length (reverse (c ∷ bs))) both
  where
    by_test : (all : Bool) → cond all (length (reverse (c ∷ bs)) + prefix_len is_white_space (b ∷ []))
        (prefix_len is_white_space (reverse (c ∷ bs))) ≡ 0 → prefix_len is_white_space (reverse (c ∷ bs)) ≡ 0
    by_test true is = absurd (omega (arith, is, length-reverse (c ∷ bs)))
    by_test false is = is

word_first : (w rest : List ℕ) → is_unbroken w ≡ true → Ends rest → EndsInWord (w ++ rest)
word_first w [] unbroken ends = subst EndsInWord (sym (append-nil w)) (word_ends w unbroken)
word_first w (b ∷ bs) unbroken ends = ends_after w (b ∷ bs) (record { some = omega arith; ends = ends })

-- after white space there are bytes
abbrev EndAgain : (in_word : Bool) → List ℕ → List ℕ → Type 0
EndAgain in_word bs made = (in_word ≡ false → 0 < length bs → 0 < length made) × Ends made

other_words_end : (in_word : Bool) (bs : List ℕ) (ws : List (List ℕ)) → length ws ≡ starts in_word bs
    → list_all is_unbroken ws ≡ true → Ends bs → EndAgain in_word bs (with_words in_word bs ws)
other_words_end in_word [] ws long unbroken ends = ((λ out some. some), refl)
other_words_end in_word (b ∷ bs) ws long unbroken ends = elim (cases_Bool (is_white_space b)) [
  | inl space ↦ rw space (after_space space bs (rw space at long) ends (λ is. other_words_end false bs ws is unbroken))
  | inr goes_on ↦ rw goes_on (by_place in_word ws (rw goes_on at long) unbroken (other_words_end true bs))
]
  where
    later : (bs : List ℕ) → Ends (b ∷ bs) → Ends bs
    later [] ends = refl
    later (c ∷ cs) ends = rest_ends b c cs ends

    after_space : is_white_space b ≡ true → (cs : List ℕ) → length ws ≡ starts false cs → Ends (b ∷ cs)
        → (length ws ≡ starts false cs → Ends cs → EndAgain false cs (with_words false cs ws))
        → EndAgain in_word (b ∷ cs) (b ∷ with_words false cs ws)
    after_space space [] long ends again =
        let never : 1 ≡ 0 = rw space at ends in absurd (omega (arith, never))
    after_space space (c ∷ cs) long ends again =
        let rest = again long (rest_ends b c cs ends) in (
          (λ out some. omega arith),
          (ends_after (b ∷ []) (with_words false (c ∷ cs) ws) (record {
            some = rest.0 refl (omega arith);
            ends = rest.1;
          })).ends,
        )

    by_place : (in_word : Bool) (ws : List (List ℕ)) → length ws ≡ (if in_word then starts true bs else 1 + starts true
        bs) → list_all is_unbroken ws ≡ true
        → ((ws : List (List ℕ)) → length ws ≡ starts true bs → list_all is_unbroken ws ≡ true → Ends bs
        → EndAgain true bs (with_words true bs ws))
        → EndAgain in_word (b ∷ bs) (if in_word then with_words true bs ws else next_word ws ++ with_words true bs
        (drop 1 ws))
    by_place true ws long unbroken again = (
      (λ out some. absurd (false≢true (sym out))),
      (again ws long unbroken
          (later bs ends)).1,
    )
    by_place false [] long unbroken again = absurd (omega (arith, long))
    by_place false (w ∷ ws) long unbroken again =
        let parts = and_parts (is_unbroken w) (list_all is_unbroken ws) unbroken in
        let both = word_first w (with_words true bs ws) parts.0 (again ws (omega (arith, long)) parts.1 (later bs
        ends)).1 in
        ((λ out some. both.some), both.ends)

other_words_begin : (bs : List ℕ) (ws : List (List ℕ)) → length ws ≡ starts false bs → list_all is_unbroken ws ≡ true
    → prefix_len is_white_space bs ≡ 0 → prefix_len is_white_space (with_words false bs ws) ≡ 0
other_words_begin [] ws long unbroken begins = refl
other_words_begin (b ∷ bs) ws long unbroken begins = elim (cases_Bool (is_white_space b)) [
  | inl space ↦ absurd (omega (arith, rw space at begins))
  | inr goes_on ↦ rw goes_on (by_words ws (rw goes_on at long) unbroken)
]
  where
    by_words : (ws : List (List ℕ)) → length ws ≡ 1 + starts true bs → list_all is_unbroken ws ≡ true
        → prefix_len is_white_space (next_word ws ++ with_words true bs (drop 1 ws)) ≡ 0
    by_words [] long unbroken = absurd (omega (arith, long))
    by_words (w ∷ ws) long unbroken = begins_in_word w (with_words true bs ws)
        (and_parts (is_unbroken w) (list_all is_unbroken ws) unbroken).0

-- ==== the pieces

-- a line of an item, and a piece after lines
abbrev pub line_piece : (space : List ℕ) → Item → Piece
line_piece space i = record { item = i; space = space; body = join_with_byte 32 (spelling i) }

abbrev pub after_line : Piece → Piece
after_line p = record p { space = 10 ∷ [] }

abbrev pub lines_before : List Item → Piece → List Piece
lines_before [] p = p ∷ []
lines_before (i ∷ is) p = line_piece p.space i ∷ lines_before is (after_line p)

-- another item in the place of a piece
abbrev pub other_piece : Piece → Item → Piece
other_piece p j = record { item = j; space = p.space; body = exchanged_bytes p j }

abbrev pub placed : ItemFate → List Item → Piece → List Piece
placed stands lines p = lines_before lines p
placed is_left_out lines p = []
placed (is_exchanged j) lines p = other_piece p j ∷ []

abbrev pub made : Amendment → (none_yet : Bool) → ParseState → List Piece → List Piece
made a none_yet s [] = map (line_piece (10 ∷ [])) (items_due_at a s s.tick)
made a none_yet s (p ∷ ps) = placed (item_fate a s p.item) (inserted_items a none_yet s p.item) p
    ++ made a (still_none_yet none_yet (item_fate a s p.item) p.item) (state_after_item s p.item) ps

-- ---- their bytes

line_bytes : (lines : List Item) (p : Piece) → piece_bytes (lines_before lines p)
    ≡ p.space ++ (flat_map item_line lines ++ p.body)
line_bytes [] p = append-nil (p.space ++ p.body)
line_bytes (i ∷ is) p =
    let words : List ℕ = join_with_byte 32 (spelling i) in
    let rest : List ℕ = flat_map item_line is ++ p.body in
    ap (λ l. (p.space ++ words) ++ l) (line_bytes is (after_line p)) ∙ append_assoc p.space words (10 ∷ rest)
    ∙ ap (λ l. p.space ++ l) (sym (append_assoc (words ++ 10 ∷ []) (flat_map item_line is) p.body
    ∙ append_assoc words (10 ∷ []) rest))

placed_bytes : (o : ItemFate) (lines : List Item) (p : Piece) → IsAlone o lines
    → piece_bytes (placed o lines p) ≡ bytes_in_place o (flat_map item_line lines) p
placed_bytes stands lines p alone = line_bytes lines p
placed_bytes is_left_out lines p alone = sym (ap (flat_map item_line) alone)
placed_bytes (is_exchanged j) lines p alone = append-nil (p.space ++ exchanged_bytes p j)
    ∙ sym (ap (λ l. p.space ++ (flat_map item_line l ++ exchanged_bytes p j)) alone)

last_bytes : (items : List Item) → piece_bytes (map (line_piece (10 ∷ [])) items)
    ≡ flat_map (λ i. 10 ∷ join_with_byte 32 (spelling i)) items
last_bytes [] = refl
last_bytes (i ∷ items) = ap (λ l. (10 ∷ join_with_byte 32 (spelling i)) ++ l) (last_bytes items)

made_bytes : (a : Amendment) (none_yet : Bool) (s : ParseState) (ps : List Piece) (tail : List ℕ)
    → amended_text a none_yet s ps tail ≡ piece_bytes (made a none_yet s ps) ++ tail
unfolding amended_text
made_bytes a none_yet s [] tail = ap (λ l. l ++ tail) (sym (last_bytes (items_due_at a s s.tick)))
made_bytes a none_yet s (p ∷ ps) tail =
    let o : ItemFate = item_fate a s p.item in
    let lines : List Item = inserted_items a none_yet s p.item in
    let rest : List Piece = made a (still_none_yet none_yet o p.item) (state_after_item s p.item) ps in
    ap₂ (λ x y. x ++ y) (sym (placed_bytes o lines p (left_out_alone a none_yet s p.item))) (made_bytes a
    (still_none_yet none_yet o p.item) (state_after_item s p.item) ps tail)
    ∙ sym (append_assoc (piece_bytes (placed o lines p)) (piece_bytes rest) tail)
    ∙ ap (λ l. l ++ tail) (sym (flat_map-append (λ (q : Piece). q.space ++ q.body) (placed o lines p) rest))

-- ---- what holds of each of them

module _ (P : Piece → Type 0) (line : (p : Piece) (i : Item) → is_spelled i ≡ true → P p → P (line_piece p.space i))
    (after : (p : Piece) → P p → P (after_line p))
    (other : (p : Piece) (j : Item) → is_spelled j ≡ true → P p → P (other_piece p j))
    (last : (i : Item) → is_spelled i ≡ true → P (line_piece (10 ∷ []) i)) where
  all_before : (lines : List Item) (p : Piece) → list_all is_spelled lines ≡ true → P p → All P (lines_before lines p)
  all_before [] p spelled is = All-cons P p [] is (All-nil P)
  all_before (i ∷ lines) p spelled is =
      let parts = and_parts (is_spelled i) (list_all is_spelled lines) spelled in
      All-cons P (line_piece p.space i) _ (line p i parts.0 is) (all_before lines (after_line p) parts.1 (after p is))

  all_placed : (o : ItemFate) (lines : List Item) (p : Piece) → list_all is_spelled lines ≡ true → IsSpelledFate o
      → P p → All P (placed o lines p)
  all_placed stands lines p spelled in_it is = all_before lines p spelled is
  all_placed is_left_out lines p spelled in_it is = All-nil P
  all_placed (is_exchanged j) lines p spelled in_it is = All-cons P (other_piece p j) [] (other p j in_it is)
      (All-nil P)

  all_last : (items : List Item) → list_all is_spelled items ≡ true → All P (map (line_piece (10 ∷ [])) items)
  all_last [] spelled = All-nil P
  all_last (i ∷ items) spelled =
      let parts = and_parts (is_spelled i) (list_all is_spelled items) spelled in
      All-cons P (line_piece (10 ∷ []) i) _ (last i parts.0) (all_last items parts.1)

  module _ (a : Amendment) (final : ParseState) (fit : FitsFile a final) where
    words : All HasWord a.codes
    words = All-weaker (FitsAmendedCode a final) HasWord (λ c fits. fits.word) a.codes fit.codes

    all_made : (none_yet : Bool) (s : ParseState) (ps : List Piece) → AllowsAll s (items_of ps) → All SpellsItem ps
        → All P ps → All P (made a none_yet s ps)
    all_made none_yet s [] allows bodies all = all_last (items_due_at a s s.tick) (items_at_spelled a s s.tick words)
    all_made none_yet s (p ∷ ps) allows bodies all = All-append P _ _ (all_placed (item_fate a s p.item) (inserted_items
        a none_yet s p.item) p (inserted_spelled a none_yet final s p.item allows.0 words fit.added) (fate_spelled a s
        p.item (body_is_unbroken p (All-head SpellsItem p ps bodies)) words (fate_fits a final fit)) (All-head P p ps
        all)) (all_made (still_none_yet none_yet (item_fate a s p.item) p.item) (state_after_item s p.item) ps allows.1
        (All-tail SpellsItem p ps bodies) (All-tail P p ps all))

-- ---- a cut

item_tight : (i : Item) → is_spelled i ≡ true → (prefix_len is_white_space (join_with_byte 32 (spelling i)) ≡ 0)
    × Ends (join_with_byte 32 (spelling i))
item_tight i spelled =
    let some = spelling_some i in
    joined_tight (spelling i) (subst (λ l. 0 < length l) (sym some.2) (omega arith)) spelled

line_spells : (space : List ℕ) (i : Item) → is_spelled i ≡ true → SpellsItem (line_piece space i)
line_spells space i spelled = texts_are (join_with_byte 32 (spelling i)) ∙ joined_words (spelling i) spelled

-- a tight body that spells its item
abbrev IsBody : Piece → Type 0
IsBody p = SpellsItem p × IsTight p

other_is_body : (p : Piece) (j : Item) → is_spelled j ≡ true → IsBody p → IsBody (other_piece p j)
other_is_body p j spelled (spells, tight) =
    let is : texts p.body ≡ spelling p.item = sym (texts_are p.body) ∙ spells in (
      texts_are (exchanged_bytes p j) ∙ exchanged_words p j is spelled,
      exchanged_are (λ bytes. (prefix_len is_white_space bytes ≡ 0) × Ends bytes) p j (item_tight j spelled) (λ same. (
        other_words_begin p.body (spelling j) (replaced_count p (spelling j) is same) spelled tight.0,
        (other_words_end false p.body (spelling j) (replaced_count p (spelling j) is same) spelled tight.1).1,
      )),
    )

module _ (a : Amendment) (final : ParseState) (fit : FitsFile a final) where
  bodies_made : (none_yet : Bool) (s : ParseState) (ps : List Piece) → AllowsAll s (items_of ps) → All SpellsItem ps
      → All IsBody ps → All IsBody (made a none_yet s ps)
  bodies_made = all_made IsBody (λ p i spelled is. (line_spells p.space i spelled, item_tight i spelled)) (λ p is. is)
      other_is_body (λ i spelled. (line_spells (10 ∷ []) i spelled, item_tight i spelled)) a final fit

  spaces_made : (none_yet : Bool) (s : ParseState) (ps : List Piece) → AllowsAll s (items_of ps) → All SpellsItem ps
      → All HasSpace ps → All HasSpace (made a none_yet s ps)
  spaces_made = all_made HasSpace (λ p i spelled is. is) (λ p is. refl) (λ p j spelled is. is) (λ i spelled. refl) a
      final fit

  some_before : (lines : List Item) (p : Piece) → list_all is_spelled lines ≡ true → HasSomeSpace p
      → All HasSomeSpace (lines_before lines p)
  some_before = all_before HasSomeSpace (λ p i spelled is. is) (λ p is. omega arith) (λ p j spelled is. is)
      (λ i spelled. omega arith)

  some_made : (none_yet : Bool) (s : ParseState) (ps : List Piece) → AllowsAll s (items_of ps) → All SpellsItem ps
      → All HasSomeSpace ps → All HasSomeSpace (made a none_yet s ps)
  some_made = all_made HasSomeSpace (λ p i spelled is. is) (λ p is. omega arith) (λ p j spelled is. is)
      (λ i spelled. omega arith) a final fit

  apart_made : (none_yet : Bool) (s : ParseState) (ps : List Piece) → AllowsAll s (items_of ps) → All SpellsItem ps
      → All HasSomeSpace (drop 1 ps) → All HasSomeSpace (drop 1 (made a none_yet s ps))
  apart_made none_yet s [] allows bodies some = All-drop HasSomeSpace 1 _ (some_made none_yet s [] allows bodies some)
  apart_made none_yet s (p ∷ ps) allows bodies some = by_fate (item_fate a s p.item) (inserted_items a none_yet s
      p.item) (inserted_spelled a none_yet final s p.item allows.0 (All-weaker (FitsAmendedCode a final) HasWord
      (λ c fits. fits.word) a.codes fit.codes) fit.added) _ (some_made (still_none_yet none_yet (item_fate a s p.item)
      p.item) (state_after_item s p.item) ps allows.1 (All-tail SpellsItem p ps bodies) some)
    where
      by_fate : (o : ItemFate) (lines : List Item) → list_all is_spelled lines ≡ true → (rest : List Piece)
          → All HasSomeSpace rest → All HasSomeSpace (drop 1 (placed o lines p ++ rest))
      by_fate stands [] spelled rest all = all
      by_fate stands (i ∷ lines) spelled rest all = All-append HasSomeSpace _ _ (some_before lines (after_line p)
          (and_parts (is_spelled i) (list_all is_spelled lines) spelled).1 (omega arith)) all
      by_fate is_left_out lines spelled rest all = All-drop HasSomeSpace 1 rest all
      by_fate (is_exchanged j) lines spelled rest all = all

  pub made_is_cut : (file : List ℕ) (s : ParseState) (ps : List Piece) (tail : List ℕ) → IsCut file ps tail
      → AllowsAll s (items_of ps) → IsCut (amended_text a true s ps tail) (made a true s ps) tail
  made_is_cut file s ps tail cut allows =
      let bodies = bodies_made true s ps allows cut.spelled (each_of_both SpellsItem IsTight IsBody (λ p spells tight.
      (spells, tight)) ps cut.spelled cut.tight) in
      record {
        whole = made_bytes a true s ps tail;
        spelled = All-weaker IsBody SpellsItem (λ p both. both.0) _ bodies;
        tight = All-weaker IsBody IsTight (λ p both. both.1) _ bodies;
        spaces = spaces_made true s ps allows cut.spelled cut.spaces;
        apart = apart_made true s ps allows cut.spelled cut.apart;
        end = cut.end;
      }

-- ==== the text means the amended capture

-- ---- the items

items_before : (lines : List Item) (p : Piece) → items_of (lines_before lines p) ≡ lines ++ p.item ∷ []
items_before [] p = refl
items_before (i ∷ lines) p = ap (λ l. i ∷ l) (items_before lines (after_line p))

items_placed : (o : ItemFate) (lines : List Item) (p : Piece) → IsAlone o lines
    → items_of (placed o lines p) ≡ lines ++ items_in_place o p.item
items_placed stands lines p alone = items_before lines p
items_placed is_left_out lines p alone = sym (ap (λ l. l ++ []) alone)
items_placed (is_exchanged j) lines p alone = sym (ap (λ l. l ++ j ∷ []) alone)

items_last : (items : List Item) → items_of (map (line_piece (10 ∷ [])) items) ≡ items
items_last [] = refl
items_last (i ∷ items) = ap (λ l. i ∷ l) (items_last items)

made_items : (a : Amendment) (none_yet : Bool) (s : ParseState) (ps : List Piece)
    → items_of (made a none_yet s ps) ≡ amended_items a none_yet s (items_of ps)
unfolding amended_items
made_items a none_yet s [] = items_last (items_due_at a s s.tick)
made_items a none_yet s (p ∷ ps) =
    let o : ItemFate = item_fate a s p.item in
    let lines : List Item = inserted_items a none_yet s p.item in
    map-append (λ (q : Piece). q.item) (placed o lines p) _ ∙ ap₂ (λ x y. x ++ y)
    (items_placed o lines p (left_out_alone a none_yet s p.item))
    (made_items a (still_none_yet none_yet o p.item) (state_after_item s p.item) ps)

-- ---- the law

pub text_of_pieces : (a : Amendment) (limit : ℕ) (file : List ℕ) (pieces : List Piece) (tail : List ℕ)
    → IsCut file pieces tail → AllowsAll (initial_state limit) (items_of pieces)
    → IsTrue (state_of_pieces limit pieces).in_body → FitsFile a (state_of_pieces limit pieces)
    → FileMeans limit (amended_text a true (initial_state limit) pieces tail)
    (amended_meaning a (state_of_pieces limit pieces)) (count_by is_skipped (state_of_pieces limit pieces).declared)
text_of_pieces a limit file pieces tail cut allows in_body fit =
    let means = amended_is_meant a limit (items_of pieces) allows in_body fit in
    let items : List Item = amended_items a true (initial_state limit) (items_of pieces) in
    record {
      state = state_after (initial_state limit) items;
      accepted = record {
        items = items;
        spelled = cut_spells_items (amended_text a true (initial_state limit) pieces tail) (made a true (initial_state
            limit) pieces) tail (made_is_cut a (state_of_pieces limit pieces) fit file (initial_state limit) pieces tail
            cut allows) ∙ ap spellings (made_items a true (initial_state limit) pieces);
        allowed = means.allowed;
        state_is = refl;
        definitions_ended = means.in_body;
      };
      means = sym means.means;
      left_out = sym means.left_out;
    }

pub amended_text_is_meant : AmendedTextMeansAmendedCapture
amended_text_is_meant a limit file pieces tail cut allows in_body fit =
    text_of_pieces a limit file pieces tail cut allows in_body fit
