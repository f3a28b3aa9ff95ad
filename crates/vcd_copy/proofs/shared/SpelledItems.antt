-- The bytes of pieces spell their items, and of two lists of items that are allowed the words are those of one.
use Rattle.std.proofs.Common.{◌≡◌, ◌∙◌, ◌<◌, ℕ, true, List, [], ◌∷◌, ◌++◌, length, drop, All, refl, sym, ap}
use Rattle.std.proofs.Common.{arith, append_assoc, ap₂}
use Rattle.std.specs.List.{list_all}
use Rattle.std.proofs.lemmas.Bool.{and_parts}
use Rattle.std.proofs.lemmas.List.Elements.{All-head, All-tail, All-drop}
use Rattle.vcd_core.specs.Word.{is_white_space}
use Rattle.vcd_text.specs.Words.{words_of}
use Rattle.vcd_text.specs.Items.{Item, spelling, spellings}
use Rattle.vcd_text.specs.Grammar.{ParseState, AllowsAll, state_after, state_after_item, word_texts}
use Rattle.vcd_copy.specs.Pieces.{Piece, IsCut, piece_bytes}
use Rattle.vcd_copy.specs.Copied.{piece_items}
use Rattle.vcd_copy.proofs.pieces.Bytes.{texts, texts_are, is_end, space_first, both_parts, lines_last}
use Rattle.vcd_copy.proofs.pieces.Cuts.{SpellsItem, SpaceIsWhite, HasSomeSpace, spelling_some}
use Rattle.vcd_text.proofs.shared.FirstItem.{one_item, one_rest}

-- ---- a file that is cut into pieces spells their items

module _ (tail : List ℕ) (white : list_all is_white_space tail ≡ true) where
  space_comes : (space rest : List ℕ) → 0 < length space → list_all is_white_space space ≡ true
      → is_end (space ++ rest) ≡ true
  space_comes [] rest some all = absurd (omega arith)
  space_comes (b ∷ bs) rest some all = (and_parts (is_white_space b) (list_all is_white_space bs) all).0

  split : (p : Piece) (ps : List Piece)
      → piece_bytes (p ∷ ps) ++ tail ≡ p.space ++ (p.body ++ (piece_bytes ps ++ tail))
  split p ps = append_assoc (p.space ++ p.body) (piece_bytes ps) tail
      ∙ append_assoc p.space p.body (piece_bytes ps ++ tail)

  bytes_end : (ps : List Piece) → All HasSomeSpace ps → All SpaceIsWhite ps → is_end (piece_bytes ps ++ tail) ≡ true
  bytes_end [] some spaces = (lines_last [] tail refl white).1
  bytes_end (p ∷ ps) some spaces = ap is_end (split p ps) ∙ space_comes p.space (p.body ++ (piece_bytes ps ++ tail))
      (All-head HasSomeSpace p ps some) (All-head SpaceIsWhite p ps spaces)

  pub bytes_spell : (ps : List Piece) → All HasSomeSpace (drop 1 ps) → All SpaceIsWhite ps → All SpellsItem ps
      → texts (piece_bytes ps ++ tail) ≡ spellings (piece_items ps)
  bytes_spell [] some spaces bodies = (lines_last [] tail refl white).0
  bytes_spell (p ∷ ps) some spaces bodies =
      let rest = bytes_spell ps (All-drop HasSomeSpace 1 ps some) (All-tail SpaceIsWhite p ps spaces)
      (All-tail SpellsItem p ps bodies) in
      ap texts (split p ps)
      ∙ space_first p.space (p.body ++ (piece_bytes ps ++ tail)) (All-head SpaceIsWhite p ps spaces)
      ∙ both_parts p.body (piece_bytes ps ++ tail) (bytes_end ps some (All-tail SpaceIsWhite p ps spaces))
      ∙ ap₂ (λ x y. x ++ y) (sym (texts_are p.body) ∙ All-head SpellsItem p ps bodies) rest

pub cut_spells_items : (file : List ℕ) (pieces : List Piece) (tail : List ℕ) → IsCut file pieces tail
    → word_texts (words_of file) ≡ spellings (piece_items pieces)
cut_spells_items file pieces tail cut =
    ap (λ (bytes : List ℕ). word_texts (words_of bytes)) cut.whole ∙ texts_are (piece_bytes pieces ++ tail)
    ∙ bytes_spell tail cut.end pieces cut.apart cut.spaces cut.spelled

-- ---- and of two lists that are allowed the words are those of one

pub same_items : (c : ParseState) (is js : List Item) → spellings is ≡ spellings js → AllowsAll c is → AllowsAll c js
    → is ≡ js
same_items c [] [] same a b = refl
same_items c [] (j ∷ js) same a b =
    let some = spelling_some j in
    let never : ◌≡◌ {A = List (List ℕ)} [] ((some.0 ∷ some.1) ++ spellings js) =
    same ∙ ap (λ ws. ws ++ spellings js) some.2 in absurd (cc)
same_items c (i ∷ is) [] same a b =
    let some = spelling_some i in
    let never : ◌≡◌ {A = List (List ℕ)} [] ((some.0 ∷ some.1) ++ spellings is) =
    sym same ∙ ap (λ ws. ws ++ spellings is) some.2 in absurd (cc)
same_items c (i ∷ is) (j ∷ js) same a b =
    let one : i ≡ j = one_item c i j (spellings is) (spellings js) a.0.0 b.0.0 same in
    ap₂ (λ x xs. x ∷ xs) one (same_items (state_after_item c i) is js (one_rest i j _ _ one same) a.1 (rw one b.1))

-- items whose words are the first of those of others
pub first_items : (c : ParseState) (is js : List Item) (later : List (List ℕ)) → spellings is ++ later ≡ spellings js
    → AllowsAll c is → AllowsAll c js
    → (rest : List Item) × (js ≡ is ++ rest) × (later ≡ spellings rest) × AllowsAll (state_after c is) rest
first_items c [] js later same a b = (js, refl, same, b)
first_items c (i ∷ is) [] later same a b =
    let some = spelling_some i in
    let never : ◌≡◌ {A = List (List ℕ)} (((some.0 ∷ some.1) ++ spellings is) ++ later) [] =
    ap (λ ws. (ws ++ spellings is) ++ later) (sym some.2) ∙ same in
    absurd (cc)
first_items c (i ∷ is) (j ∷ js) later same a b =
    let all : spelling i ++ (spellings is ++ later) ≡ spelling j ++ spellings js =
    sym (append_assoc (spelling i) (spellings is) later) ∙ same in
    let one : i ≡ j = one_item c i j _ _ a.0.0 b.0.0 all in
    let (rest, split, words, allowed) = first_items (state_after_item c i) is js later (one_rest i j _ _ one all) a.1
    (rw one b.1) in
    (rest, ap (λ x. x ∷ js) (sym one) ∙ ap (λ l. i ∷ l) split, words, allowed)
