-- Bytes, pieces and an open item with one more word.
use Rattle.std.proofs.Common.{◌≡◌, ◌∙◌, ◌⊎◌, inl, inr, ℕ, ◌<◌, Bool, true, false, not, cond, List, [], ◌∷◌}
use Rattle.std.proofs.Common.{◌++◌}
use Rattle.std.proofs.Common.{length, drop, refl, sym, ap, ap₂, subst, arith, append_assoc}
use Rattle.std.specs.Prelude.{IsTrue}
use Rattle.std.specs.List.{All, list_all, prefix_len, suffix_len}
use Rattle.std.proofs.lemmas.List.{append-nil, length-append, map-append}
use Rattle.std.proofs.lemmas.List.Elements.{All-nil, All-cons, All-head, All-tail}
use Rattle.std.proofs.lemmas.List.Folds.{list_all-append}
use Rattle.std.proofs.lemmas.Grind.{flat_map-append}
use Rattle.std.proofs.lemmas.Bool.{and_parts, and_from, not-true, false≢true}
use Rattle.vcd_core.specs.Word.{is_white_space}
use Rattle.vcd_text.specs.Words.{WordOnLine, words_of}
use Rattle.vcd_text.specs.Grammar.{initial_state, state_after, state_after_item, AllowsAll, Allows, word_texts}
use Rattle.vcd_copy.specs.Pieces.{state_of_pieces, Piece, IsCut}
use Rattle.vcd_copy.specs.Copied.{piece_items}
use Rattle.vcd_text.specs.inside.Words.{has_complete_words, words_from}
use Rattle.vcd_copy.specs.inside.Copying.{IsOpenItem}
use Rattle.vcd_copy.specs.Pieces.{piece_bytes}
use Rattle.vcd_text.proofs.read_back.Words.{is_unbroken}
use Rattle.vcd_copy.proofs.pieces.Bytes.{texts, texts_are, is_end, space_first, both_parts, joined_words}
use Rattle.vcd_copy.proofs.pieces.Cuts.{word_ends, ends_after, begins_in_word}
use Rattle.vcd_copy.proofs.pieces.Cuts.{SpellsItem, IsTight, SpaceIsWhite, HasSomeSpace}
use Rattle.vcd_text.proofs.shared.ItemsInTurn.{reaches_both, reaches_one}

-- ---- bytes

pub unbroken : (text : List ℕ) → 0 < length text → list_all (λ b. not (is_white_space b)) text ≡ true
    → is_unbroken text ≡ true
unbroken [] some none = absurd (omega arith)
unbroken (b ∷ bs) some none = none

word_text : (text : List ℕ) → is_unbroken text ≡ true → texts text ≡ text ∷ []
word_text text whole = joined_words (text ∷ []) (and_from (is_unbroken text) true whole refl)

pub space_ends : (space rest : List ℕ) → 0 < length space → list_all is_white_space space ≡ true
    → is_end (space ++ rest) ≡ true
space_ends [] rest some white = absurd (omega arith)
space_ends (b ∷ bs) rest some white = (and_parts (is_white_space b) (list_all is_white_space bs) white).0

-- one more word after white space
pub texts_grow : (body space text : List ℕ) → 0 < length space → list_all is_white_space space ≡ true
    → is_unbroken text ≡ true → texts (body ++ (space ++ text)) ≡ texts body ++ text ∷ []
texts_grow body space text some white whole =
    both_parts body (space ++ text) (space_ends space text some white) ∙ ap (λ ws. texts body ++ ws) (space_first space
    text white ∙ word_text text whole)

-- a text that ends in a word
pub not_complete : (xs text : List ℕ) → is_unbroken text ≡ true → has_complete_words (xs ++ text) ≡ true → ⊥
not_complete [] [] whole complete = false≢true whole
not_complete [] (b ∷ []) whole complete = false≢true (sym (not-true (is_white_space b) (and_parts (not
    (is_white_space b))
    true whole).0) ∙ complete)
not_complete [] (b ∷ c ∷ bs) whole complete = not_complete [] (c ∷ bs) (and_parts (not (is_white_space b)) (list_all
    (λ b.
    not (is_white_space b)) (c ∷ bs)) whole).1 complete
not_complete (x ∷ []) [] whole complete = false≢true whole
not_complete (x ∷ []) (b ∷ bs) whole complete = not_complete [] (b ∷ bs) whole complete
not_complete (x ∷ y ∷ xs) text whole complete = not_complete (y ∷ xs) text whole complete

begins_still : (body rest : List ℕ) → 0 < length body → prefix_len is_white_space body ≡ 0
    → prefix_len is_white_space (body ++ rest) ≡ 0
begins_still [] rest some none = absurd (omega arith)
begins_still (b ∷ bs) rest some none = go (is_white_space b) refl
  where
    go : (t : Bool) → is_white_space b ≡ t → prefix_len is_white_space ((b ∷ bs) ++ rest) ≡ 0
    go true is = let long = none in absurd (grind arith)
    go false is = rw is refl

pub no_texts : texts [] ≡ []
unfolding words_from
no_texts = refl

pub shuffled : (a b c d e : List ℕ) → (a ++ (b ++ c)) ++ (d ++ e) ≡ a ++ (b ++ ((c ++ d) ++ e))
shuffled a b c d e = grind (arith, append_assoc)

-- what was written and what is held are the whole open item
pub both_held : (stands : Bool) (a b c d : List ℕ) → cond stands (a ++ b) [] ++ (cond stands c (a ++ (b ++ c)) ++ d)
    ≡ (a ++ (b ++ c)) ++ d
both_held true a b c d = grind (arith, append_assoc)
both_held false a b c d = refl

-- the first words of an item that stands come after what comes before it
pub with_words_more : (stands : Bool) (copied first so_far held own : List ℕ) → cond stands so_far [] ++ held ≡ own
    → (copied ++ cond stands (first ++ so_far) []) ++ (cond stands [] first ++ held) ≡ copied ++ (first ++ own)
with_words_more true copied first so_far held own is = rw (← is) (grind (arith, append_assoc))
with_words_more false copied first so_far held own is = ap₂ (λ a b. a ++ (first ++ b)) (append-nil copied) is

-- an item is copied whole
pub with_place : (stands : Bool) (copied first so_far held own place : List ℕ) → cond stands so_far [] ++ held ≡ own
    → (stands ≡ true → place ≡ first ++ own)
    → (copied ++ cond stands (first ++ so_far) []) ++ cond stands held place ≡ copied ++ place
with_place true copied first so_far held own place is whole =
    rw (whole refl, ← is) (grind (arith, append_assoc))
with_place false copied first so_far held own place is whole = ap (λ l. l ++ place) (append-nil copied)

-- ---- pieces

all_more : {A : Type 0} (P : A → Type 0) (xs : List A) (y : A) → All P xs → P y → All P (xs ++ y ∷ [])
all_more P [] y all here = All-cons P y [] here (All-nil P)
all_more P (x ∷ xs) y all here = All-cons P x (xs ++ y ∷ []) (All-head P x xs all) (all_more P xs y
    (All-tail P x xs all)
    here)

apart_more : (ps : List Piece) (p : Piece) → All HasSomeSpace (drop 1 ps) → (0 < length ps → HasSomeSpace p)
    → All HasSomeSpace (drop 1 (ps ++ p ∷ []))
apart_more [] p all here = All-nil HasSomeSpace
apart_more (q ∷ ps) p all here = all_more HasSomeSpace ps p all (here (omega arith))

-- one more piece
pub cut_more : (ps : List Piece) (p : Piece) → IsCut (piece_bytes ps) ps [] → SpellsItem p → IsTight p → SpaceIsWhite p
    → (0 < length ps → HasSomeSpace p) → IsCut (piece_bytes (ps ++ p ∷ [])) (ps ++ p ∷ []) []
cut_more ps p cut spelled tight white apart = record {
  whole = sym (append-nil (piece_bytes (ps ++ p ∷ [])));
  spelled = all_more SpellsItem ps p cut.spelled spelled;
  tight = all_more IsTight ps p cut.tight tight;
  spaces = all_more SpaceIsWhite ps p cut.spaces white;
  apart = apart_more ps p cut.apart apart;
  end = refl;
}

pub bytes_more : (ps : List Piece) (p : Piece) → piece_bytes (ps ++ p ∷ []) ≡ piece_bytes ps ++ (p.space ++ p.body)
bytes_more ps p = flat_map-append (λ (p : Piece). p.space ++ p.body) ps (p ∷ []) ∙ ap (λ l. piece_bytes ps ++ l)
    (append-nil (p.space ++ p.body))

pub reaches_more : (limit : ℕ) (ps : List Piece) (p : Piece) → AllowsAll (initial_state limit) (piece_items ps)
    → Allows (state_of_pieces limit ps) p.item
    → AllowsAll (initial_state limit) (piece_items (ps ++ p ∷ []))
    × (state_of_pieces limit (ps ++ p ∷ []) ≡ state_after_item (state_of_pieces limit ps) p.item)
reaches_more limit ps p all here =
    let r = reaches_both (initial_state limit) (state_of_pieces limit ps) (state_after_item
    (state_of_pieces limit ps)
    p.item) (piece_items ps) (p.item ∷ []) (record { allowed = all; state_is = refl })
    (reaches_one _ _ p.item here refl) in
    let same : piece_items (ps ++ p ∷ []) ≡ piece_items ps ++ p.item ∷ [] = map-append (λ (p : Piece). p.item) ps
    (p ∷ []) in (
      subst (AllowsAll (initial_state limit)) (sym same) r.allowed,
      ap (state_after (initial_state limit)) same ∙ r.state_is,
    )

-- ---- the open item with one more word

module _ (pieces : List Piece) (space body gap bytes : List ℕ) (begun : List WordOnLine) (w : WordOnLine)
    (opened : IsOpenItem pieces space body (word_texts begun)) (gap_white : IsTrue (list_all is_white_space gap))
    (whole : is_unbroken w.text ≡ true) (more : List ℕ) (is : bytes ≡ more ++ w.text)
    (white : IsTrue (list_all is_white_space more))
    (apart : (0 < length (gap ++ more)) ⊎ ((pieces ≡ []) × (begun ≡ []))) where
  all_white : list_all is_white_space (gap ++ more) ≡ true
  all_white = list_all-append is_white_space gap more ∙ and_from (list_all is_white_space gap)
      (list_all is_white_space more)
      gap_white white

  some_apart : 0 < length pieces → 0 < length (gap ++ more)
  some_apart some = elim apart [
    | inl far ↦ far
    | inr none ↦ absurd (omega (arith, some, ap (length {A = Piece}) none.0))
  ]

  -- it begins an item
  pub begins : begun ≡ [] → IsOpenItem pieces (gap ++ more) w.text (word_texts (begun ++ w ∷ []))
  begins none = record {
    spelled = texts_are w.text ∙ word_text w.text whole ∙ sym (ap (λ ws. word_texts (ws ++ w ∷ [])) none);
    tight = (
      ap (prefix_len is_white_space) (sym (append-nil w.text)) ∙ begins_in_word w.text [] whole,
      (word_ends w.text
          whole).ends,
    );
    white = all_white;
    apart = λ some. some_apart;
    none = λ empty. absurd (let long = ap (length {A = List ℕ}) (sym (map-append (λ w. w.text) begun (w ∷ []))
        ∙ empty) in
        omega (arith, long, length-append (word_texts begun) (w.text ∷ [])));
  }

  some_body : 0 < length (word_texts begun) → 0 < length body
  some_body some = go body refl
    where
      go : (bs : List ℕ) → body ≡ bs → 0 < length body
      go [] none =
          let empty : [] ≡ word_texts begun = sym no_texts ∙ sym (texts_are [])
          ∙ ap (λ l. word_texts (words_of l)) (sym none)
          ∙ opened.spelled in
          absurd (omega (arith, some, ap (length {A = List ℕ}) empty))
      go (b ∷ bs) is = rw is (omega arith)

  far : 0 < length (word_texts begun) → 0 < length (gap ++ more)
  far some = elim apart [
    | inl here ↦ here
    | inr none ↦ absurd (omega (arith, some, ap (λ (ws : List WordOnLine). length (word_texts ws)) none.1))
  ]

  -- it goes on with one
  pub goes_further : 0 < length (word_texts begun)
      → IsOpenItem pieces space (body ++ ((gap ++ more) ++ w.text)) (word_texts (begun ++ w ∷ []))
  goes_further some = record {
    spelled = texts_are _ ∙ texts_grow body (gap ++ more) w.text (far some) all_white whole
        ∙ ap (λ ws. ws ++ w.text ∷ [])
        (sym (texts_are body) ∙ opened.spelled) ∙ sym (map-append (λ w. w.text) begun (w ∷ []));
    tight = (
      begins_still body ((gap ++ more) ++ w.text) (some_body some) opened.tight.0,
      ap (suffix_len is_white_space) (sym (append_assoc body (gap ++ more) w.text))
          ∙ (ends_after (body ++ (gap ++ more))
          w.text (word_ends w.text whole)).ends,
    );
    white = opened.white;
    apart = λ more_texts. opened.apart some;
    none = λ empty. absurd (let long = ap (length {A = List ℕ}) (sym (map-append (λ w. w.text) begun (w ∷ []))
        ∙ empty) in
        omega (arith, long, length-append (word_texts begun) (w.text ∷ [])));
  }
