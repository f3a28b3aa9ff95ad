-- Every file whose words spell items is cut into the pieces of these items.
use Rattle.std.proofs.Common.{◌≡◌, ◌+◌, ◌<◌, ◌∙◌, ◌==◌, ℕ, true, false, not, All, drop, length, List, [], ◌∷◌, ◌++◌}
use Rattle.std.proofs.Common.{refl, ap, ap₂, sym, arith, map, append_assoc, inl, inr, subst, reverse, cond}
use Rattle.std.specs.List.{list_all, flat_map, prefix_len, suffix_len}
use Rattle.std.proofs.lemmas.Bool.{and_parts, and_from, cases_Bool, not_from_false, not-true, ne_eqb, false≢true}
use Rattle.std.proofs.lemmas.List.{append-nil, length-append, reverse-append, length-reverse}
use Rattle.std.proofs.lemmas.List.Elements.{All-nil, All-cons, All-head, All-tail, All-drop}
use Rattle.std.proofs.lemmas.Grind.{flat_map-append}
use Rattle.std.proofs.lemmas.List.Folds.{prefix_len-append}
use Rattle.vcd_core.specs.Word.{is_white_space}
use Rattle.vcd_text.specs.Words.{words_of}
use Rattle.vcd_text.specs.Items.{Item, entry, timescale, scope, upscope, variable, end_definitions, stamp, scalar}
use Rattle.vcd_text.specs.Items.{vector, real_or_string, dump_word, other, spelling, spellings}
use Rattle.vcd_text.specs.inside.Words.{words_from}
use Rattle.vcd_text.specs.Grammar.{word_texts}
use Rattle.vcd_copy.specs.Pieces.{Piece}
use Rattle.vcd_copy.specs.CutLaws.{EveryFileIsCut}
use Rattle.vcd_text.proofs.read_back.Words.{is_unbroken}
use Rattle.vcd_copy.proofs.pieces.Bytes.{texts, texts_are, is_end, space_first, both_parts, joined_words}

-- both parts of a list have what all have
pub all_parts : {A : Type 0} (P : A → Type 0) (xs ys : List A) → All P (xs ++ ys) → All P xs × All P ys
all_parts P [] ys all = (All-nil P, all)
all_parts P (x ∷ xs) ys all =
    let rest = all_parts P xs ys (All-tail P x (xs ++ ys) all) in
    (All-cons P x xs (All-head P x (xs ++ ys) all) rest.0, rest.1)

-- ---- words with white space before them

pub record Spaced : Type 0 where
  pub space : List ℕ
  pub word : List ℕ

abbrev pub bytes_of : List Spaced → List ℕ
bytes_of ws = flat_map (λ w. w.space ++ w.word) ws

abbrev pub HasSpace : Spaced → Type 0
HasSpace w = list_all is_white_space w.space ≡ true

abbrev pub HasWord : Spaced → Type 0
HasWord w = is_unbroken w.word ≡ true

abbrev pub IsApart : Spaced → Type 0
IsApart w = 0 < length w.space

pub record AreSpaced (bytes : List ℕ) : Type 0 where
  pub words : List Spaced
  pub tail : List ℕ
  pub whole : bytes ≡ bytes_of words ++ tail
  pub spaces : All HasSpace words
  pub unbroken : All HasWord words
  pub apart : All IsApart (drop 1 words)
  pub end : list_all is_white_space tail ≡ true

-- white space in front
space_more : (b : ℕ) (bs : List ℕ) (ws : List Spaced) (tail : List ℕ) → is_white_space b ≡ true
    → bs ≡ bytes_of ws ++ tail → All HasSpace ws → All HasWord ws → All IsApart (drop 1 ws)
    → list_all is_white_space tail ≡ true → AreSpaced (b ∷ bs)
space_more b bs [] tail space whole spaces unbroken apart end = record {
  words = [];
  tail = b ∷ tail;
  whole = ap (λ l. b ∷ l) whole;
  spaces = spaces;
  unbroken = unbroken;
  apart = apart;
  end = and_from _ _ space end;
}
space_more b bs (w ∷ ws) tail space whole spaces unbroken apart end = record {
  words = record { space = b ∷ w.space; word = w.word } ∷ ws;
  tail = tail;
  whole = ap (λ l. b ∷ l) whole;
  spaces = All-cons HasSpace _ ws (and_from _ _ space (All-head HasSpace w ws spaces)) (All-tail HasSpace w ws spaces);
  unbroken = All-cons HasWord _ ws (All-head HasWord w ws unbroken) (All-tail HasWord w ws unbroken);
  apart = apart;
  end = end;
}

-- another byte in front
longer_word : (b : ℕ) (bs : List ℕ) → is_white_space b ≡ false → is_unbroken bs ≡ true → is_unbroken (b ∷ bs) ≡ true
longer_word b (c ∷ bs) none unbroken = and_from _ _ (not_from_false _ none) unbroken
longer_word b [] none unbroken = and_from _ true (not_from_false _ none) refl

byte_more : (b : ℕ) (bs : List ℕ) (ws : List Spaced) (tail : List ℕ) → is_white_space b ≡ false
    → bs ≡ bytes_of ws ++ tail → All HasSpace ws → All HasWord ws → All IsApart (drop 1 ws)
    → list_all is_white_space tail ≡ true → AreSpaced (b ∷ bs)
byte_more b bs [] tail none whole spaces unbroken apart end = record {
  words = record { space = []; word = b ∷ [] } ∷ [];
  tail = tail;
  whole = ap (λ l. b ∷ l) whole;
  spaces = All-cons HasSpace _ [] refl (All-nil HasSpace);
  unbroken = All-cons HasWord _ [] (and_from _ true (not_from_false _ none) refl) (All-nil HasWord);
  apart = All-nil IsApart;
  end = end;
}
byte_more b bs (w ∷ ws) tail none whole spaces unbroken apart end = by_space w.space w.word refl whole
    (All-head HasSpace w
    ws spaces) (All-head HasWord w ws unbroken)
  where
    by_space : (space word : List ℕ) → w.space ≡ space → bs ≡ ((space ++ word) ++ bytes_of ws) ++ tail
        → list_all is_white_space space ≡ true → is_unbroken word ≡ true → AreSpaced (b ∷ bs)
    by_space [] word is whole here it = record {
      words = record { space = []; word = b ∷ word } ∷ ws;
      tail = tail;
      whole = ap (λ l. b ∷ l) whole;
      spaces = All-cons HasSpace _ ws refl (All-tail HasSpace w ws spaces);
      unbroken = All-cons HasWord _ ws (longer_word b word none it) (All-tail HasWord w ws unbroken);
      apart = apart;
      end = end;
    }
    by_space (c ∷ cs) word is whole here it = record {
      words = record { space = []; word = b ∷ [] } ∷ record { space = c ∷ cs; word = word } ∷ ws;
      tail = tail;
      whole = ap (λ l. b ∷ l) whole;
      spaces = All-cons HasSpace _ (record { space = c ∷ cs; word = word } ∷ ws) refl (All-cons HasSpace _ ws here
          (All-tail
          HasSpace w ws spaces));
      unbroken = All-cons HasWord _ (record { space = c ∷ cs; word = word } ∷ ws) (and_from _ true
          (not_from_false _ none)
          refl) (All-cons HasWord _ ws it (All-tail HasWord w ws unbroken));
      apart = All-cons IsApart _ ws (omega arith) apart;
      end = end;
    }

pub spaced : (bytes : List ℕ) → AreSpaced bytes
spaced [] = record {
  words = [];
  tail = [];
  whole = refl;
  spaces = All-nil HasSpace;
  unbroken = All-nil HasWord;
  apart = All-nil IsApart;
  end = refl;
}
spaced (b ∷ bs) =
    let r = spaced bs in
    elim (cases_Bool (is_white_space b)) [
      | inl space ↦ space_more b bs r.words r.tail space r.whole r.spaces r.unbroken r.apart r.end
      | inr none ↦ byte_more b bs r.words r.tail none r.whole r.spaces r.unbroken r.apart r.end
    ]

-- ---- their words

pub white_ends : (tail : List ℕ) → list_all is_white_space tail ≡ true → is_end tail ≡ true
white_ends [] space = refl
white_ends (b ∷ bs) space = (and_parts (is_white_space b) (list_all is_white_space bs) space).0

rest_ends : (ws : List Spaced) (tail : List ℕ) → All HasSpace ws → All IsApart ws → list_all is_white_space tail ≡ true
    → is_end (bytes_of ws ++ tail) ≡ true
rest_ends [] tail spaces apart end = white_ends tail end
rest_ends (w ∷ ws) tail spaces apart end = by_space w.space (All-head HasSpace w ws spaces)
    (All-head IsApart w ws apart)
  where
    by_space : (space : List ℕ) → list_all is_white_space space ≡ true → 0 < length space
        → is_end (((space ++ w.word) ++ bytes_of ws) ++ tail) ≡ true
    by_space [] here some = absurd (omega arith)
    by_space (b ∷ bs) here some = (and_parts (is_white_space b) (list_all is_white_space bs) here).0

pub words_are : (ws : List Spaced) (tail : List ℕ) → All HasSpace ws → All HasWord ws → All IsApart (drop 1 ws)
    → list_all is_white_space tail ≡ true → texts (bytes_of ws ++ tail) ≡ map (λ w. w.word) ws
unfolding words_from
words_are [] tail spaces unbroken apart end = ap texts (sym (append-nil tail)) ∙ space_first tail [] end
words_are (w ∷ ws) tail spaces unbroken apart end =
    let rest : List ℕ = bytes_of ws ++ tail in
    let ends = rest_ends ws tail (All-tail HasSpace w ws spaces) apart end in
    ap texts (append_assoc (w.space ++ w.word) (bytes_of ws) tail ∙ append_assoc w.space w.word rest)
    ∙ space_first w.space
    (w.word ++ rest) (All-head HasSpace w ws spaces) ∙ both_parts w.word rest ends ∙ ap₂ (λ x y. x ++ y) (joined_words
    (w.word ∷ []) (and_from _ true (All-head HasWord w ws unbroken) refl)) (words_are ws tail (All-tail HasSpace w ws
    spaces) (All-tail HasWord w ws unbroken) (later ws apart) end)
  where
    later : (ws : List Spaced) → All IsApart ws → All IsApart (drop 1 ws)
    later [] apart = apart
    later (w ∷ ws) apart = All-tail IsApart w ws apart

-- ---- both ends of a body

pub record EndsInWord (bytes : List ℕ) : Type 0 where
  pub some : 0 < length bytes
  pub ends : suffix_len is_white_space bytes ≡ 0

pub ends_after : (xs ys : List ℕ) → EndsInWord ys → EndsInWord (xs ++ ys)
ends_after xs ys ends =
    let none : prefix_len is_white_space (reverse ys) ≡ 0 = ends.ends in
    let more : (prefix_len is_white_space (reverse ys) == length (reverse ys)) ≡ false = ne_eqb
    (prefix_len is_white_space
    (reverse ys)) (length (reverse ys)) (λ same. absurd (omega (arith, none, same, length-reverse ys, ends.some))) in
    record {
      some = omega (arith, length-append xs ys, ends.some);
      ends = ap (prefix_len is_white_space) (reverse-append xs ys) ∙ prefix_len-append is_white_space (reverse ys)
          (reverse
          xs) ∙ ap (λ b. cond b (length (reverse ys) + prefix_len is_white_space (reverse xs))
          (prefix_len is_white_space
          (reverse ys))) more ∙ none;
    }

pub word_ends : (w : List ℕ) → is_unbroken w ≡ true → EndsInWord w
word_ends [] unbroken = absurd (false≢true unbroken)
word_ends (b ∷ []) unbroken =
    let none : is_white_space b ≡ false = not-true (is_white_space b) (and_parts (not
    (is_white_space b)) true unbroken).0
    in
    record { some = omega arith; ends = rw none refl }
word_ends (b ∷ c ∷ bs) unbroken = ends_after (b ∷ []) (c ∷ bs) (word_ends (c ∷ bs) (and_parts (not (is_white_space b))
    (list_all (λ b. not (is_white_space b)) (c ∷ bs)) unbroken).1)

words_end : (w : List ℕ) (ws : List Spaced) → is_unbroken w ≡ true → All HasWord ws → EndsInWord (w ++ bytes_of ws)
words_end w [] unbroken all = subst EndsInWord (sym (append-nil w)) (word_ends w unbroken)
words_end w (v ∷ ws) unbroken all = ends_after w ((v.space ++ v.word) ++ bytes_of ws) (subst EndsInWord (sym
    (append_assoc
    v.space v.word (bytes_of ws))) (ends_after v.space (v.word ++ bytes_of ws) (words_end v.word ws
    (All-head HasWord v ws
    all) (All-tail HasWord v ws all))))

pub begins_in_word : (w rest : List ℕ) → is_unbroken w ≡ true → prefix_len is_white_space (w ++ rest) ≡ 0
begins_in_word [] rest unbroken = absurd (false≢true unbroken)
begins_in_word (b ∷ bs) rest unbroken =
    rw (not-true (is_white_space b) (and_parts (not (is_white_space b)) (list_all (λ b. not (is_white_space b)) bs)
    unbroken).0) refl

-- ---- the words of items

-- an item has a word
pub spelling_some : (i : Item) → (x : List ℕ) × (xs : List (List ℕ)) × (spelling i ≡ x ∷ xs)
spelling_some (entry kind words) = (_, _, refl)
spelling_some (timescale words) = (_, _, refl)
spelling_some (scope kind words) = (_, _, refl)
spelling_some upscope = (_, _, refl)
spelling_some (variable words) = (_, _, refl)
spelling_some end_definitions = (_, _, refl)
spelling_some (stamp digits) = (_, _, refl)
spelling_some (scalar digit code) = (_, _, refl)
spelling_some (vector first digits code) = (_, _, refl)
spelling_some (real_or_string first text code) = (_, _, refl)
spelling_some (dump_word word) = (_, _, refl)
spelling_some (other word words) = (_, _, refl)

-- a list in two parts, by what a function gives of each
pub record InTwo {A B : Type 0} (f : A → B) (ws : List A) (xs ys : List B) : Type 0 where
  pub front : List A
  pub back : List A
  pub whole : ws ≡ front ++ back
  pub front_is : map f front ≡ xs
  pub back_is : map f back ≡ ys

pub in_two : {A B : Type 0} (f : A → B) (ws : List A) (xs ys : List B) → map f ws ≡ xs ++ ys → InTwo f ws xs ys
in_two f ws [] ys is = record { front = []; back = ws; whole = refl; front_is = refl; back_is = is }
in_two {B = B} f [] (x ∷ xs) ys is = let never : ◌≡◌ {A = List B} [] (x ∷ (xs ++ ys)) = is in absurd (cc)
in_two f (w ∷ ws) (x ∷ xs) ys is =
    let first : f w ≡ x = cc in
    let more : map f ws ≡ xs ++ ys = cc in
    let rest = in_two f ws xs ys more in
    record {
      front = w ∷ rest.front;
      back = rest.back;
      whole = ap (λ l. w ∷ l) rest.whole;
      front_is = ap₂ (λ y ys. y ∷ ys) first rest.front_is;
      back_is = rest.back_is;
    }

-- ---- pieces

abbrev pub SpellsItem : Piece → Type 0
SpellsItem p = word_texts (words_of p.body) ≡ spelling p.item

abbrev pub IsTight : Piece → Type 0
IsTight p = (prefix_len is_white_space p.body ≡ 0) × (suffix_len is_white_space p.body ≡ 0)

abbrev pub SpaceIsWhite : Piece → Type 0
SpaceIsWhite p = list_all is_white_space p.space ≡ true

abbrev pub HasSomeSpace : Piece → Type 0
HasSomeSpace p = 0 < length p.space

-- the pieces of these items have these words
record ArePieces (items : List Item) (ws : List Spaced) : Type 0 where
  pieces : List Piece
  whole : bytes_of ws ≡ flat_map (λ p. p.space ++ p.body) pieces
  items_are : map (λ p. p.item) pieces ≡ items
  spelled : All SpellsItem pieces
  tight : All IsTight pieces
  spaces : All SpaceIsWhite pieces
  apart : All HasSomeSpace (drop 1 pieces)
  all_apart : All IsApart ws → All HasSomeSpace pieces

-- the piece of an item with these words, before other pieces
one_piece : (i : Item) (is : List Item) (u : Spaced) (us vs : List Spaced) → map (λ w. w.word) (u ∷ us) ≡ spelling i
    → HasSpace u → HasWord u → All HasSpace us → All HasWord us → All IsApart us → All IsApart vs → ArePieces is vs
    → ArePieces (i ∷ is) ((u ∷ us) ++ vs)
one_piece i is u us vs words space word spaces unbroken apart later rest =
    let body : List ℕ = u.word ++ bytes_of us in
    let p : Piece = record { item = i; space = u.space; body = body } in
    let own : texts body ≡ spelling i = ap texts (sym (append-nil (u.word ++ bytes_of us))) ∙ words_are (record {
      space =
          [];
      word = u.word;
    } ∷ us) [] (All-cons HasSpace _ us refl spaces) (All-cons HasWord _ us word unbroken) apart refl
    ∙ words in
    record {
      pieces = p ∷ rest.pieces;
      whole = flat_map-append (λ (w : Spaced). w.space ++ w.word) (u ∷ us) vs
          ∙ ap₂ (λ x y. x ++ y) (append_assoc u.space
          u.word (bytes_of us)) rest.whole;
      items_are = ap (λ l. i ∷ l) rest.items_are;
      spelled = All-cons SpellsItem p rest.pieces (texts_are body ∙ own) rest.spelled;
      tight = All-cons IsTight p rest.pieces (
        begins_in_word u.word (bytes_of us) word,
        (words_end u.word us word
            unbroken).ends,
      ) rest.tight;
      spaces = All-cons SpaceIsWhite p rest.pieces space rest.spaces;
      apart = rest.all_apart later;
      all_apart = λ all. All-cons HasSomeSpace p rest.pieces (All-head IsApart u (us ++ vs) all) (rest.all_apart later);
    }

-- the same, by the words of the item
from_front : (i : Item) (is : List Item) (front back : List Spaced) → map (λ w. w.word) front ≡ spelling i
    → All HasSpace (front ++ back) → All HasWord (front ++ back) → All IsApart (drop 1 (front ++ back))
    → (All HasSpace back → All HasWord back → All IsApart (drop 1 back) → ArePieces is back)
    → ArePieces (i ∷ is) (front ++ back)
from_front i is [] back words spaces unbroken apart rest =
    let some = spelling_some i in
    let never : ◌≡◌ {A = List (List ℕ)} [] (some.0 ∷ some.1) = words ∙ some.2 in absurd (cc)
from_front i is (u ∷ us) back words spaces unbroken apart rest =
    let space = all_parts HasSpace us back (All-tail HasSpace u (us ++ back) spaces) in
    let word = all_parts HasWord us back (All-tail HasWord u (us ++ back) unbroken) in
    let far = all_parts IsApart us back apart in
    one_piece i is u us back words (All-head HasSpace u (us ++ back) spaces) (All-head HasWord u (us ++ back) unbroken)
    space.0 word.0 far.0 far.1 (rest space.1 word.1 (All-drop IsApart 1 back far.1))

cut_items : (items : List Item) (ws : List Spaced) → map (λ w. w.word) ws ≡ spellings items → All HasSpace ws
    → All HasWord ws → All IsApart (drop 1 ws) → ArePieces items ws
cut_items [] [] words spaces unbroken apart = record {
  pieces = [];
  whole = refl;
  items_are = refl;
  spelled = All-nil SpellsItem;
  tight = All-nil IsTight;
  spaces = All-nil SpaceIsWhite;
  apart = All-nil HasSomeSpace;
  all_apart = λ all. All-nil HasSomeSpace;
}
cut_items [] (w ∷ ws) words spaces unbroken apart = absurd (cc)
cut_items (i ∷ is) ws words spaces unbroken apart =
    let two = in_two (λ (w : Spaced). w.word) ws (spelling i) (spellings is) words in
    subst (ArePieces (i ∷ is)) (sym two.whole) (from_front i is two.front two.back two.front_is (subst (All HasSpace)
    two.whole spaces) (subst (All HasWord) two.whole unbroken) (subst (λ l. All IsApart (drop 1 l)) two.whole apart)
    (λ a b
    c. cut_items is two.back two.back_is a b c))

pub file_is_cut : EveryFileIsCut
file_is_cut file items spelled =
    let r = spaced file in
    let words : map (λ w. w.word) r.words ≡ spellings items = sym (words_are r.words r.tail r.spaces r.unbroken r.apart
    r.end) ∙ ap texts (sym r.whole) ∙ sym (texts_are file) ∙ spelled in
    let cut = cut_items items r.words words r.spaces r.unbroken r.apart in (
      cut.pieces,
      r.tail,
      record {
        whole = r.whole ∙ ap (λ l. l ++ r.tail) cut.whole;
        spelled = cut.spelled;
        tight = cut.tight;
        spaces = cut.spaces;
        apart = cut.apart;
        end = r.end;
      },
      cut.items_are,
    )
