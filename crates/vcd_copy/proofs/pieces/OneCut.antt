-- A file is cut into the pieces of items in one way.
use Rattle.std.proofs.Common.{◌≡◌, ◌⊎◌, ◌+◌, ◌<◌, ◌∙◌, ℕ, true, false, All, drop, length, List, [], ◌∷◌, ◌++◌, refl, ap}
use Rattle.std.proofs.Common.{ap₂, sym, arith, map, append_assoc, inl, inr, subst}
use Rattle.std.specs.List.{list_all, flat_map, prefix_len, suffix_len}
use Rattle.std.proofs.lemmas.Bool.{and_parts, cases_Bool, false≢true}
use Rattle.std.proofs.lemmas.List.{append-nil, reverse-append}
use Rattle.std.proofs.lemmas.List.Elements.{All-head, All-tail}
use Rattle.vcd_core.specs.Word.{is_white_space}
use Rattle.vcd_text.specs.Items.{spelling}
use Rattle.vcd_copy.specs.Pieces.{Piece}
use Rattle.vcd_copy.specs.CutLaws.{CutIsUnique}
use Rattle.vcd_copy.proofs.pieces.Bytes.{texts, texts_are, is_end, both_parts}
use Rattle.vcd_copy.proofs.pieces.Cuts.{Spaced, spaced, words_are, SpellsItem, IsTight, SpaceIsWhite, HasSomeSpace}
use Rattle.vcd_copy.proofs.pieces.Cuts.{spelling_some, white_ends}
use Rattle.vcd_text.specs.inside.Words.{words_from}

-- bytes that do not begin with white space
abbrev BeginsInWord : List ℕ → Type 0
BeginsInWord [] = ⊥
BeginsInWord (b ∷ bs) = is_white_space b ≡ false

-- ---- white space in front

pub same_space : (s t x y : List ℕ) → list_all is_white_space s ≡ true → list_all is_white_space t ≡ true
    → BeginsInWord x → BeginsInWord y → s ++ x ≡ t ++ y → (s ≡ t) × (x ≡ y)
same_space [] [] x y s_white t_white x_word y_word same = (refl, same)
same_space [] (c ∷ t) [] y s_white t_white x_word y_word same = absurd x_word
same_space [] (c ∷ t) (b ∷ x) y s_white t_white x_word y_word same =
    let head : b ≡ c = cc in
    absurd (false≢true (sym x_word ∙ ap is_white_space head ∙ (and_parts (is_white_space c) (list_all is_white_space t)
    t_white).0))
same_space (b ∷ s) [] x [] s_white t_white x_word y_word same = absurd y_word
same_space (b ∷ s) [] x (c ∷ y) s_white t_white x_word y_word same =
    let head : b ≡ c = cc in
    absurd (false≢true (sym y_word ∙ ap is_white_space (sym head) ∙ (and_parts (is_white_space b)
    (list_all is_white_space
    s) s_white).0))
same_space (b ∷ s) (c ∷ t) x y s_white t_white x_word y_word same =
    let head : b ≡ c = cc in
    let tail : s ++ x ≡ t ++ y = cc in
    let rest = same_space s t x y (and_parts (is_white_space b) (list_all is_white_space s) s_white).1 (and_parts
    (is_white_space c) (list_all is_white_space t) t_white).1 x_word y_word tail in
    (ap₂ (λ z zs. z ∷ zs) head rest.0, rest.1)

-- ---- one body

-- one of two prefixes goes on with what the other leaves
pub overlap : {A : Type 0} (x y r q : List A) → x ++ r ≡ y ++ q → ((m : List A) × (y ≡ x ++ m) × (r ≡ m ++ q))
    ⊎ ((m : List A) × (x ≡ y ++ m) × (q ≡ m ++ r))
overlap [] y r q same = inl (y, refl, same)
overlap (b ∷ x) [] r q same = inr (b ∷ x, refl, sym same)
overlap (b ∷ x) (c ∷ y) r q same =
    let head : b ≡ c = cc in
    let tail : x ++ r ≡ y ++ q = cc in
    elim (overlap x y r q tail) [
      | inl o ↦ inl (o.0, ap₂ (λ z zs. z ∷ zs) (sym head) o.1, o.2)
      | inr o ↦ inr (o.0, ap₂ (λ z zs. z ∷ zs) head o.1, o.2)
    ]

-- white space at the end shows there
white_at_end : (xs m : List ℕ) → 0 < length m → list_all is_white_space m ≡ true
    → 0 < suffix_len is_white_space (xs ++ m)
white_at_end xs [] some white = absurd (omega arith)
white_at_end xs (b ∷ []) some white =
    let here : is_white_space b ≡ true = (and_parts (is_white_space b) true white).0 in
    rw (reverse-append xs (b ∷ []), here) (omega arith)
white_at_end xs (b ∷ c ∷ bs) some white = subst (λ l. 0 < suffix_len is_white_space l) (append_assoc xs (b ∷ []) (c ∷
    bs)) (white_at_end (xs ++ b ∷ []) (c ∷ bs) (omega arith) (and_parts (is_white_space b) (list_all is_white_space (c ∷
    bs)) white).1)

-- bytes without a word are white space
no_word : (m : List ℕ) → texts m ≡ [] → list_all is_white_space m ≡ true
no_word m none =
    let r = spaced m in
    let words : map (λ w. w.word) r.words ≡ [] = sym (words_are r.words r.tail r.spaces r.unbroken r.apart r.end) ∙ ap
    texts (sym r.whole) ∙ none in
    by_words r.words r.tail r.whole words r.end
  where
    by_words : (ws : List Spaced) (tail : List ℕ) → m ≡ flat_map (λ w. w.space ++ w.word) ws ++ tail
        → map (λ w. w.word) ws ≡ [] → list_all is_white_space tail ≡ true → list_all is_white_space m ≡ true
    by_words [] tail whole words end = ap (list_all is_white_space) whole ∙ end
    by_words (w ∷ ws) tail whole words end = absurd (cc)

cancel : (xs ys : List (List ℕ)) → xs ++ ys ≡ xs → ys ≡ []
cancel [] ys same = same
cancel (x ∷ xs) ys same = let tail : xs ++ ys ≡ xs = cc in cancel xs ys tail

-- what goes on with a body is empty, if it has no word more, and ends in a word
nothing_more : (x y m r q : List ℕ) → y ≡ x ++ m → r ≡ m ++ q → texts x ≡ texts y → is_end r ≡ true
    → suffix_len is_white_space y ≡ 0 → m ≡ []
nothing_more x y [] r q y_is r_is same ends tight = refl
nothing_more x y (b ∷ m) r q y_is r_is same ends tight =
    let at_space : is_end (b ∷ m) ≡ true = ap is_end (sym r_is) ∙ ends in
    let none : texts (b ∷ m) ≡ [] = cancel (texts x) (texts (b ∷ m)) (sym (both_parts x (b ∷ m) at_space)
    ∙ ap texts (sym
    y_is) ∙ sym same) in
    let seen = white_at_end x (b ∷ m) (omega arith) (no_word (b ∷ m) none) in
    absurd (omega (arith, seen, ap (suffix_len is_white_space) y_is, tight))

same_body : (x y r q : List ℕ) → x ++ r ≡ y ++ q → texts x ≡ texts y → is_end r ≡ true → is_end q ≡ true
    → suffix_len is_white_space x ≡ 0 → suffix_len is_white_space y ≡ 0 → (x ≡ y) × (r ≡ q)
same_body x y r q same words r_ends q_ends x_tight y_tight = elim (overlap x y r q same) [
  | inl o ↦
      let none = nothing_more x y o.0 r q o.1 o.2 words r_ends y_tight in
      (sym (o.1 ∙ ap (λ m. x ++ m) none ∙ append-nil x), o.2 ∙ ap (λ m. m ++ q) none)
  | inr o ↦
      let none = nothing_more y x o.0 q r o.1 o.2 (sym words) q_ends x_tight in
      (o.1 ∙ ap (λ m. y ++ m) none ∙ append-nil y, sym (o.2 ∙ ap (λ m. m ++ r) none))
]

-- ---- all pieces

abbrev piece_bytes : List Piece → List ℕ
piece_bytes ps = flat_map (λ p. p.space ++ p.body) ps

pub pieces_end : (ps : List Piece) (tail : List ℕ) → All SpaceIsWhite ps → All HasSomeSpace ps
    → is_end tail ≡ true → is_end (piece_bytes ps ++ tail) ≡ true
pieces_end [] tail spaces apart end = end
pieces_end (p ∷ ps) tail spaces apart end = by_space p.space (All-head SpaceIsWhite p ps spaces)
    (All-head HasSomeSpace p ps
    apart)
  where
    by_space : (space : List ℕ) → list_all is_white_space space ≡ true → 0 < length space
        → is_end (((space ++ p.body) ++ piece_bytes ps) ++ tail) ≡ true
    by_space [] here some = absurd (omega arith)
    by_space (b ∷ bs) here some = (and_parts (is_white_space b) (list_all is_white_space bs) here).0

-- a body with a word begins in it
pub begins : (body rest x : List ℕ) (xs : List (List ℕ)) → texts body ≡ x ∷ xs → prefix_len is_white_space body ≡ 0
    → BeginsInWord (body ++ rest)
unfolding words_from
begins [] rest x xs words tight = absurd (cc)
begins (b ∷ bs) rest x xs words tight = elim (cases_Bool (is_white_space b)) [
  | inl white ↦
      let more : 1 + prefix_len is_white_space bs ≡ 0 = rw white at tight in absurd (omega (arith, more))
  | inr none ↦ none
]

pub body_begins : (p : Piece) (rest : List ℕ) → SpellsItem p → IsTight p → BeginsInWord (p.body ++ rest)
body_begins p rest is tight =
    let some = spelling_some p.item in
    begins p.body rest some.0 some.1 (sym (texts_are p.body) ∙ is ∙ some.2) tight.0

pub later : (ps : List Piece) → All HasSomeSpace ps → All HasSomeSpace (drop 1 ps)
later [] apart = apart
later (p ∷ ps) apart = All-tail HasSomeSpace p ps apart

-- pieces of the same items, before bytes at an end of words
pub same_pieces : (ps qs : List Piece) (tail last : List ℕ) → piece_bytes ps ++ tail ≡ piece_bytes qs ++ last
    → map (λ p. p.item) ps ≡ map (λ p. p.item) qs → All SpellsItem ps → All SpellsItem qs → All IsTight ps
    → All IsTight qs → All SpaceIsWhite ps → All SpaceIsWhite qs → All HasSomeSpace (drop 1 ps)
    → All HasSomeSpace (drop 1 qs) → is_end tail ≡ true → is_end last ≡ true → (ps ≡ qs) × (tail ≡ last)
same_pieces [] [] tail last same items p_is q_is p_tight q_tight p_white q_white p_apart q_apart end finish =
    (refl, same)
same_pieces [] (q ∷ qs) tail last same items p_is q_is p_tight q_tight p_white q_white p_apart q_apart end finish =
    absurd (cc)
same_pieces (p ∷ ps) [] tail last same items p_is q_is p_tight q_tight p_white q_white p_apart q_apart end finish =
    absurd (cc)
same_pieces (p ∷ ps) (q ∷ qs) tail last same items p_is q_is p_tight q_tight p_white q_white p_apart q_apart end finish
    =
    let r : List ℕ = piece_bytes ps ++ tail in
    let t : List ℕ = piece_bytes qs ++ last in
    let item : p.item ≡ q.item = cc in
    let more : map (λ p. p.item) ps ≡ map (λ p. p.item) qs = cc in
    let is : SpellsItem p = All-head SpellsItem p ps p_is in
    let other_is : SpellsItem q = All-head SpellsItem q qs q_is in
    let tight : IsTight p = All-head IsTight p ps p_tight in
    let other_tight : IsTight q = All-head IsTight q qs q_tight in
    let turned : p.space ++ (p.body ++ r) ≡ q.space ++ (q.body ++ t) = sym (append_assoc p.space p.body r) ∙ sym
    (append_assoc (p.space ++ p.body) (piece_bytes ps) tail) ∙ same
    ∙ append_assoc (q.space ++ q.body) (piece_bytes qs) last
    ∙ append_assoc q.space q.body t in
    let space = same_space p.space q.space (p.body ++ r) (q.body ++ t) (All-head SpaceIsWhite p ps p_white) (All-head
    SpaceIsWhite q qs q_white) (body_begins p r is tight) (body_begins q t other_is other_tight) turned in
    let words : texts p.body ≡ texts q.body = sym (texts_are p.body) ∙ is ∙ ap spelling item ∙ sym other_is ∙ texts_are
    q.body in
    let body = same_body p.body q.body r t space.1 words (pieces_end ps tail
    (All-tail SpaceIsWhite p ps p_white) p_apart
    end) (pieces_end qs last (All-tail SpaceIsWhite q qs q_white) q_apart finish) tight.1 other_tight.1 in
    let rest = same_pieces ps qs tail last body.1 more (All-tail SpellsItem p ps p_is) (All-tail SpellsItem q qs q_is)
    (All-tail IsTight p ps p_tight) (All-tail IsTight q qs q_tight) (All-tail SpaceIsWhite p ps p_white) (All-tail
    SpaceIsWhite q qs q_white) (later ps p_apart) (later qs q_apart) end finish in
    (λ i. record { item = item i; space = space.0 i; body = body.0 i } ∷ rest.0 i, rest.1)

pub cut_is_unique : CutIsUnique
cut_is_unique file pieces again tail last cut other_cut items = same_pieces pieces again tail last (sym cut.whole ∙
    other_cut.whole) items cut.spelled other_cut.spelled cut.tight other_cut.tight cut.spaces other_cut.spaces cut.apart
    other_cut.apart (white_ends tail cut.end) (white_ends last other_cut.end)
