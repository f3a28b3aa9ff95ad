-- What an amender was told of a file: the pieces with which it begins.
use Rattle.std.proofs.Common.{◌≡◌, ◌∙◌, inl, inr, ℕ, ◌<◌, Bool, true, false, List, [], ◌∷◌, ◌++◌, length, drop}
use Rattle.std.proofs.Common.{refl, sym, ap, ap₂, arith, append_assoc}
use Rattle.std.specs.List.{All}
use Rattle.std.proofs.lemmas.List.{append-nil}
use Rattle.std.proofs.lemmas.List.Elements.{All-nil, All-head, All-tail}
use Rattle.std.proofs.lemmas.Bool.{false≢true}
use Rattle.vcd_text.specs.Words.{WordOnLine}
use Rattle.vcd_text.specs.Items.{spellings}
use Rattle.vcd_text.specs.Grammar.{word_texts}
use Rattle.vcd_copy.specs.Pieces.{Piece, IsCut}
use Rattle.vcd_copy.specs.Copied.{CopyRules, IsCopy, IsTold, piece_items}
use Rattle.vcd_text.specs.inside.Words.{has_complete_words}
use Rattle.vcd_copy.specs.inside.Copying.{HasCopied}
use Rattle.vcd_copy.specs.Pieces.{piece_bytes}
use Rattle.vcd_text.specs.declared.reading.parser.Parser.{Parser}
use Rattle.vcd_copy.proofs.pieces.Bytes.{texts, texts_are, is_end, space_first, both_parts}
use Rattle.vcd_copy.proofs.pieces.Cuts.{SpellsItem, SpaceIsWhite, HasSomeSpace, white_ends}
use Rattle.vcd_copy.proofs.copying.pieces.OneWordMore.{no_texts, space_ends}
use Rattle.vcd_copy.proofs.copying.copier.WholeCopies.{whole_copy}
use Rattle.vcd_text.specs.inside.reading.Parser.{is_complete}

-- ---- the words of pieces

later_apart : (ps : List Piece) → All HasSomeSpace ps → All HasSomeSpace (drop 1 ps)
later_apart [] apart = All-nil HasSomeSpace
later_apart (p ∷ ps) apart = All-tail HasSomeSpace p ps apart

pieces_end : (ps : List Piece) → All SpaceIsWhite ps → All HasSomeSpace ps → is_end (piece_bytes ps) ≡ true
pieces_end [] white apart = refl
pieces_end (p ∷ ps) white apart =
    ap is_end (append_assoc p.space p.body (piece_bytes ps))
    ∙ space_ends p.space (p.body ++ piece_bytes ps) (All-head HasSomeSpace p ps apart)
    (All-head SpaceIsWhite p ps white)

words_of_pieces : (ps : List Piece) → All SpellsItem ps → All SpaceIsWhite ps → All HasSomeSpace (drop 1 ps)
    → texts (piece_bytes ps) ≡ spellings (piece_items ps)
words_of_pieces [] spelled white apart = no_texts
words_of_pieces (p ∷ ps) spelled white apart =
    let later = All-tail SpaceIsWhite p ps white in
    ap texts (append_assoc p.space p.body (piece_bytes ps))
    ∙ space_first p.space (p.body ++ piece_bytes ps) (All-head SpaceIsWhite p ps white)
    ∙ both_parts p.body (piece_bytes ps) (pieces_end ps later apart)
    ∙ ap₂ (λ x y. x ++ y) (sym (texts_are p.body) ∙ All-head SpellsItem p ps spelled)
    (words_of_pieces ps (All-tail SpellsItem p ps spelled) later (later_apart ps apart))

-- and of what comes after them
pub begins_with : (ps : List Piece) (more : List ℕ) → IsCut (piece_bytes ps) ps []
    → (0 < length ps → is_end more ≡ true) → texts (piece_bytes ps ++ more) ≡ spellings (piece_items ps) ++ texts more
begins_with [] more cut ends = refl
begins_with (p ∷ ps) more cut ends =
    both_parts (piece_bytes (p ∷ ps)) more (ends (omega arith))
    ∙ ap (λ ws. ws ++ texts more) (words_of_pieces (p ∷ ps) cut.spelled cut.spaces cut.apart)

-- ---- the file so far

pub next_ends : {limit : ℕ} {rules : CopyRules} {seen : List Piece → Type 0} {written : List ℕ → Type 0} {m : Parser}
    {held bytes : List ℕ} {len : ℕ} (h : HasCopied limit rules seen written m held len bytes) (after : List ℕ)
    → has_complete_words bytes ≡ true → 0 < length h.pieces
    → is_end ((h.space ++ (h.body ++ h.gap)) ++ after) ≡ true
next_ends h after complete some = go h.begun refl
  where
    go : (ws : List WordOnLine) → h.begun ≡ ws → is_end ((h.space ++ (h.body ++ h.gap)) ++ after) ≡ true
    go [] none =
        let empty = h.opened.none (ap word_texts none) in
        let bare : h.space ++ (h.body ++ h.gap) ≡ h.gap = ap₂ (λ x y. x ++ (y ++ h.gap)) empty.0 empty.1 in
        ap (λ l. is_end (l ++ after)) bare ∙ elim (h.gap_some complete) [
          | inl far ↦ space_ends h.gap after far h.gap_white
          | inr nothing ↦ absurd (omega (arith, some, ap (length {A = Piece}) nothing.0))
        ]
    go (v ∷ vs) is =
        ap is_end (append_assoc h.space (h.body ++ h.gap) after)
        ∙ space_ends h.space ((h.body ++ h.gap) ++ after) (h.opened.apart (rw is (omega arith)) some) h.opened.white

-- an amender that is done was told of the pieces so far
pub told_so_far : {limit : ℕ} {rules : CopyRules} {seen : List Piece → Type 0} {written : List ℕ → Type 0} {m : Parser}
    {held bytes : List ℕ} {len : ℕ} (told : List Piece → Type 0) (done : Bool)
    → HasCopied limit rules seen written m held len bytes → has_complete_words bytes ≡ true
    → ((ps : List Piece) → seen ps → told ps) → done ≡ true → (after : List ℕ)
    → IsTold limit done told (bytes ++ after)
told_so_far {bytes = bytes} told done c complete tells is after =
    let own : List ℕ = c.space ++ (c.body ++ c.gap) in
    let whole : bytes ++ after ≡ piece_bytes c.pieces ++ (own ++ after) = ap (λ l. l ++ after) c.whole
    ∙ append_assoc (piece_bytes c.pieces) own after in
    record {
      pieces = c.pieces;
      rest = own ++ after;
      later = texts (own ++ after);
      cut = c.cut;
      whole = whole;
      words = texts_are (bytes ++ after) ∙ ap texts whole
          ∙ begins_with c.pieces (own ++ after) c.cut (λ some. next_ends c after complete some);
      allowed = c.allowed;
      is_told = tells c.pieces c.seen;
      all = λ isnt. absurd (false≢true (sym isnt ∙ is));
    }

-- ---- the whole file

-- an amender was told of all pieces
copy_told : {limit : ℕ} {rules : CopyRules} {file text : List ℕ} (told : List Piece → Type 0)
    (copy : IsCopy limit rules file text) → told copy.pieces → IsTold limit false told file
copy_told {file = file} told copy is =
    let own : IsCut (piece_bytes copy.pieces) copy.pieces [] = record {
      whole = sym (append-nil (piece_bytes copy.pieces));
      spelled = copy.cut.spelled;
      tight = copy.cut.tight;
      spaces = copy.cut.spaces;
      apart = copy.cut.apart;
      end = refl;
    } in
    record {
      pieces = copy.pieces;
      rest = copy.tail;
      later = [];
      cut = own;
      whole = copy.cut.whole;
      words = texts_are file ∙ ap texts copy.cut.whole
          ∙ begins_with copy.pieces copy.tail own (λ some. white_ends copy.tail copy.cut.end)
          ∙ ap (λ ws. spellings (piece_items copy.pieces) ++ ws) (ap texts (sym (append-nil copy.tail))
          ∙ space_first copy.tail [] copy.cut.end ∙ no_texts);
      allowed = copy.allowed;
      is_told = is;
      all = λ isnt. (refl, copy.in_body);
    }

pub all_told : {limit : ℕ} {rules : CopyRules} {seen : List Piece → Type 0} {written : List ℕ → Type 0} {m : Parser}
    {held bytes : List ℕ} {len : ℕ} (told : List Piece → Type 0)
    (h : HasCopied limit rules seen written m held len bytes) → is_complete m ≡ true → told h.pieces
    → IsTold limit false told bytes
unfolding whole_copy
all_told told h complete is = copy_told told (whole_copy h complete) is

-- whether it is done or not
pub told_weaker : {limit : ℕ} {told later : List Piece → Type 0} {file : List ℕ} (done : Bool)
    → ((ps : List Piece) → told ps → later ps) → IsTold limit false told file → IsTold limit done later file
told_weaker done weaker t = record {
  pieces = t.pieces;
  rest = t.rest;
  later = t.later;
  cut = t.cut;
  whole = t.whole;
  words = t.words;
  allowed = t.allowed;
  is_told = weaker t.pieces t.is_told;
  all = λ isnt. t.all refl;
}
