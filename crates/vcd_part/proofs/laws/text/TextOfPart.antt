-- The bytes of the part of a file spell the items of its pieces.
use Rattle.std.proofs.Common.{◌≡◌, ℕ, ◌∙◌, ◌≤◌, Bool, true, false, not, List, [], ◌∷◌, ◌++◌, refl}
use Rattle.std.proofs.Common.{arith, All, drop, decimal, if◌then◌else◌, None}
use Rattle.std.specs.Prelude.{Result, Ok, Err, option_to_list}
use Rattle.std.specs.List.{list_all, list_any, prefix_len, suffix_len}
use Rattle.std.proofs.lemmas.List.Elements.{All-nil, All-cons, All-append, All-drop}
use Rattle.vcd_core.specs.Word.{is_white_space}
use Rattle.vcd_core.specs.declared.capture.TheConstants.{END_LIMIT}
use Rattle.vcd_text.specs.Words.{words_of}
use Rattle.vcd_text.specs.Items.{Item, entry, timescale, scope, upscope, variable, end_definitions, stamp, scalar}
use Rattle.vcd_text.specs.Items.{vector, real_or_string, dump_word, other, spellings}
use Rattle.vcd_text.specs.Grammar.{ParseState, AllowsAll, initial_state, word_texts, state_after_item}
use Rattle.vcd_text.specs.Grammar.{declaration_of}
use Rattle.vcd_copy.specs.Pieces.{Piece, IsCut, state_of_pieces}
use Rattle.vcd_copy.specs.Copied.{piece_items}
use Rattle.vcd_text.specs.declared.reading.choice.TickRange.{TickRange}
use Rattle.vcd_text.proofs.read_back.Words.{is_unbroken}
use Rattle.vcd_text.proofs.read_back.WholeText.{one_word, longer_unbroken, decimal_unbroken}
use Rattle.vcd_copy.proofs.pieces.Bytes.{texts_are, joined_words}
use Rattle.vcd_copy.proofs.pieces.Cuts.{SpellsItem, IsTight, SpaceIsWhite, HasSomeSpace, word_ends}
use Rattle.vcd_copy.proofs.shared.SpelledItems.{bytes_spell}
use Rattle.vcd_part.specs.declared.request.Request.{Request}
use Rattle.vcd_part.specs.PartPieces.{part_after, part_pieces, pieces_of_step, on_own_line}
use Rattle.vcd_copy.specs.Pieces.{piece_bytes}
use Rattle.vcd_part.specs.PartPieces.{ended_in_part}
use Rattle.vcd_part.specs.declared.request.Refusal.{Refusal}
use Rattle.vcd_part.specs.Requests.{keeps, decide}
use Rattle.vcd_part.proofs.laws.EmptyStamps.{all_without, later_without}
use Rattle.vcd_part.proofs.laws.states.StatesInTurn.{without_limit, next_state}
use Rattle.vcd_part.proofs.laws.states.CommentWords.{comment_spelled, comment_tight}
use Rattle.vcd_part.proofs.laws.text.PiecesOfPart.{all_after}

-- ---- the word of a stamp

unbroken_has_no_space : (w : List ℕ) → is_unbroken w ≡ true → list_all (λ b. not (is_white_space b)) w ≡ true
unbroken_has_no_space [] unbroken = refl
unbroken_has_no_space (b ∷ bs) unbroken = unbroken

stamp_unbroken : (u : ℕ) → u ≤ END_LIMIT → is_unbroken (35 ∷ decimal u) ≡ true
stamp_unbroken u most = longer_unbroken 35 (decimal u) refl
    (unbroken_has_no_space (decimal u) (decimal_unbroken u (omega (arith, most))))

stamp_texts : (u : ℕ) → u ≤ END_LIMIT → word_texts (words_of (35 ∷ decimal u)) ≡ (35 ∷ decimal u) ∷ []
stamp_texts u most = texts_are (35 ∷ decimal u)
    ∙ joined_words ((35 ∷ decimal u) ∷ []) (one_word (35 ∷ decimal u) (stamp_unbroken u most))

stamp_tight : (u : ℕ) → u ≤ END_LIMIT → (prefix_len is_white_space (35 ∷ decimal u) ≡ 0)
    × (suffix_len is_white_space (35 ∷ decimal u) ≡ 0)
stamp_tight u most = (refl, (word_ends (35 ∷ decimal u) (stamp_unbroken u most)).ends)

-- ---- white space stands before each piece of the part after the first

-- any piece
abbrev IsAny : Piece → Type 0
IsAny p = Unit {0}

any_all : (ps : List Piece) → All IsAny ps
any_all ps = λ k d within. tt

drop_both : (xs ys : List Piece) → All HasSomeSpace (drop 1 xs) → All HasSomeSpace ys
    → All HasSomeSpace (drop 1 (xs ++ ys))
drop_both [] ys first rest = All-drop HasSomeSpace 1 ys rest
drop_both (x ∷ xs) ys first rest = All-append HasSomeSpace xs ys first rest

module _ (r : Request) where
  some_after : (before ps : List Piece) (s : ParseState) → state_of_pieces 0 before ≡ without_limit s
      → AllowsAll s (piece_items ps) → All HasSomeSpace ps → All HasSomeSpace (part_after r before ps)
  some_after before ps s same allows some = all_after r HasSomeSpace IsAny (λ p u most is. is) (λ u most. omega arith)
      (λ p is. omega arith) (λ w a b p order is. is) before ps s same allows (any_all before) (any_all ps) some

  first_apart : (i : Item) (space body : List ℕ)
      → All HasSomeSpace (drop 1 (pieces_of_step r [] (record { item = i; space = space; body = body })))
  first_apart i space body = by_item i
    where
      ended : (i : Item) (o : Result TickRange Refusal) → All HasSomeSpace (drop 1 (ended_in_part r [] (record {
        item =
            i;
        space = space;
        body = body;
      }) o))
      ended i (Ok w) = All-cons HasSomeSpace (on_own_line (record { item = i; space = space; body = body })) [] (omega
          arith) (All-nil HasSomeSpace)
      ended i (Err e) = All-nil HasSomeSpace

      by_test : (b : Bool) (p : Piece) → All HasSomeSpace (drop 1 (if b then p ∷ [] else []))
      by_test true p = All-nil HasSomeSpace
      by_test false p = All-nil HasSomeSpace

      by_item : (i : Item)
          → All HasSomeSpace (drop 1 (pieces_of_step r [] (record { item = i; space = space; body = body })))
      by_item (entry kind ws) = All-nil HasSomeSpace
      by_item (timescale ws) = All-nil HasSomeSpace
      by_item (scope kind ws) = All-nil HasSomeSpace
      by_item upscope = All-nil HasSomeSpace
      by_item (variable ws) = by_test (list_any (keeps r) (option_to_list (declaration_of (initial_state 0) ws)))
          (record { item = variable ws; space = space; body = body })
      by_item end_definitions = ended end_definitions (decide r None [])
      by_item (stamp digits) = ended (stamp digits) (decide r None [])
      by_item (scalar digit code) = ended (scalar digit code) (decide r None [])
      by_item (vector first digits code) = ended (vector first digits code) (decide r None [])
      by_item (real_or_string first text code) = ended (real_or_string first text code) (decide r None [])
      by_item (dump_word word) = All-nil HasSomeSpace
      by_item (other word ws) = All-nil HasSomeSpace

  apart_again : (limit : ℕ) (ps : List Piece) → AllowsAll (initial_state limit) (piece_items ps)
      → All HasSomeSpace (drop 1 ps) → All HasSomeSpace (drop 1 (part_after r [] ps))
  unfolding part_after
  apart_again limit [] allows some = All-drop HasSomeSpace 1 (part_after r [] []) (some_after [] [] (initial_state
      limit)
      refl tt (All-nil HasSomeSpace))
  apart_again limit (p ∷ ps) allows some = drop_both (pieces_of_step r [] p) (part_after r (p ∷ []) ps) (first_apart
      p.item p.space p.body) (some_after (p ∷ []) ps (state_after_item (initial_state limit) p.item) (next_state [] p
      (initial_state limit) refl) allows.1 some)

-- ---- the bytes of the part

module _ (r : Request) (limit : ℕ) (file : List ℕ) (pieces : List Piece) (tail : List ℕ)
    (cut : IsCut file pieces tail) (allowed : AllowsAll (initial_state limit) (piece_items pieces)) where
  -- with all stamps within the window
  abbrev whole : List Piece
  whole = part_after r [] pieces

  part_spells : All SpellsItem (part_pieces r pieces)
  part_spells = all_without SpellsItem whole (all_after r SpellsItem SpellsItem (λ p u most is. stamp_texts u most)
      (λ u most. stamp_texts u most) (λ p is. is) (λ w a b p order is. comment_spelled w order a b p.space) [] pieces
      (initial_state limit) refl allowed (All-nil SpellsItem) cut.spelled cut.spelled)

  part_spaces : All SpaceIsWhite (part_pieces r pieces)
  part_spaces = all_without SpaceIsWhite whole (all_after r SpaceIsWhite SpaceIsWhite (λ p u most is. is)
      (λ u most. refl) (λ p is. refl) (λ w a b p order is. is) [] pieces (initial_state limit) refl allowed
      (All-nil SpaceIsWhite) cut.spaces cut.spaces)

  pub part_spelled : word_texts (words_of (piece_bytes (part_pieces r pieces) ++ tail))
      ≡ spellings (piece_items (part_pieces r pieces))
  part_spelled = texts_are (piece_bytes (part_pieces r pieces) ++ tail)
      ∙ bytes_spell tail cut.end (part_pieces r pieces)
      (later_without HasSomeSpace whole (apart_again r limit pieces allowed cut.apart)) part_spaces part_spells

  part_tight : All IsTight (part_pieces r pieces)
  part_tight = all_without IsTight whole (all_after r IsTight IsTight (λ p u most is. stamp_tight u most)
      (λ u most. stamp_tight u most) (λ p is. is) (λ w a b p order is. comment_tight w order a b p.space) [] pieces
      (initial_state limit) refl allowed (All-nil IsTight) cut.tight cut.tight)

  -- the bytes are cut into the pieces
  pub part_is_cut : IsCut (piece_bytes (part_pieces r pieces) ++ tail) (part_pieces r pieces) tail
  part_is_cut = record {
    whole = refl;
    spelled = part_spells;
    tight = part_tight;
    spaces = part_spaces;
    apart = later_without HasSomeSpace whole (apart_again r limit pieces allowed cut.apart);
    end = cut.end;
  }
