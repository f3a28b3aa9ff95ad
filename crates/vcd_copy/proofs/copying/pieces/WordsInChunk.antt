-- One more word of a chunk that is copied.
use Rattle.std.proofs.Common.{◌≡◌, ◌∙◌, ◌⊎◌, inl, inr, ℕ, ◌+◌, ◌-◌, true, false, cond, List, [], ◌∷◌, ◌++◌}
use Rattle.std.proofs.Common.{length, sym, ap, subst, arith, append_assoc}
use Rattle.std.proofs.lemmas.List.{append-nil, length-append}
use Rattle.std.proofs.lemmas.Bool.{cases_Bool}
use Rattle.vcd_core.specs.declared.device.Sink as sinks
use Rattle.vcd_text.specs.Words.{WordOnLine}
use Rattle.vcd_copy.specs.Pieces.{state_of_pieces, Piece}
use Rattle.vcd_copy.specs.Copied.{CopyRules, copied_piece}
use Rattle.vcd_copy.specs.inside.Copying.{HasCopiedUpTo, IsUnwritten, HasPassed, IsHeldPiece, EndsPiece}
use Rattle.vcd_copy.specs.inside.Copying.{Adds, EmitsAllBut, IsSpacedWord, stands_open, standing_part}
use Rattle.vcd_text.specs.inside.reading.Part.{Asked}
use Rattle.vcd_text.specs.inside.reading.Parser.{IsAtState, WordStep, goes_on, ends_item}
use Rattle.vcd_text.specs.EmittedText.{Emits}
use Rattle.vcd_copy.specs.declared.copying.pieces.Held.{Held}
use Rattle.vcd_text.specs.declared.reading.parser.Parser.{Parser}
use Rattle.vcd_text.specs.declared.reading.parser.OpenItem.TheVariants as items
use Rattle.vcd_text.specs.declared.writing.output.Output.{Output}
use Rattle.vcd_text.proofs.read_back.Words.{is_unbroken}
use Rattle.vcd_copy.proofs.copying.pieces.CopiedWords.{goes_on_copied, ended_copied, piece, ends_piece, piece_held}
use Rattle.vcd_copy.proofs.copying.pieces.CopiedWords.{piece_ended}
use Rattle.vcd_copy.proofs.copying.pieces.EndedItems.{nothing_open, something_open}
use Rattle.vcd_copy.proofs.copying.pieces.StandingBytes.{adds_text, nothing_added}

-- ---- one word

module _ {W : Type 0} (sink : sinks.Ghosts W) (limit : ℕ) (rules : CopyRules)
    (seen_before seen_after : List Piece → Type 0) (start o0 o1 : Output W) (old new : Parser)
    (held0 marked held2 : Held) (all0 item0 rest0 all1 item1 rest before bytes : List ℕ) (w : WordOnLine)
    (r : HasCopiedUpTo sink limit rules seen_before start o0 old held0 all0 item0 rest0 before)
    (rest_is : rest0 ≡ bytes ++ rest) (s : IsSpacedWord before bytes w.text) (whole : is_unbroken w.text ≡ true)
    (same : marked.bytes.items ≡ held0.bytes.items)
    (first : old.item ≡ items.Nothing
    → marked.space_len ≡ length held0.bytes.items + (length item0 - length rest - length w.text))
    (still : (old.item ≡ items.Nothing → ⊥) → marked.space_len ≡ held0.space_len) (later : Asked) where
  -- what is held with the word
  abbrev pub with_word : List ℕ
  with_word = marked.bytes.items ++ (r.begun ++ bytes)

  with_word_is : with_word ≡ (held0.bytes.items ++ r.begun) ++ bytes
  with_word_is = ap (λ l. l ++ (r.begun ++ bytes)) same
      ∙ sym (append_assoc held0.bytes.items r.begun bytes)

  pub unwritten_now : IsUnwritten marked.bytes.items all0 item0 rest r.known (r.begun ++ bytes)
  unwritten_now = record {
    all_is = r.unwritten.all_is;
    item_is = r.unwritten.item_is ∙ ap (λ l. r.begun ++ l) rest_is ∙ sym (append_assoc r.begun bytes rest);
    one = subst (λ l. (l ≡ []) ⊎ (r.known ≡ [])) (sym same) r.unwritten.one;
  }

  long : length item0 ≡ length r.begun + (length bytes + length rest)
  long = omega (
    arith,
    ap (length {A = ℕ}) r.unwritten.item_is,
    ap (length {A = ℕ}) rest_is,
    length-append r.begun rest0,
    length-append bytes rest,
  )

  len_first : old.item ≡ items.Nothing
      → marked.space_len ≡ length (held0.bytes.items ++ r.begun) + (length bytes - length w.text)
  len_first nothing = omega (
    arith,
    first nothing,
    long,
    ap (length {A = ℕ}) s.is,
    length-append s.space w.text,
    length-append held0.bytes.items r.begun,
  )

  -- what is so if a word ends no item
  abbrev pub GoesOn : Type 0
  GoesOn = (stands_open new.item ≡ true → HasPassed sink o0 o1 held2.bytes.items all1 item1 rest r.known
      (standing_part rules r.copied.pieces old.item with_word))
      × (stands_open new.item ≡ false → (item1 ≡ item0) × (all1 ≡ all0)
      × (held2.bytes.items ≡ marked.bytes.items) × Emits sink o0 o1 [])
      × seen_after r.copied.pieces × (held2.space_len ≡ marked.space_len)

  -- and if it ends one
  abbrev pub Ends : Piece → Type 0
  Ends p = HasPassed sink o0 o1 held2.bytes.items all1 item1 rest r.known
      (cond (stands_open old.item) with_word (copied_piece rules r.copied.pieces p))
      × seen_after (r.copied.pieces ++ p ∷ [])

  module _ (at : IsAtState later new (state_of_pieces limit r.copied.pieces) (r.copied.begun ++ w ∷ []))
      (goes : GoesOn) where
    item_stands : stands_open new.item ≡ true
        → HasCopiedUpTo sink limit rules seen_after start o1 new held2 all1 item1 rest (before ++ bytes)
    item_stands stands =
        let e = goes.0 stands in
        let part : List ℕ = standing_part rules r.copied.pieces old.item with_word in
        record {
          known = e.later;
          begun = [];
          unwritten = record {
            all_is = e.all_is ∙ ap (λ l. e.later ++ l) (sym e.item_is);
            item_is = e.item_is;
            one = inl e.none;
          };
          copied = goes_on_copied limit rules seen_before (EmitsAllBut sink start o0 r.known) old
              (held0.bytes.items ++ r.begun) with_word held0.space_len marked.space_len before bytes w r.copied s whole
              with_word_is len_first still seen_after (EmitsAllBut sink start o1 e.later) (held2.bytes.items ++ [])
              held2.space_len later new at goes.2 (subst (λ t. Adds (EmitsAllBut sink start o0 r.known)
              (EmitsAllBut sink start o1 e.later) (cond t part [])) (sym stands) (adds_text _ _ _ e.adds))
              (append-nil held2.bytes.items ∙ e.none ∙ sym (ap (λ t. cond t [] with_word) stands)) goes.3;
        }

    item_held : stands_open new.item ≡ false
        → HasCopiedUpTo sink limit rules seen_after start o1 new held2 all1 item1 rest (before ++ bytes)
    item_held held =
        let (as_before, all_as_before, kept, writes) = goes.1 held in
        let part : List ℕ = standing_part rules r.copied.pieces old.item with_word in
        record {
          known = r.known;
          begun = r.begun ++ bytes;
          unwritten = record {
            all_is = all_as_before ∙ unwritten_now.all_is ∙ ap (λ l. r.known ++ l) (sym as_before);
            item_is = as_before ∙ unwritten_now.item_is;
            one = subst (λ l. (l ≡ []) ⊎ (r.known ≡ [])) (sym kept) unwritten_now.one;
          };
          copied = goes_on_copied limit rules seen_before (EmitsAllBut sink start o0 r.known) old
              (held0.bytes.items ++ r.begun) with_word held0.space_len marked.space_len before bytes w r.copied s whole
              with_word_is len_first still seen_after (EmitsAllBut sink start o1 r.known)
              (held2.bytes.items ++ (r.begun ++ bytes)) held2.space_len later new at goes.2 (subst (λ t. Adds
              (EmitsAllBut sink start o0 r.known) (EmitsAllBut sink start o1 r.known) (cond t part [])) (sym held)
              (adds_text _ _ _ (nothing_added r.known writes))) (ap (λ l. l ++ (r.begun ++ bytes)) kept
              ∙ sym (ap (λ t. cond t
              [] with_word) held)) goes.3;
        }

    pub item_goes_on : HasCopiedUpTo sink limit rules seen_after start o1 new held2 all1 item1 rest (before ++ bytes)
    item_goes_on = elim (cases_Bool (stands_open new.item)) [
      | inl stands ↦ item_stands stands
      | inr held ↦ item_held held
    ]

  -- the piece that the word ends, if it ends one
  pub ended_piece : WordStep later (state_of_pieces limit r.copied.pieces) (r.copied.begun ++ w ∷ []) new
      → new.item ≡ items.Nothing → (p : Piece) × EndsPiece limit r.copied.pieces p old.item w.text new
      × IsHeldPiece old.item with_word marked.space_len p
  ended_piece step nothing = piece_ended limit rules seen_before (EmitsAllBut sink start o0 r.known) old
      (held0.bytes.items ++ r.begun) with_word held0.space_len marked.space_len before bytes w r.copied s whole
      with_word_is len_first still seen_after (EmitsAllBut sink start o1 r.known) [] 0 later new step nothing

  -- the word is copied
  pub word_copied : WordStep later (state_of_pieces limit r.copied.pieces) (r.copied.begun ++ w ∷ []) new
      → (new.item ≡ items.Nothing → (p : Piece) → EndsPiece limit r.copied.pieces p old.item w.text new
      → IsHeldPiece old.item with_word marked.space_len p → Ends p) → ((new.item ≡ items.Nothing → ⊥) → GoesOn)
      → HasCopiedUpTo sink limit rules seen_after start o1 new held2 all1 item1 rest (before ++ bytes)
  word_copied (goes_on at) ends goes = item_goes_on at (goes (something_open new r.copied.begun w new.item at.1))
  word_copied (ends_item i spelled allows at) ends goes =
      let written = EmitsAllBut sink start o0 r.known in
      let held : List ℕ = held0.bytes.items ++ r.begun in
      let p = piece limit rules seen_before written old held with_word held0.space_len marked.space_len before bytes w
      r.copied s whole with_word_is len_first still seen_after written [] 0 later new i spelled allows at in
      let (e, seen) = ends (nothing_open new new.item at.1) p (ends_piece limit rules seen_before written old held
      with_word held0.space_len marked.space_len before bytes w r.copied s whole with_word_is len_first still seen_after
      written [] 0 later new i spelled allows at) (piece_held limit rules seen_before written old held with_word
      held0.space_len marked.space_len before bytes w r.copied s whole with_word_is len_first still seen_after written
      []
      0 later new i spelled allows at) in
      record {
        known = e.later;
        begun = [];
        unwritten = record {
          all_is = e.all_is ∙ ap (λ l. e.later ++ l) (sym e.item_is);
          item_is = e.item_is;
          one = inl e.none;
        };
        copied = ended_copied limit rules seen_before written old held with_word held0.space_len marked.space_len before
            bytes w r.copied s whole with_word_is len_first still seen_after (EmitsAllBut sink start o1 e.later)
            (held2.bytes.items ++ []) held2.space_len later new i spelled allows at seen (adds_text _ _ _ e.adds)
            (append-nil held2.bytes.items ∙ e.none);
      }
